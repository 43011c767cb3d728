-- Whose seat a seat is, of a hall over a disk in memory, for the clauses of closures.
use Rattle.std.specs.Prelude.{false, Some}
use Rattle.outside.specs.Memory.{Plain}
use Rattle.shared_hall.specs.declared.halls.SharedHall.{SharedHall}
use Rattle.shared_hall.specs.Seats.{IsOf, LockSeat}

abbrev pub IsSeatOf : SharedHall Plain → LockSeat Plain → Type 0
IsSeatOf = IsOf (λ disk. false) (λ disk. Some disk.sides) (λ disk image. Unit {0}) (λ disk. 0) (λ disk since image. Unit {0}) (λ disk. disk.faults)
