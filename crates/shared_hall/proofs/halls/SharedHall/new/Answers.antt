use Rattle.std.proofs.Common.{refl}
use Rattle.shared_hall.specs.declared.places.HallCore.{HallCore}
use Rattle.shared_hall.specs.declared.places.Place.TheVariants.{Inside}
use Rattle.shared_hall.proofs.Opening.{opening_legal, stands_at}
use Rattle.shared_hall.proofs.halls.SharedHall.new.Goals as goal

pub new-requires : goal.new-requires
new-requires g c = let m = g.D.Disk in
    stands_at m.crashes m.seen m.images m.moment m.left_since m.faults g.met.D.Disk.from_earlier g.met.D.Disk.only_now _ c.args.core refl c.requires

pub returns-in-Ok-clause-seat : goal.returns-in-Ok-clause-seat
returns-in-Ok-clause-seat g c = let m = g.D.Disk in
    let h : HallCore g.row.D.Denot = record { place = Inside c.args.core; before = c.of-before.result; handed = c.args.handed } in
    record { seat = c.in-Ok.ensures.seat.0; own = c.in-Ok.ensures.own; legal = opening_legal m.crashes m.seen m.images m.moment m.left_since m.faults g.met.D.Disk.from_earlier g.met.D.Disk.only_now h c.args.core _ refl c.requires c.in-Ok.ensures.seat.1 }
