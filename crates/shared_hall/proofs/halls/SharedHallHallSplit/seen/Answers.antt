use Rattle.turn_lock.specs.Seats.{known_of}
use Rattle.shared_hall.proofs.Joining.{they_ascend, they_are_seen}
use Rattle.shared_hall.proofs.halls.SharedHallHallSplit.seen.Goals as goal

pub returns-clause-own : goal.returns-clause-own
returns-clause-own g c = they_ascend (known_of c.args._seat.now).mine c.requires.own.ascend

pub returns-clause-stand : goal.returns-clause-stand
returns-clause-stand g c = they_are_seen (known_of c.args._seat.now) c.requires.own
