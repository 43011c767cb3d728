use Rattle.turn_lock.specs.Seats.{known_of}
use Rattle.shared_hall.proofs.Joining.{split_legal}
use Rattle.shared_hall.proofs.halls.SharedHallHallSplit.split.Goals as goal

pub returns-clause-made : goal.returns-clause-made
returns-clause-made g c =
    let k = c.split.ensures in
    record { seat = k.new.0; own = k.own; legal = split_legal (known_of c.args.seat.now) (known_of c.split.result) k.new.1 c.requires.legal }
