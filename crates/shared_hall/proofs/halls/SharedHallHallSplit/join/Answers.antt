use Rattle.turn_lock.specs.Seats.{known_of}
use Rattle.shared_hall.proofs.Joining.{Joined, are_of_one, is_joined, joined_legal}
use Rattle.shared_hall.proofs.halls.SharedHallHallSplit.join.Goals as goal

pub returns-clause-one : goal.returns-clause-one
returns-clause-one g c =
    let k = c.join.ensures in
    let t : Joined (known_of c.args.seat.now) (known_of c.args.other) (known_of c.join.new.seat) = record { is = k.seat.1; left = k.seen.0; right = k.seen.1; apart = k.apart } in
    are_of_one _ _ _ _ c.requires.seat.seat.1 c.requires.other.seat.1 c.requires.seat.own c.requires.other.own t

pub returns-clause-joined : goal.returns-clause-joined
returns-clause-joined g c =
    let k = c.join.ensures in
    let t : Joined (known_of c.args.seat.now) (known_of c.args.other) (known_of c.join.new.seat) = record { is = k.seat.1; left = k.seen.0; right = k.seen.1; apart = k.apart } in
    is_joined _ _ _ t

pub returns-clause-lent : goal.returns-clause-lent
returns-clause-lent g c =
    let k = c.join.ensures in
    let t : Joined (known_of c.args.seat.now) (known_of c.args.other) (known_of c.join.new.seat) = record { is = k.seat.1; left = k.seen.0; right = k.seen.1; apart = k.apart } in
    record { seat = k.seat.0; own = k.own; legal = joined_legal _ _ _ _ c.requires.seat.seat.1 c.requires.other.seat.1 t c.requires.seat.legal c.requires.other.legal }
