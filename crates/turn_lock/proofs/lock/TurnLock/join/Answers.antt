use Rattle.std.proofs.Common.{◌≡◌, arith, ◌∙◌, subst, rules}
use Rattle.turn_lock.proofs.Seating.{joins}
use Rattle.turn_lock.proofs.Allowing.{compares}
use Rattle.turn_lock.proofs.Ordered.{ascends_apart}
use Rattle.turn_lock.specs.Places.{Ascends, merge}
use Rattle.turn_lock.specs.Seats.{known_of}
use Rattle.turn_lock.proofs.lock.TurnLock.join.Goals as goal

pub join_seat-requires : goal.join_seat-requires
join_seat-requires g c =
    let r = c.requires.seat in
    let q = c.requires.other in
    (r.0, q.0, q.4, omega (arith, c.args.self.now.sized.0), joins _ _ _ _ c.args.seat.now.id c.args.seat.now.me.0 c.args.other.id c.args.other.me.0 r.2 r.5 r.6 q.2 q.5 q.6)

pub load-requires : goal.load-requires
load-requires g c = (c.join_seat.ensures.0 ∙ c.requires.seat.0, omega (arith, c.args.self.now.sized.0), compares _ _ _ _ _ c.join_seat.new.seat.id c.join_seat.new.seat.me)

pub returns-clause-apart : goal.returns-clause-apart
returns-clause-apart g c =
    let mine : (known_of c.load.new.seat).mine ≡ merge (known_of c.args.seat.now).mine (known_of c.args.other).mine = search rules in
    ascends_apart (known_of c.args.seat.now).mine (known_of c.args.other).mine (subst Ascends mine c.load.ensures.2.3.ascend)
