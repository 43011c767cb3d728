use Rattle.std.proofs.Common.{◌≡◌, List, arith, sym, subst}
use Rattle.turn_lock.proofs.Allowing.{adds}
use Rattle.turn_lock.specs.Turned.{NoneKept}
use Rattle.turn_lock.specs.Seats.{worked}
use Rattle.turn_lock.proofs.lock.TurnLock.commit.Goals as goal

pub load-requires : goal.load-requires
load-requires g c = (
  c.requires.table,
  omega (arith, c.args.self.now.sized.0),
  adds _ _ _ _ _ _ _ c.requires.works.0 _ c.requires.works.1 c.requires.aside.0 c.requires.aside.1 (λ off. subst (NoneKept g.T.Turned.kept) (sym c.requires.entries) (c.requires.may off)),
)

pub returns-clause-turn : goal.returns-clause-turn
returns-clause-turn g c = λ log e. let t = c.load.ensures.2 log e in
    (subst (λ (es : List g.row.T-Entry.Denot). c.load.new.seat.me ≡ (worked c.args.seat.now.me.0 log es, c.args.seat.now.me.1)) c.requires.entries t.0, t.1)

pub returns-clause-kept : goal.returns-clause-kept
returns-clause-kept g c = (c.load.ensures.2 c.requires.works.0 c.requires.works.1).2

pub returns-clause-own : goal.returns-clause-own
returns-clause-own g c = (c.load.ensures.2 c.requires.works.0 c.requires.works.1).3
