use Rattle.std.proofs.Common.{subst, sym, true}
use Rattle.serve_run.specs.declared.tendings.Tending.{Tending}
use Rattle.serve_run.specs.LoopStates.{Holds, loop_state}
use Rattle.serve_run.specs.Pacing.{untended}
use Rattle.serve_run.proofs.Looping.{starved_last}
use Rattle.serve_run.proofs.loops.serve_up_to.Goals as goal

pub returns-in_default-clause-turn : goal.returns-in_default-clause-turn
returns-in_default-clause-turn g c = λ old feeds by h. (
  feeds,
  by,
  starved_last (g.C.Clock.told c.args.clock.now) c.args.terms (g.H.HallApi.knows c.args.seat.now) (g.D.ReadyDoor.shows c.args.door.now)
      (g.W.WaitForLinks.shows c.args.wait.now) c.args.table.now.items c.args.counts.now.joined c.args.counts.now.starved c.args.counts.now.is_over old untended untended feeds h,
)

pub returns-in_default-new-clause-turn : goal.returns-in_default-new-clause-turn
returns-in_default-new-clause-turn g c = λ old feeds by h. (
  feeds,
  by,
  starved_last (g.C.Clock.told c.args.clock.now) c.args.terms (g.H.HallApi.knows c.args.seat.now) (g.D.ReadyDoor.shows c.args.door.now)
      (g.W.WaitForLinks.shows c.args.wait.now) c.args.table.now.items c.args.counts.now.joined c.args.counts.now.starved c.args.counts.now.is_over old untended untended feeds h,
)

pub returns-clause-turn : goal.returns-clause-turn
returns-clause-turn g c = λ old feeds by h.
    c.serve_with.ensures.turn old feeds by
    (subst (λ (x : Tending). Holds (g.C.Clock.told c.args.clock.now) c.args.terms old x feeds (loop_state (g.H.HallApi.knows c.args.seat.now)
    (g.D.ReadyDoor.shows c.args.door.now) (g.W.WaitForLinks.shows c.args.wait.now) c.args.table.now.items c.args.counts.now.joined c.args.counts.now.starved
    c.args.counts.now.is_over true)) (sym c.in-Ok-new.ensures.pace) h)
