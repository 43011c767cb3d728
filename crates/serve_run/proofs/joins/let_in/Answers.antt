use Rattle.std.proofs.Common.{subst, true}
use Rattle.std.specs.Prelude.{Option}
use Rattle.serve_run.specs.declared.tends.ServeEnd.{ServeEnd}
use Rattle.serve_run.specs.LoopStates.{loop_state}
use Rattle.serve_run.specs.LoopEnds.{Leaves}
use Rattle.serve_run.proofs.joins.let_in.Goals as goal

pub returns-in-Some-clause-turn : goal.returns-in-Some-clause-turn
returns-in-Some-clause-turn g c = λ told t old feeds h.
    subst (λ (r : Option ServeEnd). Leaves told c.args.terms old t feeds (loop_state (g.H.HallApi.knows c.let_one_in-end.new.seat) (g.D.ReadyDoor.shows c.let_one_in-end.new.door)
    (g.W.WaitForLinks.shows c.let_one_in-end.new.wait) c.let_one_in-end.new.table.items c.let_one_in-end.new.counts.joined c.let_one_in-end.new.counts.starved
    c.let_one_in-end.new.counts.is_over true) r) c.in-Some.is (c.let_one_in-end.ensures.turn told t old feeds (c.loop.invariant.keeps told old t feeds h))
