use Rattle.std.proofs.Common.{true, subst}
use Rattle.std.specs.Prelude.{Option}
use Rattle.serve_run.specs.declared.tends.ServeEnd.{ServeEnd}
use Rattle.serve_run.specs.Feeds.{FedBy}
use Rattle.serve_run.specs.LoopStates.{loop_state}
use Rattle.serve_run.specs.LoopEnds.{LeavesBy}
use Rattle.serve_run.proofs.loops.serve_with.Goals as goal

pub returns-in-Some-end-clause-turn : goal.returns-in-Some-end-clause-turn
returns-in-Some-end-clause-turn g c = λ old feeds by h.
    let kept = c.loop.invariant.keeps old feeds by h in
    subst (λ (r : Option ServeEnd). LeavesBy (FedBy (g.H.FeedApi.answers c.args.hall.now) c.args.terms) (g.C.Clock.told c.args.clock.now) c.args.terms
    old c.round-end.new.work.pace.tending (loop_state (g.H.HallApi.knows c.round-end.new.seat)
    (g.D.ReadyDoor.shows c.round-end.new.door) (g.W.WaitForLinks.shows c.round-end.new.wait) c.round-end.new.table.items c.round-end.new.counts.joined
    c.round-end.new.counts.starved c.round-end.new.counts.is_over true) r) c.in-Some-end.is (c.round-end.ensures.turn old kept.0 kept.1 kept.2)

pub loop-preserved : goal.loop-preserved
loop-preserved g c = record {
  next = tt;
  finite = tt;
  seat = c.round-end.ensures.seat;
  some = c.round-end.ensures.some;
  bare = c.round-end.ensures.bare;
  places = c.round-end.ensures.places;
  room = c.round-end.ensures.room;
  few = c.round-end.ensures.few;
  keeps = λ old feeds by h.
      let kept = c.loop.invariant.keeps old feeds by h in
      subst (λ (r : Option ServeEnd). LeavesBy (FedBy (g.H.FeedApi.answers c.args.hall.now) c.args.terms) (g.C.Clock.told c.args.clock.now) c.args.terms
      old c.round-end.new.work.pace.tending (loop_state (g.H.HallApi.knows c.round-end.new.seat)
      (g.D.ReadyDoor.shows c.round-end.new.door) (g.W.WaitForLinks.shows c.round-end.new.wait) c.round-end.new.table.items c.round-end.new.counts.joined
      c.round-end.new.counts.starved c.round-end.new.counts.is_over true) r) c.in_default.is (c.round-end.ensures.turn old kept.0 kept.1 kept.2);
}
