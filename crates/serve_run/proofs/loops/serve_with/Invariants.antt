use Rattle.std.proofs.Common.{◌≡◌, ◌≤◌, ◌<◌, [], true, length}
use Rattle.world_data.specs.Limits.{take_frames}
use Rattle.std.specs.Prelude.{List}
use Rattle.std.specs.List.{AllByRecursion}
use Rattle.serve_run.specs.Feeds.{Feed, FedBy}
use Rattle.serve_run.specs.Loops.{Around}
use Rattle.serve_run.specs.LoopStates.{Holds, loop_state}
use Rattle.serve_run.proofs.loops.serve_with.Given as goal

abbrev pub invariant-loop : goal.invariant-loop
invariant-loop g l = record {
  next : (goal.iterator-loop g).can_next l.iterator';
  finite : (goal.iterator-loop g).is_finite l.iterator';
  seat : g.H.HallApi.is_of l.hall l.seat;
  some : 0 < length l.work.block.items;
  bare : l.work.frames.list ≡ [];
  places : l.work.frames.places ≡ take_frames;
  room : l.counts.joined ≤ l.terms.limit;
  few : l.counts.starved ≤ l.counts.joined;
  keeps : (old : Around) → (feeds : List Feed) → AllByRecursion (FedBy (g.H.FeedApi.answers l.hall) l.terms) feeds
      → Holds (g.C.Clock.told l.clock) l.terms old l.initial.work.pace.tending feeds
      (loop_state (g.H.HallApi.knows l.initial.seat) (g.D.ReadyDoor.shows l.initial.door) (g.W.WaitForLinks.shows l.initial.wait) l.initial.table.items l.initial.counts.joined l.initial.counts.starved l.initial.counts.is_over true)
      → (after : List Feed) × AllByRecursion (FedBy (g.H.FeedApi.answers l.hall) l.terms) after
      × Holds (g.C.Clock.told l.clock) l.terms old l.work.pace.tending after
      (loop_state (g.H.HallApi.knows l.seat) (g.D.ReadyDoor.shows l.door) (g.W.WaitForLinks.shows l.wait) l.table.items l.counts.joined l.counts.starved l.counts.is_over true);
}
