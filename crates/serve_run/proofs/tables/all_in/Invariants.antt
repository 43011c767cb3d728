use Rattle.std.proofs.Common.{◌≡◌, ℕ, length}
use Rattle.std.specs.Prelude.{Option}
use Rattle.serve_run.specs.Tends.{IsTold}
use Rattle.serve_run.specs.LoopStates.{FeedsTable}
use Rattle.serve_run.specs.Feeds.{FedBy}
use Rattle.serve_run.proofs.tables.all_in.Given as goal

abbrev pub invariant-loop-place : goal.invariant-loop-place
invariant-loop-place g l = record {
  seat : g.H.HallApi.is_of l.hall l.seat;
  ends : l.place-end ≡ length l.table.items;
  block : length l.block ≡ length l.initial.block;
  keeps : (told : Option ℕ) → IsTold told l.moment
      → FeedsTable (FedBy (g.H.FeedApi.answers l.hall) l.terms) told l.terms (g.H.HallApi.knows l.initial.seat)
      (g.H.HallApi.knows l.seat) l.initial.table.items l.table.items;
}
