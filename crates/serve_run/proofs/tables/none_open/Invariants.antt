use Rattle.std.proofs.Common.{◌≡◌, length}
use Rattle.serve_run.proofs.Places.{NoneBelow}
use Rattle.serve_run.proofs.tables.none_open.Given as goal

abbrev pub invariant-loop-place : goal.invariant-loop-place
invariant-loop-place g l = record {
  ends : l.place-end ≡ length l.table.items;
  none : NoneBelow l.place l.table.items;
}
