use Rattle.std.proofs.Common.{◌≡◌, ◌<◌, ◌+◌, ℕ, vec_len, vec_capacity}
use Rattle.std.specs.Prelude.{slice_index_or}
use Rattle.run_list.specs.Runs.{start}
use Rattle.run_list.proofs.ends.recount.Given as goal

abbrev pub invariant-loop-k : goal.invariant-loop-k
invariant-loop-k l = record {
  len : vec_len l.ends ≡ l.k;
  count : l.count ≡ start l.runs l.k;
  each : (j : ℕ) (d : ℕ) → j < l.k → slice_index_or l.ends.items j d ≡ start l.runs (j + 1);
  capacity : vec_capacity l.ends ≡ vec_capacity l.fn.ends;
}
