use Rattle.std.proofs.Common.{◌≡◌, ◌<◌, ◌≤◌, ◌+◌, ◌-◌, ℕ, List, length, vec_len, vec_capacity}
use Rattle.std.specs.Prelude.{slice_index_or}
use Rattle.run_list.specs.Runs.{flat, AreEmpty}
use Rattle.run_list.proofs.sweeps.store_empty.Given as goal

abbrev pub invariant-loop-k : goal.invariant-loop-k
invariant-loop-k l = record {
  within : l.k ≤ vec_len l.runs;
  numbers : flat l.runs.items ≡ flat l.fn.runs.items;
  filled : (j : ℕ) (d : List ℕ) → j < l.k → 0 < length (slice_index_or l.runs.items j d);
  empty : AreEmpty l.spares.items;
  owned : vec_len l.runs + vec_len l.spares ≡ vec_len l.fn.runs + vec_len l.fn.spares;
  places : vec_capacity l.runs ≡ vec_capacity l.fn.runs;
  stores : vec_capacity l.spares ≡ vec_capacity l.fn.spares;
}

abbrev pub decreases-loop-k : goal.decreases-loop-k
decreases-loop-k l = vec_len l.runs - l.k
