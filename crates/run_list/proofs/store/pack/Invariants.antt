use Rattle.std.proofs.Common.{◌≡◌, ◌<◌, ◌+◌, ◌*◌, ◌-◌, vec_len, vec_capacity}
use Rattle.run_list.specs.Runs.{flat, start, AreFilled, AreEmpty}
use Rattle.run_list.proofs.store.pack.Given as goal

abbrev pub invariant-loop-k : goal.invariant-loop-k
invariant-loop-k l = record {
  numbers : flat l.runs.items ≡ flat l.fn.runs.items;
  filled : AreFilled l.runs.items;
  empty : AreEmpty l.spares.items;
  owned : vec_len l.runs + vec_len l.spares ≡ vec_len l.fn.runs + vec_len l.fn.spares;
  places : vec_capacity l.runs ≡ vec_capacity l.fn.runs;
  stores : vec_capacity l.spares ≡ vec_capacity l.fn.spares;
  some : 0 < vec_len l.fn.runs → 0 < vec_len l.runs;
  full : start l.runs.items l.k ≡ l.k * 1024;
}

abbrev pub decreases-loop-k : goal.decreases-loop-k
decreases-loop-k l = vec_len l.runs - l.k
