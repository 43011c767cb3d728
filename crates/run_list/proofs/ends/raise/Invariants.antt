use Rattle.std.proofs.Common.{◌≡◌, ◌≤◌, vec_capacity}
use Rattle.run_list.specs.Runs.{IsShifted}
use Rattle.run_list.proofs.ends.raise.Given as goal

abbrev pub invariant-loop-k : goal.invariant-loop-k
invariant-loop-k l = record {
  order : l.from ≤ l.k;
  shifted : IsShifted 0 1 l.fn.ends.items l.ends.items l.from l.k;
  capacity : vec_capacity l.ends ≡ vec_capacity l.fn.ends;
}
