use Rattle.std.proofs.Common.{◌≡◌, ◌+◌, ◌<◌, ◌≤◌, ℕ, length}
use Rattle.std.specs.Prelude.{slice_index}
use Rattle.fence_backtest.proofs.sums.add_each.Given as goal

abbrev pub invariant-loop-at : goal.invariant-loop-at
invariant-loop-at l = record {
  long : length l.numbers ≡ length l.initial.numbers;
  done : (i : ℕ) → i < l.at → slice_index l.numbers i ≡ slice_index l.initial.numbers i + slice_index l.others i;
  left : (i : ℕ) → l.at ≤ i → slice_index l.numbers i ≡ slice_index l.initial.numbers i;
}
