use Rattle.std.proofs.Common.{◌≡◌, ◌++◌, ◌<◌, ◌^◌, decimal, take}
use Rattle.byte_text.proofs.numbers.with_digits.Given as goal

abbrev pub invariant-loop-at : goal.invariant-loop-at
invariant-loop-at l = (0 < l.longer) × (l.longer < 2 ^ 64) × (decimal l.longer ≡ decimal l.fn.n ++ take l.at l.digits)
