use Rattle.std.proofs.Common.{◌≡◌, ◌++◌, ◌≤◌, length, take}
use Rattle.script_text.specs.Escaped.{escaped}
use Rattle.script_text.proofs.frame_lines.push_escaped.Given as goal

abbrev pub invariant-loop-at : goal.invariant-loop-at
invariant-loop-at l = (l.into ++ escaped l.rest ≡ l.fn.into ++ escaped l.bytes) × (take (length l.fn.into) l.into ≡ l.fn.into) × (length l.rest ≤ length l.bytes)

abbrev pub decreases-loop-at : goal.decreases-loop-at
decreases-loop-at l = length l.rest
