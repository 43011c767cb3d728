use Rattle.std.proofs.Common.{◌≡◌, ◌++◌, take, drop, length, flat_map}
use Rattle.byte_text.specs.Lines.{bulk_text}
use Rattle.byte_text.proofs.requests.push_each_word.Given as goal

abbrev pub invariant-loop-at : goal.invariant-loop-at
invariant-loop-at l = (l.into ++ flat_map bulk_text (drop l.at l.words) ≡ l.fn.into ++ flat_map bulk_text l.words) × (take (length l.fn.into) l.into ≡ l.fn.into)
