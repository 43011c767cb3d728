use Rattle.std.proofs.Common.{◌≡◌, ◌++◌, length, take}
use Rattle.message_text.specs.Parts.{fields_part}
use Rattle.message_text.proofs.FieldTexts.{rest_of}
use Rattle.message_text.proofs.parts.push_fields.Given as goal

abbrev pub invariant-loop-i : goal.invariant-loop-i
invariant-loop-i l = (l.into ++ rest_of l.fields l.i ≡ l.fn.into ++ fields_part l.fn.fields) × (take (length l.fn.into) l.into ≡ l.fn.into)
