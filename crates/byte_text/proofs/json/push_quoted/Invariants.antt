use Rattle.std.proofs.Common.{◌≡◌, ◌++◌, ◌∷◌, drop, flat_map, length, take}
use Rattle.byte_text.specs.JsonText.{json_byte}
use Rattle.byte_text.proofs.json.push_quoted.Given as goal

abbrev pub invariant-loop-byte : goal.invariant-loop-byte
invariant-loop-byte l = (l.into ++ flat_map json_byte (drop l.byte-index l.bytes) ≡ l.fn.into ++ 34 ∷ flat_map json_byte l.bytes) × (take (length l.fn.into) l.into ≡ l.fn.into)
