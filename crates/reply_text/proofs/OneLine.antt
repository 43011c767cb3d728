-- Texts of one line.
use Rattle.std.proofs.Common.{◌≢◌, ℕ, [], ◌∷◌, ◌++◌, arith, map}
use Rattle.std.specs.Prelude.{codes}
use Rattle.std.proofs.lemmas.Bool.Decides.{nat_tests}
use Rattle.byte_text.specs.Lines.{IsOneLine}
use Rattle.byte_text.specs.Names.{Bytes}
use Rattle.world_model.specs.Refusals.{shown_byte, in_quotes}

pub joined : (a b : Bytes) → IsOneLine a → IsOneLine b → IsOneLine (a ++ b)
joined [] b p q = q
joined (x ∷ a) b p q = (p.0, joined a b p.1 q)

no_return : (b : ℕ) → shown_byte b ≢ 13
no_return b = grind (arith, nat_tests)

no_feed : (b : ℕ) → shown_byte b ≢ 10
no_feed b = grind (arith, nat_tests)

pub word : (w : Bytes) → IsOneLine (map shown_byte w)
word [] = tt
word (b ∷ w) = ((no_return b, no_feed b), word w)

pub quote : IsOneLine (codes "'")
quote = ((λ e. omega arith, λ e. omega arith), tt)

in_quotes_line : (w : Bytes) → IsOneLine (in_quotes w)
in_quotes_line w = joined (codes "'") (map shown_byte w ++ codes "'") quote (joined (map shown_byte w) (codes "'") (word w) quote)

pub quoted : (before w after : Bytes) → IsOneLine before → IsOneLine after → IsOneLine ((before ++ in_quotes w) ++ after)
quoted before w after p q = joined (before ++ in_quotes w) after (joined before (in_quotes w) p (in_quotes_line w)) q
