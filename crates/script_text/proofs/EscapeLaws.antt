-- What is decoded from escaped bytes is those bytes.
use Rattle.std.proofs.Common.{◌≡◌, ◌≢◌, ℕ, suc, ◌<◌, Bool, true, false, not, ◌&&◌, ◌==◌, [], ◌∷◌, ◌++◌, get_or, refl, sym, ap, ◌∙◌, true≢false, if◌then◌else◌}
use Rattle.std.specs.Char.{is_ascii_graphic}
use Rattle.std.proofs.lemmas.Bool.{eq-eqb}
use Rattle.percent_encoding.specs.Percent.{percent_encode_byte, percent_decode}
use Rattle.percent_encoding.proofs.PercentLemmas.{percent_decode-nil, percent_decode_not_percent, percent_decode-percent_encode_byte}
use Rattle.byte_text.specs.Names.{Bytes}
use Rattle.script_text.specs.Escaped.{is_kept, escaped}

kept_is : (a c : Bool) → (a && not c) ≡ true → c ≡ false
kept_is true true e = sym e
kept_is true false e = refl
kept_is false c e = absurd (true≢false (sym e))

no_percent : (b : ℕ) → is_kept b ≡ true → b ≢ 37
no_percent b e is = true≢false (sym (eq-eqb b 37 is) ∙ kept_is (is_ascii_graphic b) (b == 37) e)

one_byte : (b : ℕ) (bytes rest : Bytes) (t : Bool) → is_kept b ≡ t → b < 256 → percent_decode rest ≡ bytes → percent_decode ((if t then b ∷ [] else percent_encode_byte b) ++ rest) ≡ b ∷ bytes
one_byte b bytes rest true k small e = percent_decode_not_percent b rest (no_percent b k) ∙ ap (λ x. b ∷ x) e
one_byte b bytes rest false k small e = percent_decode-percent_encode_byte b rest small ∙ ap (λ x. b ∷ x) e

pub decoded : (bytes : Bytes) → ((i : ℕ) → get_or bytes i 0 < 256) → percent_decode (escaped bytes) ≡ bytes
decoded [] h = percent_decode-nil
decoded (b ∷ bytes) h = one_byte b bytes (escaped bytes) (is_kept b) refl (h 0) (decoded bytes (λ i. h (suc i)))
