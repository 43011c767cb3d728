-- The first token of a pattern, and what a whole pattern meets.
use Rattle.std.proofs.Common.{◌≡◌, ◌≢◌, ℕ, Bool, true, false, ◌&&◌, nat_eq, nat_le, List, [], ◌∷◌, Option, Some, None, refl, sym, ap, ◌∙◌, arith, ne_eqb, true≢false, chars}
use Rattle.std.specs.Prelude.{is_some}
use Rattle.std.specs.Str.{IsUtf8, is_utf8}
use Rattle.std.proofs.lemmas.Str.{IsUtf8-from_is_utf8, is_utf8-from_IsUtf8}
use Rattle.std.proofs.lemmas.Bool.{le-leb, lt-leb, eqb-true, eq-eqb}
use mathlib.Core.Logic.{dite}
use native.Mathlib.Decide.{dec_le}
use Rattle.byte_text.specs.Names.{Bytes}
use Rattle.byte_text.specs.Globs.{Token, this_char, Sign, plain, outside, tokens_from, fits, tokens_meet, option_meets, glob_meets, is_well_formed}
use Rattle.glob_match.specs.Tokens.{left, with_token, Begins}

not_same : (d c : ℕ) → nat_eq d c ≡ false → d ≢ c
not_same d c e same = true≢false (sym (eq-eqb d c same) ∙ e)

-- a character meets itself alone
item_by : (d c : ℕ) (t : Bool) → nat_eq d c ≡ t → t ≡ fits false ((d, d) ∷ []) c
item_by d c true e =
    let same : d ≡ c = eqb-true d c e in
    let low : nat_le d c ≡ true = le-leb d c (omega (arith, same)) in
    let high : nat_le c d ≡ true = le-leb c d (omega (arith, same)) in
    rw (low, high) refl
item_by d c false e = dite (dec_le d c)
    (λ l. let far : nat_le c d ≡ false = lt-leb c d (omega (arith, l, not_same d c e)) in
    let low : nat_le d c ≡ true = le-leb d c l in
    rw (low, far) refl)
    (λ l. let far : nat_le d c ≡ false = lt-leb d c (omega (arith, l)) in rw far refl)

pub one_item : (d c : ℕ) → nat_eq d c ≡ fits false ((d, d) ∷ []) c
one_item d c = item_by d c (nat_eq d c) refl

pub plain_token : (ss rest : List Sign) (d : ℕ) → ss ≡ plain d ∷ rest → d ≢ 42 → d ≢ 63 → d ≢ 91 → tokens_from ss outside ≡ with_token (this_char d) (tokens_from rest outside)
plain_token ss rest d e p q r = rw (e, ne_eqb d 42 p, ne_eqb d 63 q, ne_eqb d 91 r) refl

pub plain_begins : (all rest : Option (List Token)) (d c : ℕ) → all ≡ with_token (this_char d) rest → Begins all rest c (nat_eq d c)
plain_begins all rest d c e = record { others = false; items = (d, d) ∷ []; same = e; hits = one_item d c }

-- a token before others does not change whether there are some
pub some_behind : (token : Token) (all rest : Option (List Token)) → all ≡ with_token token rest → is_some all ≡ is_some rest
some_behind token all None e = ap is_some e
some_behind token all (Some ts) e = ap is_some e

meets_by : (pattern name : Bytes) (r : Bool) (o : Option (List Token)) → left pattern outside ≡ o → is_some o ≡ true
    → ((ts : List Token) → left pattern outside ≡ Some ts → r ≡ tokens_meet ts (chars name)) → r ≡ option_meets o name
meets_by pattern name r None e s h = absurd (true≢false (sym s))
meets_by pattern name r (Some ts) e s h = h ts e

pub glob_is : (pattern name pattern' name' : Bytes) (r : Bool) → pattern' ≡ pattern → name' ≡ name → is_well_formed pattern ≡ true
    → ((ts : List Token) → left pattern' outside ≡ Some ts → r ≡ tokens_meet ts (chars name')) → r ≡ glob_meets pattern name
unfolding glob_meets is_well_formed
glob_is pattern name pattern' name' r p n w h =
    meets_by pattern name r (left pattern outside) refl w (λ ts e. h ts (ap (λ x. left x outside) p ∙ e) ∙ ap (λ x. tokens_meet ts (chars x)) n)

pub text_is : (w : Bytes) → is_utf8 w ≡ true → (IsUtf8 w → ⊥) → ⊥
text_is w e h = h (IsUtf8-from_is_utf8 w e)

pub formed_is : (pattern pattern' : Bytes) (r : Bool) → pattern' ≡ pattern → IsUtf8 pattern → r ≡ is_some (left pattern' outside) → r ≡ (is_utf8 pattern && is_well_formed pattern)
unfolding is_well_formed
formed_is pattern pattern' r p u e = rw (is_utf8-from_IsUtf8 pattern u) (e ∙ ap (λ x. is_some (left x outside)) p)

false_by : (b c : Bool) → (b ≡ true → ⊥) → false ≡ (b && c)
false_by true c h = absurd (h refl)
false_by false c h = refl

pub not_text : (pattern : Bytes) → (IsUtf8 pattern → ⊥) → false ≡ (is_utf8 pattern && is_well_formed pattern)
not_text pattern h = false_by (is_utf8 pattern) (is_well_formed pattern) (λ e. h (IsUtf8-from_is_utf8 pattern e))
