-- What makes bytes a name.
use Rattle.std.proofs.Common.{◌≡◌, ℕ, ◌≤◌, Bool, true, false, List, length, Some, None, refl, arith, rules, nat_eq, nat_lt}
use Rattle.std.specs.Str.{IsUtf8, is_utf8}
use Rattle.std.proofs.lemmas.Str.{IsUtf8-from_is_utf8, is_utf8-from_IsUtf8}
use Rattle.byte_text.specs.Names.{name_fault}
use Rattle.byte_text.specs.declared.texts.TextFault.TheVariants.{NotUtf8}

false_by : (b : Bool) → (b ≡ true → ⊥) → b ≡ false
false_by true h = absurd (h refl)
false_by false h = refl

pub not_utf8 : (w : List ℕ) → nat_eq (length w) 0 ≡ false → length w ≤ 255 → (IsUtf8 w → ⊥) → Some NotUtf8 ≡ name_fault w
not_utf8 w e l h =
    let a : nat_lt 255 (length w) ≡ false = search (rules, arith) in
    let b : is_utf8 w ≡ false = false_by (is_utf8 w) (λ t. h (IsUtf8-from_is_utf8 w t)) in
    rw (e, a, b) refl

pub no_fault : (w : List ℕ) → nat_eq (length w) 0 ≡ false → length w ≤ 255 → IsUtf8 w → None ≡ name_fault w
no_fault w e l u =
    let a : nat_lt 255 (length w) ≡ false = search (rules, arith) in
    rw (e, a, is_utf8-from_IsUtf8 w u) refl
