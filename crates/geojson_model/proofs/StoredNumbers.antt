-- A number that a byte ends.
use Rattle.std.proofs.Common.{◌≡◌, ◌≢◌, ◌⊎◌, ℕ, zero, suc, ◌+◌, ◌-◌, ◌<◌, ◌≤◌, List, [], ◌∷◌, ◌++◌, length, get_or, take, drop, ℤ, pos, negsuc, decimal, refl, sym, ap, subst, ◌∙◌, length-append, arith, take_at, drop_at, take_all, Bool, ◌&&◌, nat_eq, eqb-true, eq-eqb, MatchOption, Bor, take-append-drop, true, false, true≢false, to_z, of_z, Result, Ok, Option, Some, None, IfSome, IsSome, inl, inr}
use Rattle.std.specs.Fmt.{signed_decimal}
use Rattle.std.proofs.lemmas.Int.{to_z-of_z}
use Rattle.byte_text.specs.declared.texts.TextFault.{TextFault}
use lib.Pointwise.{pointwise}
use mir.Val.{SFits}
use mir.Syntax.{w64}
use Rattle.byte_text.specs.NumberLaws.{AreDigits, AreDigits-decimal}
use Rattle.geojson_model.specs.Stored.{ended, Without}

-- none before this place
abbrev pub NoneBefore : List ℕ → ℕ → ℕ → Type 0
NoneBefore bytes end at = (text rest : List ℕ) → Without end text → bytes ≡ text ++ end ∷ rest → at ≤ length text

past : (end : ℕ) (text rest : List ℕ) (at : ℕ) → Without end text → get_or (text ++ end ∷ rest) at 0 ≡ end → length text ≤ at
past end [] rest at h e = omega arith
past end (b ∷ text) rest zero h e = absurd (h.0 e)
past end (b ∷ text) rest (suc at) h e = omega (arith, past end text rest at h.1 e)

inside : (end : ℕ) (text rest : List ℕ) (at : ℕ) → at ≤ length text → get_or (text ++ end ∷ rest) at 0 ≢ end → at < length text
inside end [] rest zero l h = absurd (h refl)
inside end [] rest (suc at) l h = absurd (omega (arith, l))
inside end (b ∷ text) rest zero l h = omega arith
inside end (b ∷ text) rest (suc at) l h = omega (arith, inside end text rest at (omega (arith, l)) h)

pub at_end : (bytes : List ℕ) (end at : ℕ) → NoneBefore bytes end at → get_or bytes at 0 ≡ end → (text rest : List ℕ) → Without end text → bytes ≡ text ++ end ∷ rest → Some at ≡ Some (length text)
at_end bytes end at h e text rest plain is =
    let same : at ≡ length text = omega (arith, h text rest plain is, past end text rest at plain (subst (λ (x : List ℕ). get_or x at 0 ≡ end) is e)) in
    ap Some same

pub before_end : (bytes : List ℕ) (end at : ℕ) → NoneBefore bytes end at → get_or bytes at 0 ≢ end → NoneBefore bytes end (at + 1)
before_end bytes end at h e text rest plain is =
    omega (arith, inside end text rest at (h text rest plain is) (subst (λ (x : List ℕ). get_or x at 0 ≢ end) is e))

pub no_end : (bytes : List ℕ) (end at : ℕ) → NoneBefore bytes end at → length bytes ≤ at → (text rest : List ℕ) → Without end text → bytes ≡ text ++ end ∷ rest → (r : Option ℕ) → r ≡ Some (length text)
no_end bytes end at h l text rest plain is r =
    let lengths : length bytes ≡ length text + length (end ∷ rest) = ap length is ∙ length-append text (end ∷ rest) in
    absurd (omega (arith, lengths, h text rest plain is, l))

no_byte : (end : ℕ) (ds : List ℕ) → (end ≡ 44) ⊎ (end ≡ 93) → AreDigits ds → Without end ds
no_byte end [] k h = tt
no_byte end (d ∷ ds) k h = (λ e. elim k [ inl i ↦ absurd (omega (arith, i, e, h.0.0)) | inr i ↦ absurd (omega (arith, i, e, h.0.1)) ], no_byte end ds k h.1)

pub without_number : (end : ℕ) (z : ℤ) → (end ≡ 44) ⊎ (end ≡ 93) → SFits w64 z → Without end (signed_decimal z)
without_number end (pos n) k fits = no_byte end (decimal n) k (AreDigits-decimal n (omega (arith, fits.sfits)))
without_number end (negsuc n) k fits = (λ e. elim k [ inl i ↦ absurd (omega (arith, i, e)) | inr i ↦ absurd (omega (arith, i, e)) ], no_byte end (decimal (suc n)) k (AreDigits-decimal (suc n) (omega (arith, fits.sfits))))

abbrev pub ok : ℤ → Result ℤ TextFault
ok z = Ok z

all_behind : (bytes : List ℕ) → take (length bytes - 1) (drop 1 bytes) ≡ drop 1 bytes
all_behind [] = refl
all_behind (b ∷ bytes) = take_all (length (b ∷ bytes) - 1) bytes (omega arith)

some_is : {m n : ℕ} → Some m ≡ Some n → m ≡ n
some_is e = cc

-- what a number and the byte that ends it are cut into
pub number_found : (bytes digits back : List ℕ) (end at : ℕ) (z : ℤ) (rest : List ℕ) → Some at ≡ Some (length (signed_decimal z)) → bytes ≡ ended z end rest → digits ≡ take at bytes → back ≡ drop at bytes
    → (digits ≡ signed_decimal z) × (take (length back - 1) (drop 1 back) ≡ rest)
number_found bytes digits back end at z rest e is d b =
    let same : length (signed_decimal z) ≡ at = sym (some_is e) in
    let behind : back ≡ end ∷ rest = b ∙ ap (drop at) is ∙ drop_at (signed_decimal z) (end ∷ rest) at same in
    (d ∙ ap (take at) is ∙ take_at (signed_decimal z) (end ∷ rest) at same, all_behind back ∙ ap (drop 1) behind)

pub not_there : (n : ℕ) → None ≡ Some n → ⊥
not_there n e = absurd cc

pub the_number : (y z : ℤ) → SFits w64 z → (ok y ≡ ok z) → to_z w64 (of_z w64 y) ≡ z
the_number y z fits e =
    let same : y ≡ z = cc in
    rw same (to_z-of_z w64 z fits)

pub is_there : false ≡ true → ⊥
is_there e = true≢false (sym e)

both_of : (a b : Bool) → (a && b) ≡ true → (a ≡ true) × (b ≡ true)
both_of true b e = (refl, e)
both_of false b e = absurd (true≢false (sym e))

same_list : (a b : List ℕ) → pointwise nat_eq a b ≡ true → a ≡ b
same_list [] [] e = refl
same_list [] (y ∷ b) e = absurd (true≢false (sym e))
same_list (x ∷ a) [] e = absurd (true≢false (sym e))
same_list (x ∷ a) (y ∷ b) e = let h = both_of (nat_eq x y) (pointwise nat_eq a b) e in let head = eqb-true x y h.0 in let tail = same_list a b h.1 in cc (head, tail)

pub stripped : (head text : List ℕ) (r : Option (Bor (List ℕ))) → MatchOption r (pointwise nat_eq (take (length head) text) head ≡ false) (λ x. (pointwise nat_eq (take (length head) text) head ≡ true) × (x.now ≡ drop (length head) text) × (length x.now + length head ≡ length text)) → IfSome r (λ x. text ≡ head ++ x.now)
stripped head text None h = tt
stripped head text (Some x) h = sym (take-append-drop (length head) text) ∙ ap (λ (t : List ℕ). t ++ drop (length head) text) (same_list (take (length head) text) head h.0) ∙ ap (λ (t : List ℕ). head ++ t) (sym h.1)

found_same : (head rest : List ℕ) → pointwise nat_eq (take (length head) (head ++ rest)) head ≡ true
found_same [] rest = refl
found_same (x ∷ head) rest = rw (eq-eqb x x refl) (found_same head rest)

-- a text behind which a piece stands in front has that behind it
pub behind_piece : (head text rest : List ℕ) (r : Option (Bor (List ℕ))) → text ≡ head ++ rest → MatchOption r (pointwise nat_eq (take (length head) text) head ≡ false) (λ x. (pointwise nat_eq (take (length head) text) head ≡ true) × (x.now ≡ drop (length head) text) × (length x.now + length head ≡ length text)) → IsSome r × IfSome r (λ x. x.now ≡ rest)
behind_piece head text rest None is h = absurd (true≢false (sym (ap (λ (t : List ℕ). pointwise nat_eq (take (length head) t) head) is ∙ found_same head rest) ∙ h))
behind_piece head text rest (Some x) is h = (refl, h.1 ∙ ap (drop (length head)) is ∙ drop_at head rest (length head) refl)
