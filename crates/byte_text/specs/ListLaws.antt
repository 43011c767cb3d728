-- Laws of lists that are gone over one item at a time.
use Rattle.std.proofs.Common.{◌≡◌, ◌∙◌, ◌+◌, ◌<◌, ℕ, zero, suc, List, [], ◌∷◌, ◌++◌, length, take, drop, flat_map, refl, sym, ap, subst, append_assoc}
use Rattle.std.proofs.Common.{add-one, arith}
use Rattle.std.specs.Prelude.{Some, slice_get}
use Rattle.std.specs.List.{AllByRecursion}

-- an item stands at each place within the list
pub item_at : {A : Type 0} (xs : List A) (i : ℕ) → i < length xs → (x : A) × (slice_get xs i ≡ Some x)
item_at [] i within = absurd (omega (arith, within))
item_at (x ∷ xs) zero within = (x, refl)
item_at (x ∷ xs) (suc i) within = item_at xs i (omega (arith, within))

-- what holds of all items holds of the one at a place
pub holds_at : {A : Type 0} (P : A → Type 0) (xs : List A) (i : ℕ) (x : A) → AllByRecursion P xs → slice_get xs i ≡ Some x → P x
holds_at P [] i x all at = absurd (cc)
holds_at P (y ∷ xs) zero x all at = let is : y ≡ x = cc in subst P is all.0
holds_at P (y ∷ xs) (suc i) x all at = holds_at P xs i x all.1 at

-- the items before a place, and then the one that stands there
pub take_next : {A : Type 0} (xs : List A) (i : ℕ) (x : A) → slice_get xs i ≡ Some x → take (i + 1) xs ≡ take i xs ++ x ∷ []
take_next xs i x at = rw add-one (up_to xs i x at)
  where
    up_to : {A : Type 0} (xs : List A) (i : ℕ) (x : A) → slice_get xs i ≡ Some x → take (suc i) xs ≡ take i xs ++ x ∷ []
    up_to [] i x at = absurd (cc)
    up_to (y ∷ xs) zero x at = let is : y ≡ x = cc in ap (λ z. z ∷ []) is
    up_to (y ∷ xs) (suc i) x at = ap (λ zs. y ∷ zs) (up_to xs i x at)

from_next : {A : Type 0} (xs : List A) (i : ℕ) (x : A) → slice_get xs i ≡ Some x → drop i xs ≡ x ∷ drop (suc i) xs
from_next [] i x at = absurd (cc)
from_next (y ∷ xs) zero x at = let is : y ≡ x = cc in ap (λ z. z ∷ xs) is
from_next (y ∷ xs) (suc i) x at = from_next xs i x at

-- the item at a place, and the rest behind it
pub drop_next : {A : Type 0} (xs : List A) (i : ℕ) (x : A) → slice_get xs i ≡ Some x → drop i xs ≡ x ∷ drop (i + 1) xs
drop_next xs i x at = rw add-one (from_next xs i x at)

-- the part of the item at a place is put last, so that the rest behind it is still to come
pub one_more : {A B : Type 0} (part : A → List B) (xs : List A) (i : ℕ) (x : A) (made grown whole : List B) → slice_get xs i ≡ Some x → grown ≡ made
    ++ part x
    → made ++ flat_map part (drop i xs) ≡ whole → grown ++ flat_map part (drop (i + 1) xs) ≡ whole
one_more part xs i x made grown whole at is so_far =
    ap (λ l. l ++ flat_map part (drop (i + 1) xs)) is ∙ append_assoc made (part x) (flat_map part (drop (i + 1) xs))
    ∙ ap (λ l. made ++ flat_map part l) (sym (drop_next xs i x at)) ∙ so_far
