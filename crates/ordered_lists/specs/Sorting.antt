-- Sorting keeps what holds of all items, and what stands behind none of them comes first.
use Rattle.std.proofs.Common.{◌≡◌, Bool, true, false, not, refl, List, [], ◌∷◌, arith}
use Rattle.std.specs.Prelude.{if◌then◌else◌}
use Rattle.std.specs.List.{list_all, AllByRecursion}
use Rattle.ordered_lists.specs.Lists.{insert_by, sorted_by}
use Rattle.ordered_lists.specs.Reading.{both_of}

module _ {A : Type 0} (lt : A → A → Bool) where
  pub all-insert_by : (p : A → Bool) (x : A) (xs : List A) → p x ≡ true → list_all p xs ≡ true → list_all p (insert_by lt x xs) ≡ true
  all-insert_by p x [] here all = rw here refl
  all-insert_by p x (y ∷ ys) here all = let ih = all-insert_by p x ys here in grind arith

  pub all-sorted_by : (p : A → Bool) (xs : List A) → list_all p xs ≡ true → list_all p (sorted_by lt xs) ≡ true
  all-sorted_by p [] all = refl
  all-sorted_by p (x ∷ xs) all =
      let parts = both_of (p x) (list_all p xs) all in
      all-insert_by p x (sorted_by lt xs) parts.0 (all-sorted_by p xs parts.1)

  pub each-insert_by : (P : A → Type 0) (x : A) (xs : List A) → P x → AllByRecursion P xs → AllByRecursion P (insert_by lt x xs)
  each-insert_by P x [] here each = (here, tt)
  each-insert_by P x (y ∷ ys) here each = by (lt y x) (each-insert_by P x ys here each.1)
    where
      by : (b : Bool) → AllByRecursion P (insert_by lt x ys) → AllByRecursion P (if b then y ∷ insert_by lt x ys else x ∷ y ∷ ys)
      by true more = (each.0, more)
      by false more = (here, each)

  pub each-sorted_by : (P : A → Type 0) (xs : List A) → AllByRecursion P xs → AllByRecursion P (sorted_by lt xs)
  each-sorted_by P [] each = tt
  each-sorted_by P (x ∷ xs) each = each-insert_by P x (sorted_by lt xs) each.0 (each-sorted_by P xs each.1)

  pub insert_by-first : (x : A) (xs : List A) → list_all (λ y. not (lt y x)) xs ≡ true → insert_by lt x xs ≡ x ∷ xs
  insert_by-first x [] all = refl
  insert_by-first x (y ∷ ys) all = grind arith
