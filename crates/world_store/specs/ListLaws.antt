-- Facts of each of a list, and of those that a test finds.
use Rattle.std.proofs.Common.{◌≡◌, ℕ, zero, suc, Bool, true, false, not, refl, ap, subst, List, [], ◌∷◌}
use Rattle.std.specs.Prelude.{Some, None, find, filter, slice_get}
use Rattle.std.specs.List.{AllByRecursion}

module _ {A : Type 0} (P : A → Type 0) where
  -- of each of a list, so of the one that is found, and of the one at a place
  pub found_holds : (test : A → Bool) (xs : List A) (x : A) → find test xs ≡ Some x → AllByRecursion P xs → P x
  found_holds test [] x e ps = absurd (cc)
  found_holds test (y ∷ ys) x e ps = by (test y) refl (found_holds test ys x)
    where
      by : (b : Bool) → test y ≡ b → (find test ys ≡ Some x → AllByRecursion P ys → P x) → P x
      by true t ih = let is : y ≡ x = cc (rw t at e) in subst P is ps.0
      by false t ih = ih (rw t at e) ps.1

  pub there_holds : (xs : List A) (i : ℕ) (x : A) → slice_get xs i ≡ Some x → AllByRecursion P xs → P x
  there_holds [] i x at ps = absurd (cc)
  there_holds (y ∷ ys) zero x at ps = let is : y ≡ x = cc in subst P is ps.0
  there_holds (y ∷ ys) (suc i) x at ps = there_holds ys i x at ps.1

-- where none is found, none is left out
pub none_found : {A : Type 0} (test : A → Bool) (xs : List A) → find test xs ≡ None → filter (λ x. not (test x)) xs ≡ xs
none_found test [] e = refl
none_found {A = A} test (x ∷ xs) e = by (test x) refl (none_found test xs)
  where
    by : (b : Bool) → test x ≡ b → (find test xs ≡ None → filter (λ y. not (test y)) xs ≡ xs) → filter (λ y. not (test y)) (x ∷ xs) ≡ x ∷ xs
    by true t ih = let some : Some x ≡ None = rw t at e in absurd (cc)
    by false t ih = rw t (ap (λ (ys : List A). x ∷ ys) (ih (rw t at e)))
