-- What is left of a list behind a place.
use Rattle.std.proofs.Common.{◌≡◌, ℕ, zero, suc, ◌+◌, Bool, true, false, List, [], ◌∷◌, length, drop, refl, ap, sym, arith, ◌∙◌}
use Rattle.std.specs.Prelude.{Some, slice_get, ◌&&◌, ◌||◌}
use Rattle.std.specs.List.{list_all, list_any}
use Rattle.byte_text.specs.ListLaws.{drop_next}

pub behind_all : {A : Type 0} (xs : List A) (i : ℕ) → length xs ≡ i → drop i xs ≡ []
behind_all [] zero e = refl
behind_all [] (suc i) e = refl
behind_all (y ∷ xs) zero e = absurd (omega arith)
behind_all (y ∷ xs) (suc i) e = let less : length xs ≡ i = omega arith in behind_all xs i less

module _ {A : Type 0} (p : A → Bool) (xs : List A) (i : ℕ) (x : A) (at : slice_get xs i ≡ Some x) where
  -- a test of all fails at an item that fails
  pub all_fails : (w : Bool) → p x ≡ false → list_all p (drop i xs) ≡ w → false ≡ w
  all_fails w h e = sym (ap (λ (b : Bool). b && list_all p (drop (i + 1) xs)) h) ∙ sym (ap (list_all p) (drop_next xs i x at)) ∙ e

  pub all_goes : (w : Bool) → p x ≡ true → list_all p (drop i xs) ≡ w → list_all p (drop (i + 1) xs) ≡ w
  all_goes w h e = sym (ap (λ (b : Bool). b && list_all p (drop (i + 1) xs)) h) ∙ sym (ap (list_all p) (drop_next xs i x at)) ∙ e

  -- a test of any holds at an item that passes
  pub any_holds : (w : Bool) → p x ≡ true → list_any p (drop i xs) ≡ w → true ≡ w
  any_holds w h e = sym (ap (λ (b : Bool). b || list_any p (drop (i + 1) xs)) h) ∙ sym (ap (list_any p) (drop_next xs i x at)) ∙ e

  pub any_goes : (w : Bool) → p x ≡ false → list_any p (drop i xs) ≡ w → list_any p (drop (i + 1) xs) ≡ w
  any_goes w h e = sym (ap (λ (b : Bool). b || list_any p (drop (i + 1) xs)) h) ∙ sym (ap (list_any p) (drop_next xs i x at)) ∙ e
