-- A test of any item, by those that are left behind a place.
use Rattle.std.proofs.Common.{◌≡◌, ℕ, ◌+◌, Bool, true, false, List, drop, ap, sym, ◌∙◌}
use Rattle.std.specs.Prelude.{Some, slice_get, ◌||◌}
use Rattle.std.specs.List.{list_any}
use Rattle.byte_text.specs.ListLaws.{drop_next}

module _ {A : Type 0} (p : A → Bool) (xs : List A) (i : ℕ) (x : A) (at : slice_get xs i ≡ Some x) where
  pub any_holds : (w : Bool) → p x ≡ true → list_any p (drop i xs) ≡ w → true ≡ w
  any_holds w h e = sym (ap (λ (b : Bool). b || list_any p (drop (i + 1) xs)) h) ∙ sym (ap (list_any p) (drop_next xs i x at)) ∙ e

  pub any_goes : (w : Bool) → p x ≡ false → list_any p (drop i xs) ≡ w → list_any p (drop (i + 1) xs) ≡ w
  any_goes w h e = sym (ap (λ (b : Bool). b || list_any p (drop (i + 1) xs)) h) ∙ sym (ap (list_any p) (drop_next xs i x at)) ∙ e
