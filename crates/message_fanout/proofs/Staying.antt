-- What is raised on the channels that have not gone.
use Rattle.std.proofs.Common.{◌≡◌, ◌≤◌, Bool, true, false, not, refl, ap, ◌∙◌, List, [], ◌∷◌, ◌++◌, length, length-append, filter, flat_map, arith}
use Rattle.std.specs.Prelude.{◌&&◌, if◌then◌else◌}
use Rattle.std.specs.List.{AllByRecursion}

-- nothing is raised on those that have gone, as if they did not stand there
pub those_that_stay : {A B : Type 0} (on : A → List B) (gone may : A → Bool) (xs : List A)
    → flat_map (λ x. if gone x then [] else on x) (filter may xs) ≡ flat_map on (filter may (filter (λ x. not (gone x)) xs))
those_that_stay on gone may [] = refl
those_that_stay {A = A} {B = B} on gone may (x ∷ xs) = by (may x) (gone x) refl refl (those_that_stay on gone may xs)
  where
    by : (m g : Bool) → may x ≡ m → gone x ≡ g → flat_map (λ y. if gone y then [] else on y) (filter may xs) ≡ flat_map on (filter may (filter (λ y. not (gone y)) xs))
        → flat_map (λ y. if gone y then [] else on y) (filter may (x ∷ xs)) ≡ flat_map on (filter may (filter (λ y. not (gone y)) (x ∷ xs)))
    by true true e f ih = rw (f, e, f) ih
    by true false e f ih = rw (f, e, f) (ap (λ (ms : List B). on x ++ ms) ih)
    by false true e f ih = rw (f, e) ih
    by false false e f ih = rw (f, e) ih

-- where all is raised on those that pass two tests, nothing is on those that pass the first alone; so it is of some of all

module _ {A B : Type 0} (on : A → List B) (p q : A → Bool) where
  abbrev both : A → Bool
  both x = p x && q x

  -- it raises nothing unless it passes the second too
  abbrev IsSilent : A → Type 0
  IsSilent x = p x ≡ true → q x ≡ false → on x ≡ []

  no_more : (xs : List A) → length (flat_map on (filter both xs)) ≤ length (flat_map on (filter p xs))
  no_more [] = omega arith
  no_more (x ∷ xs) = by (p x) (q x) refl refl (no_more xs)
    where
      by : (a b : Bool) → p x ≡ a → q x ≡ b → length (flat_map on (filter both xs)) ≤ length (flat_map on (filter p xs))
          → length (flat_map on (filter both (x ∷ xs))) ≤ length (flat_map on (filter p (x ∷ xs)))
      by true true e f ih = rw (e, f) (omega (arith, ih, length-append (on x) (flat_map on (filter both xs)), length-append (on x) (flat_map on (filter p xs))))
      by true false e f ih = rw (e, f) (omega (arith, ih, length-append (on x) (flat_map on (filter p xs))))
      by false b e f ih = rw e ih

  no_length : (ys : List B) → length ys ≡ 0 → ys ≡ []
  no_length [] e = refl
  no_length (y ∷ ys) e = absurd (omega (arith, e))

  silent : (xs : List A) → length (flat_map on (filter p xs)) ≡ length (flat_map on (filter both xs)) → AllByRecursion IsSilent xs
  silent [] e = tt
  silent (x ∷ xs) e = by (p x) (q x) refl refl e (silent xs)
    where
      by : (a b : Bool) → p x ≡ a → q x ≡ b → length (flat_map on (filter p (x ∷ xs))) ≡ length (flat_map on (filter both (x ∷ xs)))
          → (length (flat_map on (filter p xs)) ≡ length (flat_map on (filter both xs)) → AllByRecursion IsSilent xs) → AllByRecursion IsSilent (x ∷ xs)
      by true true e f same rest =
          let whole : length (on x ++ flat_map on (filter p xs)) ≡ length (on x ++ flat_map on (filter both xs)) = rw (e, f) at same in
          (λ passes fails. absurd (cc), rest (omega (arith, whole, length-append (on x) (flat_map on (filter both xs)), length-append (on x) (flat_map on (filter p xs)))))
      by true false e f same rest =
          let whole : length (on x ++ flat_map on (filter p xs)) ≡ length (flat_map on (filter both xs)) = rw (e, f) at same in
          let le = no_more xs in
          let sum = length-append (on x) (flat_map on (filter p xs)) in
          (λ passes fails. no_length (on x) (omega (arith, whole, le, sum)), rest (omega (arith, whole, le, sum)))
      by false b e f same rest =
          let whole : length (flat_map on (filter p xs)) ≡ length (flat_map on (filter both xs)) = rw e at same in
          (λ passes fails. absurd (cc), rest whole)

  some_silent : (left : A → Bool) (xs : List A) → AllByRecursion IsSilent xs → flat_map on (filter p (filter left xs)) ≡ flat_map on (filter both (filter left xs))
  some_silent left [] all = refl
  some_silent left (x ∷ xs) all = by (left x) (p x) (q x) refl refl refl (some_silent left xs all.1)
    where
      by : (l a b : Bool) → left x ≡ l → p x ≡ a → q x ≡ b → flat_map on (filter p (filter left xs)) ≡ flat_map on (filter both (filter left xs))
          → flat_map on (filter p (filter left (x ∷ xs))) ≡ flat_map on (filter both (filter left (x ∷ xs)))
      by false a b g e f ih = rw g ih
      by true true true g e f ih = rw (g, e, f) (ap (λ (ms : List B). on x ++ ms) ih)
      by true true false g e f ih = rw (g, e, f) (ap (λ (ms : List B). ms ++ flat_map on (filter p (filter left xs))) (all.0 e f) ∙ ih)
      by true false b g e f ih = rw (g, e) ih

  pub those_alone : (left : A → Bool) (xs : List A) → flat_map on (filter p xs) ≡ flat_map on (filter both xs) → flat_map on (filter p (filter left xs)) ≡ flat_map on (filter both (filter left xs))
  those_alone left xs e = some_silent left xs (silent xs (ap length e))
