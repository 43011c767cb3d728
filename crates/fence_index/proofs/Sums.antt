-- Sums of what passes a test, and of what a search finds.
use Rattle.std.proofs.Common.{◌≡◌, ◌+◌, ℕ, Bool, true, false, cond, refl, ap, ◌∙◌, List, [], ◌∷◌, arith}
use Rattle.std.specs.Prelude.{filter}
use Rattle.std.specs.List.{sum_by}
use Rattle.std.proofs.lemmas.List.Sums.{sum_by-cons}
use Rattle.planar_geom.specs.Points.{Bounds, boxes_meet}
use Rattle.rtree.specs.Pairs.{Pair, ids_meeting}
use Rattle.fence_index.specs.Boxed.{met_weight}

module _ {A : Type 0} where
  -- sums of which each weight is the same
  pub same_sums : (f g : A → ℕ) (xs : List A) → ((x : A) → f x ≡ g x) → sum_by f xs ≡ sum_by g xs
  same_sums f g [] each = refl
  same_sums f g (x ∷ xs) each =
      let a = sum_by-cons f x xs in
      let b = sum_by-cons g x xs in
      let here = each x in
      let ih = same_sums f g xs each in
      omega (arith, a, b, here, ih)

  pub sum_both : (f g : A → ℕ) (xs : List A) → sum_by f xs + sum_by g xs ≡ sum_by (λ x. f x + g x) xs
  sum_both f g [] = omega arith
  sum_both f g (x ∷ xs) =
      let a = sum_by-cons f x xs in
      let b = sum_by-cons g x xs in
      let c = sum_by-cons (λ x. f x + g x) x xs in
      let ih = sum_both f g xs in
      omega (arith, a, b, c, ih)

-- what passes a test
pub sum_passing : {A : Type 0} (p : A → Bool) (w : A → ℕ) (xs : List A) → sum_by w (filter p xs) ≡ sum_by (λ x. cond (p x) (w x) 0) xs
sum_passing p w [] = refl
sum_passing p w (x ∷ xs) = by_test (p x) refl (sum_by-cons (λ x. cond (p x) (w x) 0) x xs) (sum_passing p w xs)
  where
    by_test : (b : Bool) → p x ≡ b → sum_by (λ x. cond (p x) (w x) 0) (x ∷ xs) ≡ cond (p x) (w x) 0 + sum_by (λ x. cond (p x) (w x) 0) xs
        → sum_by w (filter p xs) ≡ sum_by (λ x. cond (p x) (w x) 0) xs → sum_by w (filter p (x ∷ xs)) ≡ sum_by (λ x. cond (p x) (w x) 0) (x ∷ xs)
    by_test false e s ih =
        let none : cond (p x) (w x) 0 ≡ 0 = rw e refl in
        let shape : sum_by w (filter p (x ∷ xs)) ≡ sum_by w (filter p xs) = rw e refl in
        omega (arith, s, ih, none, shape)
    by_test true e s ih =
        let one : cond (p x) (w x) 0 ≡ w x = rw e refl in
        let shape : sum_by w (filter p (x ∷ xs)) ≡ sum_by w (x ∷ filter p xs) = rw e refl in
        let c = sum_by-cons w x (filter p xs) in
        omega (arith, s, ih, one, shape, c)

pub sum_met : (v : ℕ → ℕ) (b : Bounds) (ps : List Pair) → sum_by v (ids_meeting b ps) ≡ sum_by (met_weight b v) ps
sum_met v b [] = refl
sum_met v b (p ∷ ps) = chosen (boxes_meet p.bounds b) refl (sum_by-cons (met_weight b v) p ps) (sum_met v b ps)
  where
    chosen : (t : Bool) → boxes_meet p.bounds b ≡ t → sum_by (met_weight b v) (p ∷ ps) ≡ cond (boxes_meet p.bounds b) (v p.id) 0 + sum_by (met_weight b v) ps
        → sum_by v (ids_meeting b ps) ≡ sum_by (met_weight b v) ps → sum_by v (ids_meeting b (p ∷ ps)) ≡ sum_by (met_weight b v) (p ∷ ps)
    chosen true e s ih =
        let shape : ids_meeting b (p ∷ ps) ≡ p.id ∷ ids_meeting b ps = rw e refl in
        let weight : cond (boxes_meet p.bounds b) (v p.id) 0 ≡ v p.id = ap (λ (t : Bool). cond t (v p.id) 0) e in
        let c = sum_by-cons v p.id (ids_meeting b ps) in
        ap (sum_by v) shape ∙ omega (arith, s, ih, weight, c)
    chosen false e s ih =
        let shape : ids_meeting b (p ∷ ps) ≡ ids_meeting b ps = rw e refl in
        let weight : cond (boxes_meet p.bounds b) (v p.id) 0 ≡ 0 = ap (λ (t : Bool). cond t (v p.id) 0) e in
        ap (sum_by v) shape ∙ omega (arith, s, ih, weight)
