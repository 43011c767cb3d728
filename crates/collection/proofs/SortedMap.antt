-- A list that is sorted by what is read of its items is one of which what is read is sorted.
use Rattle.std.proofs.Common.{◌≡◌, ◌<◌, ◌+◌, ℕ, zero, suc, Bool, refl, List, [], ◌∷◌, length, map, get_or, arith}
use Rattle.std.specs.List.Sorted.{IsSortedBy}
use Rattle.std.proofs.lemmas.List.{length-map}

module _ {A B : Type 0} (f : A → B) where
  read_of : (xs : List A) (k : ℕ) (d : B) (e : A) → k < length xs → get_or (map f xs) k d ≡ f (get_or xs k e)
  read_of [] k d e lt = absurd (omega arith)
  read_of (x ∷ xs) zero d e lt = refl
  read_of (x ∷ xs) (suc k) d e lt = read_of xs k d e (omega arith)

  pub sorted_map : (lt : B → B → Bool) (xs : List A) → IsSortedBy (λ x y. lt (f x) (f y)) xs → IsSortedBy lt (map f xs)
  sorted_map lt [] s = λ k d lo hi. absurd (omega (arith, hi))
  sorted_map lt (x ∷ xs) s = λ k d lo hi.
      let long = length-map (x ∷ xs) f in
      let a = read_of (x ∷ xs) (k + 1) d x (omega (arith, hi, long)) in
      let b = read_of (x ∷ xs) k d x (omega (arith, hi, long)) in
      rw (a, b) (s k x lo (omega (arith, hi, long)))
