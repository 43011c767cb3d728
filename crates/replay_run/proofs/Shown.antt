-- The lines of frames, one frame more.
use Rattle.std.proofs.Common.{◌≡◌, ℕ, zero, suc, sym, ap, ◌∙◌, List, [], ◌∷◌, ◌++◌, take, append_assoc}
use Rattle.std.specs.Prelude.{Some, flat_map, slice_get}
use Rattle.std.proofs.lemmas.List.{append-nil}

pub one_more : (f : List ℕ → List ℕ) (xs : List (List ℕ)) (i : ℕ) (x : List ℕ) → slice_get xs i ≡ Some x → flat_map f (take (suc i) xs) ≡ flat_map f (take i xs) ++ f x
one_more f [] i x at = absurd (cc)
one_more f (y ∷ ys) zero x at = let is : y ≡ x = cc in append-nil (f y) ∙ ap f is
one_more f (y ∷ ys) (suc i) x at = ap (λ (z : List ℕ). f y ++ z) (one_more f ys i x at) ∙ sym (append_assoc (f y) (flat_map f (take i ys)) (f x))
