-- The first words of a request.
use Rattle.std.proofs.Common.{◌≡◌, ◌≤◌, ◌+◌, ℕ, zero, suc, ap, List, [], ◌∷◌, ◌++◌, length, take, add-one, arith}
use Rattle.std.specs.Prelude.{Some}
use Rattle.std.specs.List.{slice_get, AllByRecursion}
use Rattle.byte_text.specs.Names.{Bytes}
use Rattle.byte_text.specs.Requests.{FitsRequest, total, max_word}

take_suc : {A : Type 0} (xs : List A) (i : ℕ) (x : A) → slice_get xs i ≡ Some x → take (suc i) xs ≡ take i xs ++ x ∷ []
take_suc [] i x e = absurd cc
take_suc (y ∷ ys) zero x e = let same : y ≡ x = cc in cc
take_suc (y ∷ ys) (suc i) x e = ap (λ zs. y ∷ zs) (take_suc ys i x e)

-- one more item
pub take_next : {A : Type 0} (xs : List A) (i : ℕ) (x : A) → slice_get xs i ≡ Some x → take (i + 1) xs ≡ take i xs ++ x ∷ []
take_next xs i x e = rw add-one (take_suc xs i x e)

fewer : (words : List Bytes) (k : ℕ) → length (take k words) ≤ length words
fewer [] zero = omega arith
fewer [] (suc k) = omega arith
fewer (w ∷ words) zero = omega arith
fewer (w ∷ words) (suc k) = let ih = fewer words k in omega arith

smaller : (words : List Bytes) (k : ℕ) → total (take k words) ≤ total words
smaller [] zero = omega arith
smaller [] (suc k) = omega arith
smaller (w ∷ words) zero = omega arith
smaller (w ∷ words) (suc k) = let ih = smaller words k in omega arith

shorter : (words : List Bytes) (k : ℕ) → AllByRecursion (λ w. length w ≤ max_word) words → AllByRecursion (λ w. length w ≤ max_word) (take k words)
shorter [] zero all = tt
shorter [] (suc k) all = tt
shorter (w ∷ words) zero all = tt
shorter (w ∷ words) (suc k) all = (all.0, shorter words k all.1)

-- the first words of a request are one
pub fits_take : (words : List Bytes) (k : ℕ) → FitsRequest words → FitsRequest (take k words)
fits_take words k fits = let few = fewer words k in let small = smaller words k
    in record { few = omega arith; short = shorter words k fits.short; small = omega arith }
