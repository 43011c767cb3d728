-- Frames before and behind a mark, and their bytes.
use Rattle.std.proofs.Common.{◌≡◌, ℕ, zero, suc, ◌+◌, ◌-◌, ◌≤◌, List, [], ◌∷◌, ◌++◌, length, take, drop, min, refl, sym, ap, ◌∙◌, arith}
use Rattle.std.specs.Prelude.{Option, Some, slice_get}
use Rattle.std.proofs.lemmas.List.{take-append-drop}
use Rattle.std.proofs.lemmas.List.Sums.{sum_by-append}
use Rattle.byte_text.specs.Names.{Bytes}
use Rattle.world_data.specs.Frames.{frame_bytes}

plus_one : (i : ℕ) → i + 1 ≡ suc i
plus_one i = omega arith

rest_suc : (xs : List Bytes) (i : ℕ) (x : Bytes) → slice_get xs i ≡ Some x → drop i xs ≡ x ∷ drop (suc i) xs
rest_suc [] i x at = absurd (cc)
rest_suc (y ∷ xs) zero x at = let is : y ≡ x = cc in ap (λ (z : Bytes). z ∷ xs) is
rest_suc (y ∷ xs) (suc i) x at = rest_suc xs i x at

front_suc : (xs : List Bytes) (i : ℕ) (x : Bytes) → slice_get xs i ≡ Some x → take (suc i) xs ≡ take i xs ++ x ∷ []
front_suc [] i x at = absurd (cc)
front_suc (y ∷ xs) zero x at = let is : y ≡ x = cc in ap (λ (z : Bytes). z ∷ []) is
front_suc (y ∷ xs) (suc i) x at = ap (λ (zs : List Bytes). y ∷ zs) (front_suc xs i x at)

pub rest_at : (xs : List Bytes) (i : ℕ) (x : Bytes) → slice_get xs i ≡ Some x → drop i xs ≡ x ∷ drop (i + 1) xs
rest_at xs i x at = rest_suc xs i x at ∙ ap (λ (n : ℕ). x ∷ drop n xs) (sym (plus_one i))

pub front_at : (xs : List Bytes) (i : ℕ) (x : Bytes) → slice_get xs i ≡ Some x → take (i + 1) xs ≡ take i xs ++ x ∷ []
front_at xs i x at = ap (λ (n : ℕ). take n xs) (plus_one i) ∙ front_suc xs i x at

pub bytes_both : (xs ys : List Bytes) → frame_bytes (xs ++ ys) ≡ frame_bytes xs + frame_bytes ys
bytes_both xs ys = sum_by-append (λ (x : Bytes). length x) xs ys

pub bytes_one : (x : Bytes) → frame_bytes (x ∷ []) ≡ length x
bytes_one x = omega arith

pub bytes_cut : (n : ℕ) (xs : List Bytes) → frame_bytes xs ≡ frame_bytes (take n xs) + frame_bytes (drop n xs)
bytes_cut n xs = ap frame_bytes (sym (take-append-drop n xs)) ∙ bytes_both (take n xs) (drop n xs)
