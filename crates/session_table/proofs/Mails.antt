-- Staged frames in front of replies, and the first of them taken away.
use Rattle.std.proofs.Common.{◌≡◌, ℕ, zero, suc, ◌+◌, ◌-◌, ◌≤◌, ◌<◌, List, [], ◌∷◌, ◌++◌, length, take, drop, refl, sym, ap, ◌∙◌, arith}
use Rattle.std.proofs.lemmas.List.{length-take-le, drop-drop, take-append-drop}
use Rattle.std.proofs.lemmas.List.Sums.{sum_by-append}
use Rattle.byte_text.specs.Names.{Bytes}
use Rattle.world_data.specs.Frames.{frame_bytes}

take_none : (n : ℕ) → take {A = Bytes} n [] ≡ []
take_none zero = refl
take_none (suc n) = refl

less : (n : ℕ) (xs : List Bytes) → take n (drop 1 xs) ≡ drop 1 (take (suc n) xs)
less n [] = take_none n
less n (x ∷ xs) = refl

-- the first of the first ones is taken away
pub first_less : (s : ℕ) (xs : List Bytes) → 0 < s → take (s - 1) (drop 1 xs) ≡ drop 1 (take s xs)
first_less s xs some =
    let next : suc (s - 1) ≡ s = omega arith in
    less (s - 1) xs ∙ ap (λ (n : ℕ). drop 1 (take n xs)) next

-- and the others stay
pub others_stay : (s : ℕ) (xs : List Bytes) → 0 < s → s ≤ length xs → drop (s - 1) (drop 1 xs) ≡ drop (1 - length (take s xs)) (drop s xs)
others_stay s xs some within =
    let next : 1 + (s - 1) ≡ s = omega arith in
    let long = length-take-le s xs within in
    let none : 1 - length (take s xs) ≡ 0 = omega (arith, long, some) in
    drop-drop (s - 1) 1 xs ∙ ap (λ (n : ℕ). drop n xs) next ∙ ap (λ (n : ℕ). drop n (drop s xs)) (sym none)

pub bytes_both : (xs ys : List Bytes) → frame_bytes (xs ++ ys) ≡ frame_bytes xs + frame_bytes ys
bytes_both xs ys = sum_by-append (λ (x : Bytes). length x) xs ys

pub bytes_cut : (n : ℕ) (xs : List Bytes) → frame_bytes xs ≡ frame_bytes (take n xs) + frame_bytes (drop n xs)
bytes_cut n xs = ap frame_bytes (sym (take-append-drop n xs)) ∙ bytes_both (take n xs) (drop n xs)
