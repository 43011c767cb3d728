-- Bytes that are there, and bytes that are written over.
use Rattle.std.proofs.Common.{◌≡◌, ◌<◌, ℕ, zero, suc, ◌+◌, ◌-◌, get_or, List, [], ◌∷◌, ◌++◌, length, take, drop, replicate, ap, ◌∙◌, arith, length-drop, length-take, length-append, append-nil}
use Rattle.std.proofs.lemmas.List.{length-replicate, drop_all, take_all, take-replicate, drop-replicate}
use Rattle.outside.specs.Disks.{write_over}
use Rattle.outside.specs.Sides.{AreBytes}

pub are_bytes : (xs : List ℕ) → ((i : ℕ) → get_or xs i 0 < 256) → AreBytes xs
are_bytes [] small = tt
are_bytes (x ∷ xs) small = (small 0, are_bytes xs (λ i. small (suc i)))

pub take-append : (n : ℕ) (xs ys : List ℕ) → take n (xs ++ ys) ≡ take n xs ++ take (n - length xs) ys
take-append zero xs ys = let none : 0 - length xs ≡ 0 = omega arith in rw none
take-append (suc n) [] ys = let all : suc n - 0 ≡ suc n = omega arith in rw all
take-append (suc n) (x ∷ xs) ys =
    let same : suc n - length (x ∷ xs) ≡ n - length xs = omega arith in
    rw same (ap (λ (l : List ℕ). x ∷ l) (take-append n xs ys))

pub drop-append : (n : ℕ) (xs ys : List ℕ) → drop n (xs ++ ys) ≡ drop n xs ++ drop (n - length xs) ys
drop-append zero xs ys = let none : 0 - length xs ≡ 0 = omega arith in rw none
drop-append (suc n) [] ys = let all : suc n - 0 ≡ suc n = omega arith in rw all
drop-append (suc n) (x ∷ xs) ys =
    let same : suc n - length (x ∷ xs) ≡ n - length xs = omega arith in
    rw same (drop-append n xs ys)

-- a piece put over bytes behind which zeros were put, in a buffer that keeps its length
pub put_over : (at m : ℕ) (piece old grown new : List ℕ) → grown ≡ old ++ replicate (at + length piece - length old) 0
    → new ≡ take at grown ++ piece ++ drop (at + length piece) grown → m ≡ length grown
    → take m (new ++ drop (length new) grown) ≡ write_over at piece old
put_over at m piece old grown new is_grown is long =
    let n = length piece in
    let k = at + n - length old in
    let grown_len : length grown ≡ length old + k = ap length is_grown ∙ length-append old (replicate k 0) ∙ ap (λ (j : ℕ). length old + j) (length-replicate k 0) in
    let new_len : length new ≡ length grown = ap length is ∙ length-append (take at grown ++ piece) (drop (at + n) grown) ∙ omega (arith, length-append (take at grown) piece, length-drop (at + n) grown, length-take at grown, grown_len) in
    let rest : drop (length new) grown ≡ [] = drop_all (length new) grown (omega (arith, new_len)) in
    let whole : take m (new ++ drop (length new) grown) ≡ new = ap (λ (l : List ℕ). take m (new ++ l)) rest ∙ ap (λ (l : List ℕ). take m l) (append-nil new) ∙ take_all m new (omega (arith, new_len, long)) in
    let front : take at grown ≡ take at old ++ replicate (at - length old) 0 = ap (λ (l : List ℕ). take at l) is_grown ∙ take-append at old (replicate k 0) ∙ ap (λ (l : List ℕ). take at old ++ l) (take-replicate (at - length old) k 0 (omega arith)) in
    let none : k - (at + n - length old) ≡ 0 = omega arith in
    let back : drop (at + n) grown ≡ drop (at + n) old = ap (λ (l : List ℕ). drop (at + n) l) is_grown ∙ drop-append (at + n) old (replicate k 0) ∙ ap (λ (l : List ℕ). drop (at + n) old ++ l) (drop-replicate (at + n - length old) k 0 ∙ ap (λ (j : ℕ). replicate j 0) none) ∙ append-nil (drop (at + n) old) in
    whole ∙ is ∙ ap (λ (l : List ℕ). l ++ piece ++ drop (at + n) grown) front ∙ ap (λ (l : List ℕ). take at old ++ replicate (at - length old) 0 ++ piece ++ l) back
