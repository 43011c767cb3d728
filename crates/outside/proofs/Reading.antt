-- What a read gives, and what is left.
use Rattle.std.specs.Prelude.{Result, Ok, Err, IfOk}
use Rattle.std.specs.Io.{ReadsAtMost}
use Rattle.std.proofs.Common.{◌≡◌, ℕ, ◌+◌, ◌-◌, ◌≤◌, ◌<◌, List, ◌++◌, length, take, drop, min, sym, ap, ◌∙◌, arith, length-drop, length-take, length-append, take-append-drop}
use Rattle.std.proofs.lemmas.List.{drop-drop, take_at}

-- the bytes that are left begin with those that were copied
pub got : (xs ys t : List ℕ) (at n : ℕ) → at + n ≤ length xs → ys ≡ take (at + n - at) (drop at xs) → drop at xs ≡ take n (ys ++ t) ++ drop (at + n) xs
got xs ys t at n le is =
    let k : at + n - at ≡ n = omega arith in
    let is' : ys ≡ take n (drop at xs) = is ∙ ap (λ (m : ℕ). take m (drop at xs)) k in
    let long : length ys ≡ n = ap length is' ∙ length-take n (drop at xs) ∙ omega (arith, length-drop at xs) in
    let one : take n (ys ++ t) ≡ take n (drop at xs) = take_at ys t n long ∙ is' in
    sym (take-append-drop n (drop at xs)) ∙ (λ i. sym one i ++ drop-drop n at xs i)

-- where nothing was copied into some room, no byte was left
pub ended : (xs ys into : List ℕ) (at n m p : ℕ) → n ≡ min m p → m ≡ min (length xs - at) (length into) → 0 < p → at ≤ length xs → at + n ≤ length xs → ys ≡ take (at + n - at) (drop at xs)
    → n ≡ 0 → 0 < length (ys ++ drop n into) → length xs ≤ at + n
ended xs ys into at n m p least room some within fits is none into_some =
    let k : at + n - at ≡ n = omega arith in
    let long : length ys ≡ n = ap length is ∙ ap (λ (j : ℕ). length (take j (drop at xs))) k ∙ length-take n (drop at xs) ∙ omega (arith, length-drop at xs) in
    omega (arith, least, room, long, length-append ys (drop n into), length-drop n into)

-- bytes that were copied into a front are at most as many as there is room
pub read_bound : {E : Type 0} (r : Result ℕ E) (bytes into into' : List ℕ) → IfOk r (λ n. n ≡ min (length into) (length bytes)) → IfOk r (λ n. into' ≡ take n bytes ++ drop n into) → ReadsAtMost r into'
read_bound (Ok n) bytes into into' count copied =
    let front : length (take n bytes) ≡ n = omega (arith, length-take n bytes, count) in
    let room : length into' ≡ length into = ap length copied ∙ length-append (take n bytes) (drop n into) ∙ omega (arith, front, length-drop n into, count) in
    (omega (arith, room, count), omega (arith, room, count, length-take n into'))
read_bound (Err e) bytes into into' count copied = tt

-- and they stand there
pub read_bytes : {E : Type 0} (r : Result ℕ E) (bytes into into' : List ℕ) → IfOk r (λ n. n ≡ min (length into) (length bytes)) → IfOk r (λ n. into' ≡ take n bytes ++ drop n into) → IfOk r (λ n. take n into' ≡ take n bytes)
read_bytes (Ok n) bytes into into' count copied = ap (λ (l : List ℕ). take n l) copied ∙ take_at (take n bytes) (drop n into) n (omega (arith, length-take n bytes, count))
read_bytes (Err e) bytes into into' count copied = tt
