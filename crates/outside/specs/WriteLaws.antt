-- Laws of bytes that are written over, torn and cut: what a write leaves, whole or torn, in parts.
use Rattle.std.specs.Prelude.{◌≡◌, ◌+◌, ◌-◌, ◌≤◌, ℕ, zero, suc, List, [], ◌∷◌, ◌++◌, length, take, drop, max, replicate}
use Rattle.std.proofs.Common.{refl, sym, ap, ◌∙◌, inl, inr, arith, length-append, length-take, length-drop, append_assoc, append-nil}
use Rattle.std.proofs.Common.{take-append-drop}
use Rattle.std.proofs.lemmas.List.{length-replicate, take_at, drop_at, drop-drop, drop_all, take_all, length-take-le}
use Rattle.outside.specs.Disks.{write_over, Torn, CutOrNot}

-- what stands before a write's piece, zeros behind an old end included
abbrev pub written_front : ℕ → List ℕ → List ℕ
written_front at old = take at old ++ replicate (at - length old) 0

pub length-written_front : (at : ℕ) (old : List ℕ) → length (written_front at old) ≡ at
length-written_front at old = omega
    (arith, length-append (take at old) (replicate (at - length old) 0), length-replicate {A = ℕ} (at - length old) 0, length-take at old)

pub length-write_over : (at : ℕ) (piece old : List ℕ) → length (write_over at piece old) ≡ max (length old) (at + length piece)
length-write_over at piece old =
    omega (
      arith,
      length-append (written_front at old
          ++ piece) (drop (at + length piece) old),
      length-append (written_front at old) piece,
      length-written_front at old,
      length-drop
          (at + length piece) old,
    )

-- a write that came to its end is one that may have been torn
pub torn_done : (at : ℕ) (piece old : List ℕ) → Torn at (length piece) old (write_over at piece old)
torn_done at piece old =
    let n = length piece in
    let front = take at old in
    let zeros : List ℕ = replicate (at - length old) 0 in
    let rest = drop (at + n) old in
    let regrouped : write_over at piece old ≡ front ++ (zeros ++ (piece ++ rest)) = append_assoc (front ++ zeros) piece rest
    ∙ append_assoc front zeros (piece ++ rest) in
    let reach : length (front ++ zeros ++ piece) ≡ at + n = length-append (front ++ zeros) piece
    ∙ ap (λ (j : ℕ). j + n) (length-written_front at old) in
    record {
      before = sym (ap (λ (l : List ℕ). take (length front) l) regrouped ∙ take_at front (zeros ++ (piece ++ rest)) (length front) refl);
      after = drop_at (front ++ zeros ++ piece) rest (at + n) reach;
      no_shorter = omega (arith, length-write_over at piece old);
      no_longer = omega (arith, length-write_over at piece old);
    }

take_front : (at : ℕ) (xs : List ℕ) → take at xs ≡ take (length (take at xs)) xs
take_front zero xs = refl
take_front (suc at) [] = refl
take_front (suc at) (x ∷ xs) = ap (λ (l : List ℕ). x ∷ l) (take_front at xs)

-- and so is one that did not begin
pub torn_self : (at n : ℕ) (xs : List ℕ) → Torn at n xs xs
torn_self at n xs = record { before = take_front at xs; after = refl; no_shorter = omega arith; no_longer = omega arith }

pub cut_not : (n : ℕ) (xs : List ℕ) → CutOrNot n xs xs
cut_not n xs = inl refl

pub cut_done : (n : ℕ) (xs : List ℕ) → CutOrNot n xs (take n xs)
cut_done n xs = inr refl

-- no zeros stand before a write that begins within
pub write_over-within : (at : ℕ) (piece old : List ℕ) → at ≤ length old → write_over at piece old ≡ take at old ++ piece
    ++ drop (at + length piece) old
write_over-within at piece old within =
    let none : at - length old ≡ 0 = omega arith in
    let front : take at old ++ replicate (at - length old) 0 ≡ take at old = ap (λ (n : ℕ). take at old ++ replicate n 0) none
    ∙ append-nil (take at old) in
    ap (λ (l : List ℕ). l ++ piece ++ drop (at + length piece) old) front

-- a write at the end appends
pub write_over-end : (piece old : List ℕ) → write_over (length old) piece old ≡ old ++ piece
write_over-end piece old =
    let front : take (length old) old ≡ old = take_all (length old) old (omega arith) in
    let back : drop (length old + length piece) old ≡ [] = drop_all (length old + length piece) old (omega arith) in
    write_over-within (length old) piece old (omega arith) ∙ ap (λ (l : List ℕ). l ++ piece ++ drop (length old + length piece) old) front
    ∙ ap (λ (l : List ℕ). old ++ piece ++ l) back ∙ append-nil (old ++ piece)

-- what a torn write that begins within leaves: some bytes, no more than n, stand where it wrote
pub record Parts (at n : ℕ) (old new : List ℕ) : Type 0 where
  pub middle : List ℕ
  pub no_more : length middle ≤ n
  pub full : at + n ≤ length old → length middle ≡ n
  pub parts : new ≡ take at old ++ middle ++ drop (at + n) old

pub torn_parts : (at n : ℕ) (old new : List ℕ) → at ≤ length old → Torn at n old new → Parts at n old new
torn_parts at n old new within torn =
    let reach : length (take at old) ≡ at = length-take-le at old within in
    let front : take at new ≡ take at old = sym (torn.before ∙ ap (λ (j : ℕ). take j new) reach) in
    let back : drop n (drop at new) ≡ drop (at + n) old = drop-drop n at new ∙ torn.after in
    let behind : take n (drop at new) ++ drop (at + n) old ≡ drop at new = sym (ap (λ (l : List ℕ). take n (drop at new) ++ l) back)
    ∙ take-append-drop n (drop at new) in
    record {
      middle = take n (drop at new);
      no_more = omega (arith, length-take n (drop at new));
      full = λ inside. omega (arith, length-take n (drop at new), length-drop at new, torn.no_shorter, inside);
      parts = sym (append_assoc (take at old) (take n (drop at new)) (drop (at + n) old) ∙ ap (λ (l : List ℕ). take at old ++ l) behind
          ∙ ap (λ (l : List ℕ). l ++ drop at new) (sym front) ∙ take-append-drop at new);
    }

-- a torn write within the old bytes is a write of some other bytes, as many
pub torn_within : (at n : ℕ) (old new : List ℕ) → at + n ≤ length old → Torn at n old new → (other : List ℕ) × (length other ≡ n)
    × (new ≡ write_over at other old)
torn_within at n old new inside torn =
    let p = torn_parts at n old new (omega (arith, inside)) torn in
    let long = p.full inside in (
      p.middle,
      long,
      p.parts ∙ ap (λ (j : ℕ). take at old ++ p.middle ++ drop (at + j) old) (sym long)
          ∙ sym (write_over-within at p.middle old (omega (arith, inside))),
    )
