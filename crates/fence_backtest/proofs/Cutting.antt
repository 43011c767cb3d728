-- Stretches of changes, one behind another, are the changes.
use Rattle.std.proofs.Common.{◌≡◌, ◌∙◌, ◌<◌, ◌≤◌, ℕ, zero, suc, ◌+◌, ◌-◌, ◌*◌, min, List, [], ◌∷◌, ◌++◌, take, drop, length, map, Some, Result, Ok, Err, refl, sym, ap, subst, arith}
use Rattle.std.proofs.Math.Nat.{mul-le-mul_right, suc-mul, zero-mul}
use Rattle.std.specs.Prelude.{slice_get, Contains, IfOk, MatchResult}
use Rattle.std.specs.List.{AllZip, range_with_len}
use Rattle.std.specs.Int.{div_ceil}
use Rattle.std.proofs.lemmas.Grind.{div_ceil_times}
use Rattle.std.proofs.lemmas.List.{length-drop, length-take, take_all, take_min}
use Rattle.world_data.specs.declared.worlds.Change.{Change}
use Rattle.fence_backtest.specs.Cuts.{IsCut, front, part}

none_taken : {A : Type 0} (n : ℕ) → take {A = A} n [] ≡ []
none_taken zero = refl
none_taken (suc n) = refl

take_sum : {A : Type 0} (m n : ℕ) (xs : List A) → take (m + n) xs ≡ take m xs ++ take n (drop m xs)
take_sum zero n xs = let none : 0 + n ≡ n = omega arith in ap (λ k. take k xs) none
take_sum (suc m) n [] = none_taken (suc m + n) ∙ sym (none_taken n)
take_sum (suc m) n (x ∷ xs) = let next : suc m + n ≡ suc (m + n) = omega arith in ap (λ k. take k (x ∷ xs)) next ∙ ap (λ l. x ∷ l) (take_sum m n xs)

-- a stretch more
pub front_more : (all : List Change) (size k : ℕ) → front all size (suc k) ≡ front all size k ++ part all (k * size) size
front_more all size k = ap (λ n. take n all) (suc-mul k size) ∙ take_sum (k * size) size all

pub front_none : (all : List Change) (size : ℕ) → front all size 0 ≡ []
front_none all size = ap (λ n. take n all) (zero-mul size)

-- all of them
pub front_all : (all : List Change) (size count : ℕ) → length all ≤ count * size → front all size count ≡ all
front_all all size count whole = take_all (count * size) all whole

drop_at : {A : Type 0} (n : ℕ) (xs : List A) (i : ℕ) → slice_get (drop n xs) i ≡ slice_get xs (n + i)
drop_at zero xs i = let none : i ≡ 0 + i = omega arith in ap (slice_get xs) none
drop_at (suc n) [] i = refl
drop_at (suc n) (x ∷ xs) i = let next : suc (n + i) ≡ suc n + i = omega arith in drop_at n xs i ∙ ap (slice_get (x ∷ xs)) next

taken_at : {A : Type 0} (n : ℕ) (xs : List A) (i : ℕ) → i < n → slice_get (take n xs) i ≡ slice_get xs i
taken_at zero xs i small = absurd (omega (arith, small))
taken_at (suc n) [] i small = refl
taken_at (suc n) (x ∷ xs) zero small = refl
taken_at (suc n) (x ∷ xs) (suc i) small = taken_at n xs i (omega (arith, small))

-- a change of a stretch
pub part_at : (all : List Change) (from n i : ℕ) (change : Change) → i < n → slice_get all (from + i) ≡ Some change → slice_get (part all from n) i ≡ Some change
part_at all from n i change small here = taken_at n (drop from all) i small ∙ drop_at from all i ∙ here

-- what stands at a place of two lists that go together
pub zip_at : {A : Type 0} (R : ℕ → A → Type 0) (from n : ℕ) (xs : List A) (i : ℕ) (x : A) → AllZip R (range_with_len from n) xs → slice_get xs i ≡ Some x → R (from + i) x
zip_at R from zero [] i x are here = absurd (cc here)
zip_at R from zero (y ∷ xs) i x are here = absurd are
zip_at R from (suc n) [] i x are here = absurd are
zip_at R from (suc n) (y ∷ xs) zero x are here = let same : y ≡ x = cc here in let place : from ≡ from + 0 = omega arith in subst (λ (k : ℕ). R k x) place (subst (R from) same are.0)
zip_at R from (suc n) (y ∷ xs) (suc i) x are here =
    let place : (from + 1) + i ≡ from + suc i = omega arith in subst (λ (k : ℕ). R k x) place (zip_at R (from + 1) n xs i x are.1 here)

-- what stands at a place within
pub got : {A : Type 0} (xs : List A) (i : ℕ) → i < length xs → (x : A) × (slice_get xs i ≡ Some x)
got [] i within = absurd (omega (arith, within))
got (x ∷ xs) zero within = (x, refl)
got (x ∷ xs) (suc i) within = got xs i (omega (arith, within))

-- a stretch to its end
pub part_all : (all : List Change) (from len i n : ℕ) → i ≡ len → n ≡ i → take i (part all from len) ≡ part all from n
part_all all from len i n is as_long =
    let short : length (part all from len) ≤ i = omega (arith, is, length-take len (drop from all)) in
    let same : len ≡ n = omega (arith, is, as_long) in
    take_all i (part all from len) short ∙ ap (part all from) same

-- as long as there are changes left
pub part_min : (all : List Change) (from size len : ℕ) → len ≡ min size (length all - from) → part all from len ≡ part all from size
part_min all from size len is = ap (part all from) (is ∙ ap (min size) (sym (length-drop from all))) ∙ take_min size (drop from all)

-- the cuts of a length
pub is_cut : (n count size : ℕ) → 0 < size → count ≡ div_ceil n size → IsCut n count size
is_cut n count size long is =
    let bounds = div_ceil_times n size long in
    let all : count * size ≡ div_ceil n size * size = ap (λ (k : ℕ). k * size) is in
    record {
      long = long;
      whole = omega (arith, bounds.0, all);
      inside = λ k small. let up : suc k ≤ count = omega (arith, small) in omega (arith, mul-le-mul_right size up, suc-mul k size, bounds.1, all);
    }

-- as many as there are numbers
pub zip_count : {A : Type 0} (R : ℕ → A → Type 0) (from n : ℕ) (xs : List A) → AllZip R (range_with_len from n) xs → length xs ≡ n
zip_count R from zero [] are = refl
zip_count R from zero (x ∷ xs) are = absurd are
zip_count R from (suc n) [] are = absurd are
zip_count R from (suc n) (x ∷ xs) are = ap suc (zip_count R (from + 1) n xs are.1)

all_ok : {A T : Type 0} (E : Type 0) (R : A → T → Type 0) (xs : List A) (values : List T) → AllZip (λ x (r : Result T E). IfOk r (R x)) xs (map (λ value. Ok value) values) → AllZip R xs values
all_ok E R [] [] are = are
all_ok E R [] (y ∷ values) are = absurd are
all_ok E R (x ∷ xs) [] are = absurd are
all_ok E R (x ∷ xs) (y ∷ values) are = (are.0, all_ok E R xs values are.1)

-- where each answer is a value, the values are those of the items
pub collected : {A T E V : Type 0} (R : A → T → Type 0) (xs : List A) (items : V → List T) (all : Result V E) (answers : List (Result T E))
    → AllZip (λ x r. IfOk r (R x)) xs answers
    → MatchResult all (λ v. (values : List T) × (answers ≡ map Ok values) × (items v ≡ values)) (λ why. Contains answers (Err why))
    → IfOk all (λ v. AllZip R xs (items v))
collected {A} {T} {E} R xs items (Ok v) answers are found =
    subst (AllZip R xs) (sym found.2) (all_ok E R xs found.0 (subst (AllZip (λ x (r : Result T E). IfOk r (R x)) xs) found.1 are))
collected R xs items (Err why) answers are found = tt
