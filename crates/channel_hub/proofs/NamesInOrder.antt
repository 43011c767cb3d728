-- A list of names in byte order is known by what is in it.
use Rattle.std.proofs.Common.{◌≡◌, ◌<◌, ◌+◌, ℕ, suc, Bool, true, false, cond, refl, sym, ap, ◌∙◌, subst, List, [], ◌∷◌, length, get_or, arith}
use Rattle.std.specs.Prelude.{not}
use Rattle.std.specs.List.{list_all, sum_by}
use Rattle.std.specs.List.Sorted.{IsSorted}
use Rattle.std.specs.Ordering.{nat_cmp}
use Rattle.std.specs.Cmp.Lexicographic.{slice_cmp}
use Rattle.std.proofs.lemmas.List.Sums.{sum_by-cons}
use Rattle.byte_text.specs.Names.{Bytes, before, same}
use Rattle.byte_text.specs.ByteOrder.{before_trans, before_tie, before_asym, same_refl, other_before, less_is_before}
use Rattle.ordered_lists.specs.Lists.{ascends}
use Rattle.ordered_lists.specs.Reading.{both_of}

-- the second does not stand before the first
abbrev is_up : Bytes → Bytes → Bool
is_up x y = not (before y x)

-- no name stands before one in front of it
abbrev pub rises : List Bytes → Bool
rises xs = ascends is_up xs

not_true : (b : Bool) → not b ≡ true → b ≡ false
not_true b e = grind arith

-- a strict step and one that is not down make a strict one
on_up : (x y z : Bytes) → before x y ≡ true → before z y ≡ false → before x z ≡ true
on_up x y z p q = by_order (before y z) refl
  where
    by_order : (b : Bool) → before y z ≡ b → before x z ≡ true
    by_order true e = before_trans x y z p e
    by_order false e = subst (λ (n : Bytes). before x n ≡ true) (before_tie y z e q) p

up_up : (x y z : Bytes) → before y x ≡ false → before z y ≡ false → before z x ≡ false
up_up x y z p q = by_order (before z x) refl
  where
    by_order : (b : Bool) → before z x ≡ b → before z x ≡ false
    by_order false e = e
    by_order true e = let over = on_up z x y e p in absurd (cc)

-- how often a name is there, of one name
abbrev once : Bytes → Bytes → ℕ
once x y = cond (same x y) 1 0

none_of_later : (x : Bytes) (ys : List Bytes) → list_all (before x) ys ≡ true → sum_by (once x) ys ≡ 0
none_of_later x [] all = refl
none_of_later x (y ∷ ys) all =
    let p = both_of (before x y) (list_all (before x) ys) all in
    let other = other_before x y p.0 in
    let here : once x y ≡ 0 = rw other refl in
    let s = sum_by-cons (once x) y ys in
    omega (arith, here, s, none_of_later x ys p.1)

above : (x y : Bytes) (ys : List Bytes) → before x y ≡ true → list_all (is_up y) ys ≡ true → list_all (before x) ys ≡ true
above x y [] p all = refl
above x y (z ∷ ys) p all =
    let h = both_of (is_up y z) (list_all (is_up y) ys) all in
    let here = on_up x y z p (not_true (before z y) h.0) in
    rw (here, above x y ys p h.1) refl

first_up : (x y : Bytes) (xs ys : List Bytes) → list_all (is_up y) ys ≡ true → sum_by (once x) (x ∷ xs) ≡ sum_by (once x) (y ∷ ys) → before x y ≡ false
first_up x y xs ys all is = no (before x y) refl
  where
    no : (b : Bool) → before x y ≡ b → b ≡ false
    no false e = refl
    no true e =
        let behind : list_all (before x) (y ∷ ys) ≡ true = rw (e, above x y ys e all) refl in
        let none = none_of_later x (y ∷ ys) behind in
        let one : once x x ≡ 1 = rw (same_refl x) refl in
        let s = sum_by-cons (once x) x xs in
        absurd (omega (arith, none, one, s, is))

pub same_names : (xs ys : List Bytes) → rises xs ≡ true → rises ys ≡ true → ((w : Bytes → ℕ) → sum_by w xs ≡ sum_by w ys) → xs ≡ ys
same_names [] [] up up' is = refl
same_names [] (y ∷ ys) up up' is = let s = is (λ n. 1) in let c = sum_by-cons (λ (n : Bytes). 1) y ys in absurd (omega (arith, s, c))
same_names (x ∷ xs) [] up up' is = let s = is (λ n. 1) in let c = sum_by-cons (λ (n : Bytes). 1) x xs in absurd (omega (arith, s, c))
same_names (x ∷ xs) (y ∷ ys) up up' is =
    let p = both_of (list_all (is_up x) xs) (rises xs) up in
    let q = both_of (list_all (is_up y) ys) (rises ys) up' in
    let low = first_up x y xs ys q.0 (is (once x)) in
    let high = first_up y x ys xs p.0 (sym (is (once y))) in
    let first : x ≡ y = before_tie x y low high in
    let rest = same_names xs ys p.1 q.1 (λ w. let s = is w in let a = sum_by-cons w x xs in let b = sum_by-cons w y ys in let e : w x ≡ w y = ap w first in omega (arith, s, a, b, e)) in
    rw (first, rest) refl

-- names that ascend rise

all_up : (x : Bytes) (ys : List Bytes) → list_all (before x) ys ≡ true → list_all (is_up x) ys ≡ true
all_up x [] all = refl
all_up x (y ∷ ys) all =
    let p = both_of (before x y) (list_all (before x) ys) all in
    rw (before_asym x y p.0, all_up x ys p.1) refl

pub ascending_rise : (xs : List Bytes) → ascends before xs ≡ true → rises xs ≡ true
ascending_rise [] asc = refl
ascending_rise (x ∷ xs) asc =
    let p = both_of (list_all (before x) xs) (ascends before xs) asc in
    rw (all_up x xs p.0, ascending_rise xs p.1) refl

-- what a sort gives rises

all_far : (x y : Bytes) (zs : List Bytes) → before y x ≡ false → list_all (is_up y) zs ≡ true → list_all (is_up x) zs ≡ true
all_far x y [] le all = refl
all_far x y (z ∷ zs) le all =
    let p = both_of (is_up y z) (list_all (is_up y) zs) all in
    rw (up_up x y z le (not_true (before z y) p.0), all_far x y zs le p.1) refl

steps_rise : (xs : List Bytes) → ((i j : ℕ) (d : Bytes) → j ≡ i + 1 → j < length xs → before (get_or xs j d) (get_or xs i d) ≡ false) → rises xs ≡ true
steps_rise [] h = refl
steps_rise (x ∷ []) h = refl
steps_rise (x ∷ y ∷ xs) h =
    let rest = steps_rise (y ∷ xs) (λ i j d e lt. h (suc i) (suc j) d (omega (arith, e)) (omega (arith, lt))) in
    let p = both_of (list_all (is_up y) xs) (rises xs) rest in
    let first : before y x ≡ false = h 0 1 x (omega arith) (omega arith) in
    let all = all_far x y xs first p.0 in
    rw (first, all, p.0, p.1) refl

pub sorted_rise : (xs : List Bytes) → IsSorted (slice_cmp nat_cmp) xs → rises xs ≡ true
sorted_rise xs s = steps_rise xs (λ i j d e lt. step i j d e lt)
  where
    step : (i j : ℕ) (d : Bytes) → j ≡ i + 1 → j < length xs → before (get_or xs j d) (get_or xs i d) ≡ false
    step i j d e lt =
        let next : before (get_or xs (i + 1) d) (get_or xs i d) ≡ false = sym (less_is_before (get_or xs (i + 1) d) (get_or xs i d)) ∙ s i d (omega arith) (omega (arith, e, lt)) in
        subst (λ (k : ℕ). before (get_or xs k d) (get_or xs i d) ≡ false) (sym e) next
