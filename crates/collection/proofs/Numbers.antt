-- Lists of numbers, no number twice: what is among them, and their places in an order.
use Rattle.std.proofs.Common.{◌≡◌, ◌<◌, ◌≤◌, ◌+◌, ℕ, zero, suc, Bool, true, false, refl, sym, ap, ◌∙◌, List, [], ◌∷◌, length, take, drop, get_or, arith}
use Rattle.std.specs.Prelude.{nat_eq, not, ◌&&◌, ◌||◌, filter, slice_get, IfSome}
use Rattle.std.specs.List.{list_all, insert, remove}
use Rattle.std.proofs.lemmas.Bool.Decides.{nat_tests}
use Rattle.ordered_lists.specs.Lists.{ascends}
use Rattle.ordered_lists.specs.Reading.{both_of, filter-most}
use Rattle.run_list.specs.Runs.{is_cut}
use Rattle.collection.specs.Deadlines.{is_among}
use Rattle.collection.specs.Slotted.{are_apart}

eq_of : (a b : ℕ) → nat_eq a b ≡ true → a ≡ b
eq_of a b e = grind (arith, nat_tests)

pub itself : (a : ℕ) → nat_eq a a ≡ true
itself a = grind (arith, nat_tests)

pub later_one : (a b : Bool) → b ≡ true → (a || b) ≡ true
later_one a b e = grind arith

this_or_later : (q : ℕ → Bool) (k x : ℕ) (b c : Bool) → nat_eq k x ≡ b → q x ≡ true → (c ≡ true → q k ≡ true) → (b || c) ≡ true → q k ≡ true
this_or_later q k x true c e here more any = ap q (eq_of k x e) ∙ here
this_or_later q k x false c e here more any = more any

pub all_among : (q : ℕ → Bool) (xs : List ℕ) (k : ℕ) → list_all q xs ≡ true → is_among k xs ≡ true → q k ≡ true
all_among q [] k all any = absurd (cc)
all_among q (x ∷ xs) k all any =
    let p = both_of (q x) (list_all q xs) all in
    this_or_later q k x (nat_eq k x) (is_among k xs) refl p.0 (λ m. all_among q xs k p.1 m) any

pub among_all : (q : ℕ → Bool) (xs : List ℕ) → ((k : ℕ) → is_among k xs ≡ true → q k ≡ true) → list_all q xs ≡ true
among_all q [] each = refl
among_all q (x ∷ xs) each =
    let first : is_among x (x ∷ xs) ≡ true = rw (itself x) refl in
    rw (each x first, among_all q xs (λ k m. each k (later_one (nat_eq k x) (is_among k xs) m))) refl

pub among_at : (k : ℕ) (ks : List ℕ) (i d : ℕ) → i < length ks → k ≡ get_or ks i d → is_among k ks ≡ true
among_at k [] i d lt is = absurd (omega arith)
among_at k (j ∷ ks) zero d lt is = rw (← is, itself k) refl
among_at k (j ∷ ks) (suc i) d lt is = later_one (nat_eq k j) (is_among k ks) (among_at k ks i d (omega arith) is)

pub among_insert : (k x : ℕ) (ys : List ℕ) (p : ℕ) → is_among k (insert ys p x) ≡ (is_among k ys || nat_eq k x)
among_insert k x [] zero = grind arith
among_insert k x [] (suc p) = grind arith
among_insert k x (y ∷ ys) zero = grind arith
among_insert k x (y ∷ ys) (suc p) = let ih = among_insert k x ys p in grind arith

pub among_new : (k : ℕ) (ys : List ℕ) (p : ℕ) → is_among k (insert ys p k) ≡ true
among_new k ys p = among_insert k k ys p ∙ later_one (is_among k ys) (nat_eq k k) (itself k)

not_first : (x y : ℕ) (ys : List ℕ) (p d : ℕ) → p < length ys → not (is_among y ys) ≡ true → x ≡ get_or ys p d → nat_eq y x ≡ false
not_first x y [] p d lt none is = absurd (omega arith)
not_first x y (z ∷ ys) zero d lt none is = rw is (grind arith)
not_first x y (z ∷ ys) (suc p) d lt none is = not_first x y ys p d (omega arith) (grind arith) is

swapped : (k x y : ℕ) → nat_eq k y ≡ true → nat_eq y x ≡ nat_eq k x
swapped k x y e = ap (λ (n : ℕ). nat_eq n x) (sym (eq_of k y e))

among_same : (k y : ℕ) (ys : List ℕ) → nat_eq k y ≡ true → is_among k ys ≡ is_among y ys
among_same k y ys e = ap (λ (n : ℕ). is_among n ys) (eq_of k y e)

pub among_remove : (k x : ℕ) (ys : List ℕ) (p d : ℕ) → are_apart ys ≡ true → p < length ys → x ≡ get_or ys p d → is_among k (remove ys p) ≡ (is_among k ys && not (nat_eq k x))
among_remove k x [] p d apart lt is = absurd (omega arith)
among_remove k x (y ∷ ys) zero d apart lt is =
    let a = both_of (not (is_among y ys)) (are_apart ys) apart in
    let s = among_same k y ys in
    rw is (grind arith)
among_remove k x (y ∷ ys) (suc p) d apart lt is =
    let a = both_of (not (is_among y ys)) (are_apart ys) apart in
    let other = not_first x y ys p d (omega arith) a.0 is in
    let s = swapped k x y in
    let ih = among_remove k x ys p d a.1 (omega arith) is in
    grind arith

among_without : (k x : ℕ) (ys : List ℕ) → is_among k (filter (λ y. not (nat_eq y x)) ys) ≡ (is_among k ys && not (nat_eq k x))
among_without k x [] = refl
among_without k x (y ∷ ys) =
    let s = swapped k x y in
    let ih = among_without k x ys in
    grind arith

fewer : (x : ℕ) (ys : List ℕ) → is_among x ys ≡ true → length (filter (λ y. not (nat_eq y x)) ys) + 1 ≤ length ys
fewer x [] any = absurd (cc)
fewer x (y ∷ ys) any = this_one (nat_eq y x) (nat_eq x y) refl refl (filter-most (λ y. not (nat_eq y x)) ys) (fewer x ys)
  where
    this_one : (b c : Bool) → nat_eq y x ≡ b → nat_eq x y ≡ c → length (filter (λ y. not (nat_eq y x)) ys) ≤ length ys
        → (is_among x ys ≡ true → length (filter (λ y. not (nat_eq y x)) ys) + 1 ≤ length ys)
        → length (filter (λ y. not (nat_eq y x)) (y ∷ ys)) + 1 ≤ length (y ∷ ys)
    this_one true c e f le ih = rw e (omega (arith, le))
    this_one false false e f le ih = let less = ih (rw f at any) in rw e (omega (arith, less))
    this_one false true e f le ih = absurd (grind (arith, nat_tests))

-- as many at least as there are in a list of some of them, none twice
pub fits : (xs ys : List ℕ) → are_apart xs ≡ true → ((k : ℕ) → is_among k xs ≡ true → is_among k ys ≡ true) → length xs ≤ length ys
fits [] ys apart each = omega arith
fits (x ∷ xs) ys apart each =
    let a = both_of (not (is_among x xs)) (are_apart xs) apart in
    let first : is_among x (x ∷ xs) ≡ true = rw (itself x) refl in
    let less = fewer x ys (each x first) in
    let rest = fits xs (filter (λ y. not (nat_eq y x)) ys) a.1 (λ k m. kept k m a.0) in
    omega (arith, less, rest)
  where
    kept : (k : ℕ) → is_among k xs ≡ true → not (is_among x xs) ≡ true → is_among k (filter (λ y. not (nat_eq y x)) ys) ≡ true
    kept k m none =
        let s = among_same k x xs in
        let there = each k (later_one (nat_eq k x) (is_among k xs) m) in
        let is = among_without k x ys in
        grind arith

module _ (lt : ℕ → ℕ → Bool) (trans : (x y z : ℕ) → lt x y ≡ true → lt y z ≡ true → lt x z ≡ true) (asym : (x y : ℕ) → lt x y ≡ true → lt y x ≡ false) where
  not_below : (x : ℕ) → lt x x ≡ false
  not_below x = let fails = asym x x in grind arith

  none_below : (x y : ℕ) (zs : List ℕ) → lt y x ≡ false → list_all (lt y) zs ≡ true → list_all (λ z. not (lt z x)) zs ≡ true
  none_below x y [] e all = refl
  none_below x y (z ∷ zs) e all =
      let p = both_of (lt y z) (list_all (lt y) zs) all in
      let more = trans y z x p.0 in
      let ih = none_below x y zs e p.1 in
      grind arith

  -- those that stand before a number are in front
  pub cut_by : (x : ℕ) (ys : List ℕ) → ascends lt ys ≡ true → is_cut (λ y. lt y x) ys ≡ true
  cut_by x [] asc = refl
  cut_by x (y ∷ ys) asc =
      let p = both_of (list_all (lt y) ys) (ascends lt ys) asc in
      let ih = cut_by x ys p.1 in
      let none = λ (e : lt y x ≡ false). none_below x y ys e p.0 in
      chosen (lt y x) refl ih none
    where
      chosen : (b : Bool) → lt y x ≡ b → is_cut (λ y. lt y x) ys ≡ true → (lt y x ≡ false → list_all (λ z. not (lt z x)) ys ≡ true) → is_cut (λ y. lt y x) (y ∷ ys) ≡ true
      chosen true e more none = rw e more
      chosen false e more none = rw e (none e)

  -- a number that stands before or behind each of these stands before the next one that does not stand before it
  pub next_behind : (x : ℕ) (ys : List ℕ) (p : ℕ) → list_all (λ y. not (lt y x)) (drop p ys) ≡ true → ((k : ℕ) → is_among k ys ≡ true → (lt k x || lt x k) ≡ true) → IfSome (slice_get ys p) (λ y. lt x y ≡ true)
  next_behind x [] zero behind total = tt
  next_behind x [] (suc p) behind total = tt
  next_behind x (y ∷ ys) zero behind total =
      let p = both_of (not (lt y x)) (list_all (λ y. not (lt y x)) ys) behind in
      let first : is_among y (y ∷ ys) ≡ true = rw (itself y) refl in
      let either = total y first in
      grind arith
  next_behind x (y ∷ ys) (suc p) behind total = next_behind x ys p behind (λ k m. total k (later_one (nat_eq k y) (is_among k ys) m))

  -- one of these stands behind those that stand before it
  pub stands : (x : ℕ) (ys : List ℕ) (p d : ℕ) → ascends lt ys ≡ true → is_among x ys ≡ true → list_all (λ y. lt y x) (take p ys) ≡ true → list_all (λ y. not (lt y x)) (drop p ys) ≡ true → (p < length ys) × (x ≡ get_or ys p d)
  stands x [] p d asc any front behind = absurd (cc)
  stands x (y ∷ ys) zero d asc any front behind =
      let a = both_of (list_all (lt y) ys) (ascends lt ys) asc in
      let b = both_of (not (lt y x)) (list_all (λ y. not (lt y x)) ys) behind in
      let m = all_among (lt y) ys x a.0 in
      let first : nat_eq x y ≡ true = grind arith in
      (omega arith, eq_of x y first)
  stands x (y ∷ ys) (suc p) d asc any front behind =
      let a = both_of (list_all (lt y) ys) (ascends lt ys) asc in
      let b = both_of (lt y x) (list_all (λ y. lt y x) (take p ys)) front in
      let other : nat_eq x y ≡ false = apart (nat_eq x y) refl b.0 in
      let later : is_among x ys ≡ true = rw other at any in
      let ih = stands x ys p d a.1 later b.1 behind in
      (omega (arith, ih.0), ih.1)
    where
      apart : (b : Bool) → nat_eq x y ≡ b → lt y x ≡ true → b ≡ false
      apart false e below = refl
      apart true e below =
          let s : lt x x ≡ true = ap (λ (n : ℕ). lt n x) (eq_of x y e) ∙ below in
          let n = not_below x in
          absurd (cc)

  not_among : (y : ℕ) (ys : List ℕ) → list_all (lt y) ys ≡ true → not (is_among y ys) ≡ true
  not_among y ys all = let m = all_among (lt y) ys y all in let n = not_below y in grind arith

  pub apart_of : (ys : List ℕ) → ascends lt ys ≡ true → are_apart ys ≡ true
  apart_of [] asc = refl
  apart_of (y ∷ ys) asc =
      let p = both_of (list_all (lt y) ys) (ascends lt ys) asc in
      rw (not_among y ys p.0, apart_of ys p.1) refl
