-- The place of what is sought in an ascending list: found by halving, what stands there, and what is left without it.
use Rattle.std.proofs.Common.{◌≡◌, ◌<◌, ◌≤◌, ℕ, zero, suc, Bool, true, false, not, refl, sym, ap, subst, List, [], ◌∷◌, length, take, drop, get_or}
use Rattle.std.proofs.Common.{arith}
use Rattle.std.specs.Prelude.{Option, Some, None, filter, find, IfSome}
use Rattle.std.specs.List.{list_all, slice_get, remove}
use Rattle.std.specs.List.Sorted.{IsPartitionedBy, IsPartitionPoint}
use Rattle.ordered_lists.specs.Lists.{ascends, IsHeld, IsFree}
use Rattle.ordered_lists.specs.Reading.{both_of, all_get, filter-all, filter-none, all-weaker, front_all, stands_at, past_end}

-- a test that what stands before passes too splits an ascending list
pub partitioned_by : {A : Type 0} (lt : A → A → Bool) (q : A → Bool) → ((x y : A) → lt x y ≡ true → q y ≡ true → q x ≡ true) → (xs : List A)
    → ascends lt xs ≡ true → IsPartitionedBy q xs
partitioned_by lt q down [] asc i j d le within h = absurd (omega arith)
partitioned_by lt q down (x ∷ xs) asc zero zero d le within h = h
partitioned_by lt q down (x ∷ xs) asc zero (suc j) d le within h =
    let above = (both_of (list_all (lt x) xs) (ascends lt xs) asc).0 in
    down x (get_or xs j d) (all_get (lt x) xs j d (omega arith) above) h
partitioned_by lt q down (x ∷ xs) asc (suc i) zero d le within h = absurd (omega arith)
partitioned_by lt q down (x ∷ xs) asc (suc i) (suc j) d le within h =
    partitioned_by lt q down xs (both_of (list_all (lt x) xs) (ascends lt xs) asc).1 i j d (omega arith) (omega arith) h

-- a list that is split so: those that pass the test are in front of the place, and the others behind it

back_all : {A : Type 0} (q : A → Bool) (xs : List A) (at : ℕ) → ((k : ℕ) (d : A) → at ≤ k → k < length xs → q (get_or xs k d) ≡ false)
    → list_all (λ x. not (q x)) (drop at xs) ≡ true
back_all q [] zero f = refl
back_all q [] (suc at) f = refl
back_all q (x ∷ xs) zero f =
    let here : q x ≡ false = f zero x (omega arith) (omega arith) in
    let rest : list_all (λ y. not (q y)) xs ≡ true = back_all q xs zero (λ k d lo hi. f (suc k) d (omega arith) (omega arith)) in
    rw (here, rest) refl
back_all q (x ∷ xs) (suc at) f = back_all q xs at (λ k d lo hi. f (suc k) d (omega arith) (omega arith))

rest_is : {A : Type 0} (q : A → Bool) (xs : List A) (at : ℕ) → list_all q (take at xs) ≡ true → list_all (λ x. not (q x)) (drop at xs) ≡ true
    → drop at xs ≡ filter (λ x. not (q x)) xs
rest_is q [] zero front back = refl
rest_is q [] (suc at) front back = refl
rest_is q (x ∷ xs) zero front back = sym (filter-all (λ y. not (q y)) (x ∷ xs) back)
rest_is q (x ∷ xs) (suc at) front back =
    let p = both_of (q x) (list_all q (take at xs)) front in
    rw p.0 (rest_is q xs at p.1 back)

front_is : {A : Type 0} (q : A → Bool) (xs : List A) (at : ℕ) → list_all q (take at xs) ≡ true → list_all (λ x. not (q x)) (drop at xs) ≡ true
    → take at xs ≡ filter q xs
front_is q [] zero front back = refl
front_is q [] (suc at) front back = refl
front_is q (x ∷ xs) zero front back = sym (filter-none q (x ∷ xs) back)
front_is q (x ∷ xs) (suc at) front back =
    let p = both_of (q x) (list_all q (take at xs)) front in
    rw p.0 (ap (λ l. x ∷ l) (front_is q xs at p.1 back))

module _ {A : Type 0} (q : A → Bool) (xs : List A) (at : ℕ) (bound : at ≤ length xs)
    (parts : IsPartitionPoint (λ x. q x ≡ true) (λ x. q x ≡ false) xs at) where
  pub split_front : take at xs ≡ filter q xs
  split_front = front_is q xs at (front_all q xs at bound parts.0) (back_all q xs at parts.1)

  pub split_back : drop at xs ≡ filter (λ x. not (q x)) xs
  split_back = rest_is q xs at (front_all q xs at bound parts.0) (back_all q xs at parts.1)

-- the place of the one sought, where halving split the list by what stands before it
module _ {A : Type 0} (in_front is_behind : A
    → Bool) (xs : List A) (at : ℕ) (bound : at ≤ length xs) (parts : IsPartitionPoint (λ x. in_front x ≡ true) (λ x. in_front x ≡ false) xs at) where
  pub free_at_end : at ≡ length xs → IsFree in_front is_behind xs at
  free_at_end end = record {
    front = front_all in_front xs at bound parts.0;
    within = bound;
    behind = subst (λ (n : ℕ). IfSome (slice_get xs n) (λ x. is_behind x ≡ true)) (sym end) (past_end xs (λ x. is_behind x ≡ true));
  }

  -- the item at the place is read, and ties with the one sought or not
  pub held_there : (x : A) → at < length xs → x ≡ get_or xs at x → is_behind x ≡ false → IsHeld in_front is_behind xs at
  held_there x within is tie =
      let fails : in_front x ≡ false = subst (λ (y : A). in_front y ≡ false) (sym is) (parts.1 at x (omega arith) within) in
      record {
        front = front_all in_front xs at bound parts.0;
        within = within;
        tie = subst (λ (o : Option A). IfSome o (λ y. (is_behind y ≡ false) × (in_front y ≡ false))) (sym (stands_at xs at x within is)) (tie, fails);
      }

  pub free_there : (x : A) → at < length xs → x ≡ get_or xs at x → (in_front x ≡ false → is_behind x ≡ true) → IsFree in_front is_behind xs at
  free_there x within is other =
      let fails : in_front x ≡ false = subst (λ (y : A). in_front y ≡ false) (sym is) (parts.1 at x (omega arith) within) in
      record {
        front = front_all in_front xs at bound parts.0;
        within = bound;
        behind = subst (λ (o : Option A). IfSome o (λ y. is_behind y ≡ true)) (sym (stands_at xs at x within is)) (other fails);
      }

-- items stand before the one sought, behind it, or are it
pub record IsSought {A : Type 0} (lt : A → A → Bool) (in_front is_behind is_it : A → Bool) : Type 0 where
  pub front_other : (x : A) → in_front x ≡ true → is_it x ≡ false
  pub back_other : (x : A) → is_behind x ≡ true → is_it x ≡ false
  pub tied : (x : A) → is_behind x ≡ false → in_front x ≡ false → is_it x ≡ true
  pub back_on : (x y : A) → is_behind x ≡ true → lt x y ≡ true → is_behind y ≡ true
  pub back_it : (x y : A) → is_it x ≡ true → lt x y ≡ true → is_behind y ≡ true

module _ {A : Type 0} (lt : A → A → Bool) (in_front is_behind is_it : A → Bool) (o : IsSought lt in_front is_behind is_it) where
  pub all_behind : (x : A) (xs : List A) → ((y : A) → lt x y ≡ true → is_behind y ≡ true) → list_all (lt x) xs ≡ true → list_all is_behind xs ≡ true
  all_behind x xs = all-weaker (lt x) is_behind xs

  pub none_behind : (xs : List A) → list_all is_behind xs ≡ true → find is_it xs ≡ None
  none_behind [] all = refl
  none_behind (x ∷ xs) all =
      let p = both_of (is_behind x) (list_all is_behind xs) all in
      rw (o.back_other x p.0) (none_behind xs p.1)

  pub kept_behind : (xs : List A) → list_all is_behind xs ≡ true → filter (λ x. not (is_it x)) xs ≡ xs
  kept_behind [] all = refl
  kept_behind (x ∷ xs) all =
      let p = both_of (is_behind x) (list_all is_behind xs) all in
      rw (o.back_other x p.0, kept_behind xs p.1) refl

  -- the item at a held place is the one sought
  pub it_there : (xs : List A) (at : ℕ) (x : A) → IsHeld in_front is_behind xs at → slice_get xs at ≡ Some x → is_it x ≡ true
  it_there xs at x h is =
      let t = subst (λ (p : Option A). IfSome p (λ y. (is_behind y ≡ false) × (in_front y ≡ false))) is h.tie in
      o.tied x t.0 t.1

  found_in : (xs : List A) (at : ℕ) (x : A) → slice_get xs at ≡ Some x → list_all in_front (take at xs) ≡ true → is_it x ≡ true
      → find is_it xs ≡ Some x
  found_in [] at x is front e = absurd (cc)
  found_in (y ∷ xs) zero x is front e =
      let s : y ≡ x = cc in
      let t : is_it y ≡ true = subst (λ (z : A). is_it z ≡ true) (sym s) e in
      rw t is
  found_in (y ∷ xs) (suc at) x is front e =
      let p = both_of (in_front y) (list_all in_front (take at xs)) front in
      rw (o.front_other y p.0) (found_in xs at x is p.1 e)

  pub found_held : (xs : List A) (at : ℕ) (x : A) → IsHeld in_front is_behind xs at → slice_get xs at ≡ Some x → find is_it xs ≡ Some x
  found_held xs at x h is = found_in xs at x is h.front (it_there xs at x h is)

  none_in : (xs : List A) (at : ℕ) → ascends lt xs ≡ true → list_all in_front (take at xs) ≡ true → IfSome (slice_get xs at) (λ x. is_behind x ≡ true)
      → find is_it xs ≡ None
  none_in [] at asc front next = refl
  none_in (y ∷ xs) zero asc front next =
      let p = both_of (list_all (lt y) xs) (ascends lt xs) asc in
      rw (o.back_other y next) (none_behind xs (all_behind y xs (λ z. o.back_on y z next) p.0))
  none_in (y ∷ xs) (suc at) asc front next =
      let p = both_of (in_front y) (list_all in_front (take at xs)) front in
      let q = both_of (list_all (lt y) xs) (ascends lt xs) asc in
      rw (o.front_other y p.0) (none_in xs at q.1 p.1 next)

  pub found_free : (xs : List A) (at : ℕ) → ascends lt xs ≡ true → IsFree in_front is_behind xs at → find is_it xs ≡ None
  found_free xs at asc f = none_in xs at asc f.front f.behind

  left_in : (xs : List A) (at : ℕ) → ascends lt xs ≡ true → list_all in_front (take at xs) ≡ true → at < length xs
      → IfSome (slice_get xs at) (λ x. (is_behind x ≡ false) × (in_front x ≡ false))
      → filter (λ x. not (is_it x)) xs ≡ remove xs at
  left_in [] at asc front within tie = absurd (omega arith)
  left_in (y ∷ xs) zero asc front within tie =
      let t : is_it y ≡ true = o.tied y tie.0 tie.1 in
      let p = both_of (list_all (lt y) xs) (ascends lt xs) asc in
      rw t (kept_behind xs (all_behind y xs (λ z. o.back_it y z t) p.0))
  left_in (y ∷ xs) (suc at) asc front within tie =
      let p = both_of (in_front y) (list_all in_front (take at xs)) front in
      let q = both_of (list_all (lt y) xs) (ascends lt xs) asc in
      rw (o.front_other y p.0) (ap (λ (l : List A). y ∷ l) (left_in xs at q.1 p.1 (omega arith) tie))

  -- without the one sought an item is removed
  pub left_held : (xs : List A) (at : ℕ) → ascends lt xs ≡ true → IsHeld in_front is_behind xs at → filter (λ x. not (is_it x)) xs ≡ remove xs at
  left_held xs at asc h = left_in xs at asc h.front h.within h.tie

  all_left : (xs : List A) (at : ℕ) → ascends lt xs ≡ true → list_all in_front (take at xs) ≡ true
      → IfSome (slice_get xs at) (λ x. is_behind x ≡ true) → filter (λ x. not (is_it x)) xs ≡ xs
  all_left [] at asc front next = refl
  all_left (y ∷ xs) zero asc front next =
      let p = both_of (list_all (lt y) xs) (ascends lt xs) asc in
      rw (o.back_other y next, kept_behind xs (all_behind y xs (λ z. o.back_on y z next) p.0)) refl
  all_left (y ∷ xs) (suc at) asc front next =
      let p = both_of (in_front y) (list_all in_front (take at xs)) front in
      let q = both_of (list_all (lt y) xs) (ascends lt xs) asc in
      rw (o.front_other y p.0, all_left xs at q.1 p.1 next) refl

  -- and where it is not there, all are left
  pub left_free : (xs : List A) (at : ℕ) → ascends lt xs ≡ true → IsFree in_front is_behind xs at → filter (λ x. not (is_it x)) xs ≡ xs
  left_free xs at asc f = all_left xs at asc f.front f.behind
