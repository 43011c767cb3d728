-- A list sorted by putting one item after another in.
use Rattle.std.proofs.Common.{◌≡◌, ◌≤◌, ◌+◌, ℕ, zero, suc, Bool, true, false, not, refl, sym, ap, ◌∙◌, List, [], ◌∷◌, length, map, take, drop, arith}
use Rattle.std.specs.Prelude.{◌||◌, Some, filter, slice_get, if◌then◌else◌}
use Rattle.std.specs.List.{list_all, insert, remove}
use Rattle.ordered_lists.specs.Lists.{ascends, insert_by, sorted_by}
use Rattle.ordered_lists.specs.Reading.{all-filter, both_of, filter-all, filter-none}
use Rattle.ordered_lists.specs.Sorting.{all-insert_by, insert_by-first}
use Rattle.run_list.specs.Runs.{is_cut}

not_true : (b : Bool) → not b ≡ true → b ≡ false
not_true b e = grind arith

-- tests of items

module _ {A : Type 0} (p : A → Bool) where
  pub passes : (x : A) (xs : List A) → p x ≡ true → filter p (x ∷ xs) ≡ x ∷ filter p xs
  passes x xs e = rw e refl

  pub fails : (x : A) (xs : List A) → p x ≡ false → filter p (x ∷ xs) ≡ filter p xs
  fails x xs e = rw e refl

  -- where those that pass stand in front
  pub front_is : (xs : List A) (at : ℕ) → list_all p (take at xs) ≡ true → list_all (λ x. not (p x)) (drop at xs) ≡ true → take at xs ≡ filter p xs
  front_is [] zero front back = refl
  front_is [] (suc at) front back = refl
  front_is (x ∷ xs) zero front back = sym (filter-none p (x ∷ xs) back)
  front_is (x ∷ xs) (suc at) front back =
      let q = both_of (p x) (list_all p (take at xs)) front in
      rw q.0 (ap (λ (l : List A). x ∷ l) (front_is xs at q.1 back))

  pub rest_is : (xs : List A) (at : ℕ) → list_all p (take at xs) ≡ true → list_all (λ x. not (p x)) (drop at xs) ≡ true → drop at xs ≡ filter (λ x. not (p x)) xs
  rest_is [] zero front back = refl
  rest_is [] (suc at) front back = refl
  rest_is (x ∷ xs) zero front back = sym (filter-all (λ y. not (p y)) (x ∷ xs) back)
  rest_is (x ∷ xs) (suc at) front back =
      let q = both_of (p x) (list_all p (take at xs)) front in
      rw q.0 (rest_is xs at q.1 back)

pub map_filter : {A B : Type 0} (f : A → B) (q : B → Bool) (xs : List A) → map f (filter (λ a. q (f a)) xs) ≡ filter q (map f xs)
map_filter f q [] = refl
map_filter {B = B} f q (x ∷ xs) = by_test (q (f x)) (map_filter f q xs)
  where
    by_test : (b : Bool) → map f (filter (λ a. q (f a)) xs) ≡ filter q (map f xs)
        → map f (if b then x ∷ filter (λ a. q (f a)) xs else filter (λ a. q (f a)) xs) ≡ (if b then f x ∷ filter q (map f xs) else filter q (map f xs))
    by_test true ih = ap (λ (l : List B). f x ∷ l) ih
    by_test false ih = ih

-- items at places

pub insert_removed : {A : Type 0} (xs : List A) (at : ℕ) (x : A) → slice_get xs at ≡ Some x → insert (remove xs at) at x ≡ xs
insert_removed [] at x is = absurd (cc)
insert_removed {A = A} (y ∷ []) zero x is = let it : x ≡ y = cc in ap (λ (z : A). z ∷ []) it
insert_removed {A = A} (y ∷ z ∷ zs) zero x is = let it : x ≡ y = cc in ap (λ (v : A). v ∷ z ∷ zs) it
insert_removed {A = A} (y ∷ ys) (suc at) x is = ap (λ (l : List A). y ∷ l) (insert_removed ys at x is)

pub removed_insert : {A : Type 0} (xs : List A) (at : ℕ) (x : A) → at ≤ length xs → remove (insert xs at x) at ≡ xs
removed_insert [] zero x le = refl
removed_insert [] (suc at) x le = absurd (omega (arith, le))
removed_insert (y ∷ ys) zero x le = refl
removed_insert {A = A} (y ∷ ys) (suc at) x le = ap (λ (l : List A). y ∷ l) (removed_insert ys at x (omega (arith, le)))

pub at_inserted : {A : Type 0} (xs : List A) (at : ℕ) (x : A) → at ≤ length xs → slice_get (insert xs at x) at ≡ Some x
at_inserted [] zero x le = refl
at_inserted [] (suc at) x le = absurd (omega (arith, le))
at_inserted (y ∷ ys) zero x le = refl
at_inserted (y ∷ ys) (suc at) x le = at_inserted ys at x (omega (arith, le))

-- one item put in

module _ {A : Type 0} (lt : A → A → Bool) where
  pub goes_on : (x y : A) (ys : List A) → lt y x ≡ true → insert_by lt x (y ∷ ys) ≡ y ∷ insert_by lt x ys
  goes_on x y ys e = rw e refl

  pub goes_here : (x y : A) (ys : List A) → lt y x ≡ false → insert_by lt x (y ∷ ys) ≡ x ∷ y ∷ ys
  goes_here x y ys e = rw e refl

  -- an item goes in front of the first that does not stand before it
  pub insert_here : (x : A) (ys : List A) (at : ℕ) → list_all (λ y. lt y x) (take at ys) ≡ true → list_all (λ y. not (lt y x)) (drop at ys) ≡ true → insert ys at x ≡ insert_by lt x ys
  insert_here x [] zero front back = refl
  insert_here x [] (suc at) front back = refl
  insert_here x (y ∷ ys) zero front back =
      let q = both_of (not (lt y x)) (list_all (λ z. not (lt z x)) ys) back in
      rw (not_true (lt y x) q.0) refl
  insert_here x (y ∷ ys) (suc at) front back =
      let q = both_of (lt y x) (list_all (λ z. lt z x) (take at ys)) front in
      rw q.0 (ap (λ (l : List A). y ∷ l) (insert_here x ys at q.1 back))

  pub length_insert : (x : A) (ys : List A) → length (insert_by lt x ys) ≡ length ys + 1
  length_insert x [] = refl
  length_insert x (y ∷ ys) = by_test (lt y x) refl (length_insert x ys)
    where
      by_test : (b : Bool) → lt y x ≡ b → length (insert_by lt x ys) ≡ length ys + 1 → length (insert_by lt x (y ∷ ys)) ≡ length (y ∷ ys) + 1
      by_test true e ih = rw e (omega (arith, ih))
      by_test false e ih = rw e (omega arith)

  pub length_sorted : (xs : List A) → length (sorted_by lt xs) ≡ length xs
  length_sorted [] = refl
  length_sorted (x ∷ xs) = let a = length_insert x (sorted_by lt xs) in let b = length_sorted xs in omega (arith, a, b)

-- an order in which two items tie only where they stand alike to all others

module _ {A : Type 0} (lt : A → A → Bool) (down : (x y c : A) → lt y x ≡ false → lt y c ≡ true → lt x c ≡ true) (asym : (x y : A) → lt x y ≡ true → lt y x ≡ false) where
  abbrev pub stands : List A → Bool
  stands xs = ascends (λ c d. not (lt d c)) xs

  not_self : (x : A) → lt x x ≡ false
  not_self x = by_test (lt x x) refl
    where
      by_test : (b : Bool) → lt x x ≡ b → lt x x ≡ false
      by_test true e = asym x x e
      by_test false e = e

  far : (x y : A) (zs : List A) → lt y x ≡ false → list_all (λ d. not (lt d y)) zs ≡ true → list_all (λ d. not (lt d x)) zs ≡ true
  far x y [] p all = refl
  far x y (z ∷ zs) p all =
      let q = both_of (not (lt z y)) (list_all (λ d. not (lt d y)) zs) all in
      rw (none (lt z x) refl (not_true (lt z y) q.0), far x y zs p q.1) refl
    where
      none : (b : Bool) → lt z x ≡ b → lt z y ≡ false → lt z x ≡ false
      none false e f = e
      none true e f = let over = down y z x f e in absurd (cc)

  stands_insert : (x : A) (ys : List A) → stands ys ≡ true → stands (insert_by lt x ys) ≡ true
  stands_insert x [] up = refl
  stands_insert x (y ∷ ys) up =
      let q = both_of (list_all (λ d. not (lt d y)) ys) (stands ys) up in
      by_test (lt y x) refl q.0 q.1 (stands_insert x ys q.1)
    where
      by_test : (b : Bool) → lt y x ≡ b → list_all (λ d. not (lt d y)) ys ≡ true → stands ys ≡ true → stands (insert_by lt x ys) ≡ true → stands (insert_by lt x (y ∷ ys)) ≡ true
      by_test true e all old rest =
          let here : not (lt x y) ≡ true = rw (asym y x e) refl in
          rw (e, all-insert_by lt (λ d. not (lt d y)) x ys here all, rest) refl
      by_test false e all old rest =
          let here : not (lt y x) ≡ true = rw e refl in
          let behind = far x y ys e all in
          rw e (rw (here, behind, all, old) refl)

  pub stands_sorted : (xs : List A) → stands (sorted_by lt xs) ≡ true
  stands_sorted [] = refl
  stands_sorted (x ∷ xs) = stands_insert x (sorted_by lt xs) (stands_sorted xs)

  -- those that pass a test, sorted

  insert_kept : (p : A → Bool) (x : A) (ys : List A) → p x ≡ true → stands ys ≡ true → filter p (insert_by lt x ys) ≡ insert_by lt x (filter p ys)
  insert_kept p x [] here up = passes p x [] here
  insert_kept p x (y ∷ ys) here up =
      let q = both_of (list_all (λ d. not (lt d y)) ys) (stands ys) up in
      by_tests (lt y x) refl (p y) refl q.0 (insert_kept p x ys here q.1)
    where
      by_tests : (a : Bool) → lt y x ≡ a → (b : Bool) → p y ≡ b → list_all (λ d. not (lt d y)) ys ≡ true → filter p (insert_by lt x ys) ≡ insert_by lt x (filter p ys)
          → filter p (insert_by lt x (y ∷ ys)) ≡ insert_by lt x (filter p (y ∷ ys))
      by_tests true e true f all ih =
          ap (filter p) (goes_on lt x y ys e) ∙ passes p y (insert_by lt x ys) f ∙ ap (λ (l : List A). y ∷ l) ih
          ∙ sym (ap (insert_by lt x) (passes p y ys f) ∙ goes_on lt x y (filter p ys) e)
      by_tests true e false f all ih =
          ap (filter p) (goes_on lt x y ys e) ∙ fails p y (insert_by lt x ys) f ∙ ih ∙ sym (ap (insert_by lt x) (fails p y ys f))
      by_tests false e b f all ih =
          let behind : list_all (λ d. not (lt d x)) (y ∷ ys) ≡ true = rw (e, far x y ys e all) refl in
          ap (filter p) (goes_here lt x y ys e) ∙ passes p x (y ∷ ys) here ∙ sym (insert_by-first lt x (filter p (y ∷ ys)) (all-filter (λ d. not (lt d x)) p (y ∷ ys) behind))

  insert_left_out : (p : A → Bool) (x : A) (ys : List A) → p x ≡ false → filter p (insert_by lt x ys) ≡ filter p ys
  insert_left_out p x [] here = fails p x [] here
  insert_left_out p x (y ∷ ys) here = by_tests (lt y x) refl (p y) refl (insert_left_out p x ys here)
    where
      by_tests : (a : Bool) → lt y x ≡ a → (b : Bool) → p y ≡ b → filter p (insert_by lt x ys) ≡ filter p ys → filter p (insert_by lt x (y ∷ ys)) ≡ filter p (y ∷ ys)
      by_tests true e true f ih =
          ap (filter p) (goes_on lt x y ys e) ∙ passes p y (insert_by lt x ys) f ∙ ap (λ (l : List A). y ∷ l) ih ∙ sym (passes p y ys f)
      by_tests true e false f ih = ap (filter p) (goes_on lt x y ys e) ∙ fails p y (insert_by lt x ys) f ∙ ih ∙ sym (fails p y ys f)
      by_tests false e b f ih = ap (filter p) (goes_here lt x y ys e) ∙ fails p x (y ∷ ys) here

  pub filter_sorted : (p : A → Bool) (xs : List A) → filter p (sorted_by lt xs) ≡ sorted_by lt (filter p xs)
  filter_sorted p [] = refl
  filter_sorted p (x ∷ xs) = by_test (p x) refl (filter_sorted p xs)
    where
      by_test : (b : Bool) → p x ≡ b → filter p (sorted_by lt xs) ≡ sorted_by lt (filter p xs) → filter p (sorted_by lt (x ∷ xs)) ≡ sorted_by lt (filter p (x ∷ xs))
      by_test true e ih = insert_kept p x (sorted_by lt xs) e (stands_sorted xs) ∙ ap (insert_by lt x) ih ∙ sym (ap (sorted_by lt) (passes p x xs e))
      by_test false e ih = insert_left_out p x (sorted_by lt xs) e ∙ ih ∙ sym (ap (sorted_by lt) (fails p x xs e))

  -- two that don't tie may be put in one before the other or after it
  pub insert_two : (x y : A) (zs : List A) → (lt x y || lt y x) ≡ true → insert_by lt x (insert_by lt y zs) ≡ insert_by lt y (insert_by lt x zs)
  insert_two x y [] either = by_order (lt x y) refl (lt y x) refl
    where
      by_order : (a : Bool) → lt x y ≡ a → (b : Bool) → lt y x ≡ b → insert_by lt x (y ∷ []) ≡ insert_by lt y (x ∷ [])
      by_order true e b f = goes_here lt x y [] (asym x y e) ∙ sym (goes_on lt y x [] e)
      by_order false e true f = goes_on lt x y [] f ∙ sym (goes_here lt y x [] e)
      by_order false e false f = absurd (grind arith)
  insert_two x y (z ∷ zs) either = by_tests (lt z x) refl (lt z y) refl (insert_two x y zs either)
    where
      both_here : (a : Bool) → lt x y ≡ a → (b : Bool) → lt y x ≡ b → lt z x ≡ false → lt z y ≡ false → insert_by lt x (y ∷ z ∷ zs) ≡ insert_by lt y (x ∷ z ∷ zs)
      both_here true e b f p q = goes_here lt x y (z ∷ zs) (asym x y e) ∙ sym (goes_on lt y x (z ∷ zs) e ∙ ap (λ (l : List A). x ∷ l) (goes_here lt y z zs q))
      both_here false e true f p q = goes_on lt x y (z ∷ zs) f ∙ ap (λ (l : List A). y ∷ l) (goes_here lt x z zs p) ∙ sym (goes_here lt y x (z ∷ zs) e)
      both_here false e false f p q = absurd (grind arith)

      by_tests : (a : Bool) → lt z x ≡ a → (b : Bool) → lt z y ≡ b → insert_by lt x (insert_by lt y zs) ≡ insert_by lt y (insert_by lt x zs)
          → insert_by lt x (insert_by lt y (z ∷ zs)) ≡ insert_by lt y (insert_by lt x (z ∷ zs))
      by_tests true e true f ih =
          ap (insert_by lt x) (goes_on lt y z zs f) ∙ goes_on lt x z (insert_by lt y zs) e ∙ ap (λ (l : List A). z ∷ l) ih
          ∙ sym (ap (insert_by lt y) (goes_on lt x z zs e) ∙ goes_on lt y z (insert_by lt x zs) f)
      by_tests true e false f ih =
          ap (insert_by lt x) (goes_here lt y z zs f) ∙ goes_on lt x y (z ∷ zs) (down y z x f e) ∙ ap (λ (l : List A). y ∷ l) (goes_on lt x z zs e)
          ∙ sym (ap (insert_by lt y) (goes_on lt x z zs e) ∙ goes_here lt y z (insert_by lt x zs) f)
      by_tests false e true f ih =
          ap (insert_by lt x) (goes_on lt y z zs f) ∙ goes_here lt x z (insert_by lt y zs) e
          ∙ sym (ap (insert_by lt y) (goes_here lt x z zs e) ∙ goes_on lt y x (z ∷ zs) (down x z y e f) ∙ ap (λ (l : List A). x ∷ l) (goes_on lt y z zs f))
      by_tests false e false f ih =
          ap (insert_by lt x) (goes_here lt y z zs f) ∙ both_here (lt x y) refl (lt y x) refl e f ∙ sym (ap (insert_by lt y) (goes_here lt x z zs e))

  swapped : (a b : Bool) → (a || b) ≡ true → (b || a) ≡ true
  swapped a b e = grind arith

  -- so it does not matter where in the list one stood that ties with none of the others
  pub sorted_with : (p : A → Bool) (x : A) (xs : List A) (at : ℕ) → list_all (λ y. lt x y || lt y x) xs ≡ true
      → sorted_by lt (filter p (insert xs at x)) ≡ (if p x then insert_by lt x (sorted_by lt (filter p xs)) else sorted_by lt (filter p xs))
  sorted_with p x [] at all = alone (p x) refl at
    where
      one : (n : ℕ) → insert [] n x ≡ x ∷ []
      one zero = refl
      one (suc n) = refl

      alone : (b : Bool) → p x ≡ b → (n : ℕ) → sorted_by lt (filter p (insert [] n x)) ≡ (if p x then insert_by lt x (sorted_by lt (filter p [])) else sorted_by lt (filter p []))
      alone true e n = ap (λ (l : List A). sorted_by lt (filter p l)) (one n) ∙ rw e refl
      alone false e n = ap (λ (l : List A). sorted_by lt (filter p l)) (one n) ∙ rw e refl
  sorted_with p x (y ∷ ys) zero all = first (p x) refl
    where
      first : (b : Bool) → p x ≡ b → sorted_by lt (filter p (x ∷ y ∷ ys)) ≡ (if p x then insert_by lt x (sorted_by lt (filter p (y ∷ ys))) else sorted_by lt (filter p (y ∷ ys)))
      first true e = ap (sorted_by lt) (passes p x (y ∷ ys) e) ∙ rw e refl
      first false e = ap (sorted_by lt) (fails p x (y ∷ ys) e) ∙ rw e refl
  sorted_with p x (y ∷ ys) (suc at) all =
      let q = both_of (lt x y || lt y x) (list_all (λ y. lt x y || lt y x) ys) all in
      by_tests (p y) refl (p x) refl q.0 (sorted_with p x ys at q.1)
    where
      by_tests : (a : Bool) → p y ≡ a → (b : Bool) → p x ≡ b → (lt x y || lt y x) ≡ true
          → sorted_by lt (filter p (insert ys at x)) ≡ (if p x then insert_by lt x (sorted_by lt (filter p ys)) else sorted_by lt (filter p ys))
          → sorted_by lt (filter p (y ∷ insert ys at x)) ≡ (if p x then insert_by lt x (sorted_by lt (filter p (y ∷ ys))) else sorted_by lt (filter p (y ∷ ys)))
      by_tests true e true f either ih =
          let more : sorted_by lt (filter p (insert ys at x)) ≡ insert_by lt x (sorted_by lt (filter p ys)) = rw f at ih in
          ap (sorted_by lt) (passes p y (insert ys at x) e) ∙ ap (insert_by lt y) more ∙ insert_two y x (sorted_by lt (filter p ys)) (swapped (lt x y) (lt y x) either)
          ∙ ap (λ (l : List A). insert_by lt x (sorted_by lt l)) (sym (passes p y ys e)) ∙ rw f refl
      by_tests true e false f either ih =
          let more : sorted_by lt (filter p (insert ys at x)) ≡ sorted_by lt (filter p ys) = rw f at ih in
          ap (sorted_by lt) (passes p y (insert ys at x) e) ∙ ap (insert_by lt y) more
          ∙ ap (sorted_by lt) (sym (passes p y ys e)) ∙ rw f refl
      by_tests false e true f either ih =
          let more : sorted_by lt (filter p (insert ys at x)) ≡ insert_by lt x (sorted_by lt (filter p ys)) = rw f at ih in
          ap (sorted_by lt) (fails p y (insert ys at x) e) ∙ more
          ∙ ap (λ (l : List A). insert_by lt x (sorted_by lt l)) (sym (fails p y ys e)) ∙ rw f refl
      by_tests false e false f either ih =
          let more : sorted_by lt (filter p (insert ys at x)) ≡ sorted_by lt (filter p ys) = rw f at ih in
          ap (sorted_by lt) (fails p y (insert ys at x) e) ∙ more
          ∙ ap (sorted_by lt) (sym (fails p y ys e)) ∙ rw f refl

  -- one that was put in stands behind those that stand before it
  pub placed : (x : A) (ys : List A) (at : ℕ) → list_all (λ y. lt y x) (take at (insert_by lt x ys)) ≡ true → list_all (λ y. not (lt y x)) (drop at (insert_by lt x ys)) ≡ true
      → (slice_get (insert_by lt x ys) at ≡ Some x) × (remove (insert_by lt x ys) at ≡ ys)
  placed x [] zero front back = (refl, refl)
  placed x [] (suc at) front back =
      let q = both_of (lt x x) (list_all (λ y. lt y x) (take at [])) front in
      let none = not_self x in
      absurd (cc)
  placed x (y ∷ ys) at front back = by_test (lt y x) refl (placed x ys) at front back
    where
      by_test : (b : Bool) → lt y x ≡ b
          → ((n : ℕ) → list_all (λ z. lt z x) (take n (insert_by lt x ys)) ≡ true → list_all (λ z. not (lt z x)) (drop n (insert_by lt x ys)) ≡ true
          → (slice_get (insert_by lt x ys) n ≡ Some x) × (remove (insert_by lt x ys) n ≡ ys))
          → (n : ℕ) → list_all (λ z. lt z x) (take n (insert_by lt x (y ∷ ys))) ≡ true
          → list_all (λ z. not (lt z x)) (drop n (insert_by lt x (y ∷ ys))) ≡ true
          → (slice_get (insert_by lt x (y ∷ ys)) n ≡ Some x) × (remove (insert_by lt x (y ∷ ys)) n ≡ y ∷ ys)
      by_test true e ih zero f b =
          let back : list_all (λ z. not (lt z x)) (y ∷ insert_by lt x ys) ≡ true = rw e at b in
          let q = both_of (not (lt y x)) (list_all (λ z. not (lt z x)) (insert_by lt x ys)) back in
          let none = not_true (lt y x) q.0 in
          absurd (cc)
      by_test true e ih (suc n) f b =
          let front : list_all (λ z. lt z x) (y ∷ take n (insert_by lt x ys)) ≡ true = rw e at f in
          let back : list_all (λ z. not (lt z x)) (drop n (insert_by lt x ys)) ≡ true = rw e at b in
          let q = both_of (lt y x) (list_all (λ z. lt z x) (take n (insert_by lt x ys))) front in
          let it = ih n q.1 back in
          rw e (it.0, ap (λ (l : List A). y ∷ l) it.1)
      by_test false e ih zero f b = rw e (refl, refl)
      by_test false e ih (suc n) f b =
          let front : list_all (λ z. lt z x) (x ∷ take n (y ∷ ys)) ≡ true = rw e at f in
          let q = both_of (lt x x) (list_all (λ z. lt z x) (take n (y ∷ ys))) front in
          let none = not_self x in
          absurd (cc)

-- a test that what stands before passes too is passed in front
pub cut_by : (lt : ℕ → ℕ → Bool) (r p : ℕ → Bool) → ((x y : ℕ) → r x ≡ true → lt y x ≡ false → p y ≡ true → p x ≡ true) → (xs : List ℕ) → list_all r xs ≡ true
    → ascends (λ c d. not (lt d c)) xs ≡ true → is_cut p xs ≡ true
cut_by lt r p down [] all up = refl
cut_by lt r p down (x ∷ xs) all up =
    let q = both_of (list_all (λ d. not (lt d x)) xs) (ascends (λ c d. not (lt d c)) xs) up in
    let s = both_of (r x) (list_all r xs) all in
    by_test (p x) refl (cut_by lt r p down xs s.1 q.1) (λ e. none_of e xs q.0)
  where
    fails_too : (y : ℕ) (b : Bool) → p y ≡ b → p x ≡ false → r x ≡ true → lt y x ≡ false → p y ≡ false
    fails_too y true e f h l = let over = down x y h l e in absurd (cc)
    fails_too y false e f h l = e

    none_of : p x ≡ false → (ys : List ℕ) → list_all (λ d. not (lt d x)) ys ≡ true → list_all (λ y. not (p y)) ys ≡ true
    none_of e [] all' = refl
    none_of e (y ∷ ys) all' =
        let q = both_of (not (lt y x)) (list_all (λ d. not (lt d x)) ys) all' in
        let here = fails_too y (p y) refl e (both_of (r x) (list_all r xs) all).0 (not_true (lt y x) q.0) in
        rw (here, none_of e ys q.1) refl

    by_test : (b : Bool) → p x ≡ b → is_cut p xs ≡ true → (p x ≡ false → list_all (λ y. not (p y)) xs ≡ true) → is_cut p (x ∷ xs) ≡ true
    by_test true e more none = rw e more
    by_test false e more none = rw e (none e)
