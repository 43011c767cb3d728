-- The objects whose boxes pass a test, in byte order of their ids, told from the keys that pass.
use Rattle.std.proofs.Common.{◌≡◌, ◌<◌, ◌≤◌, ◌+◌, ℕ, suc, Bool, true, false, cond, refl, sym, ap, ◌∙◌, subst, List, [], ◌∷◌, length, get_or, All, IsPermutation, arith}
use Rattle.std.specs.Prelude.{Option, Some, None, filter, find, is_some, nat_eq, not, ◌||◌}
use Rattle.std.specs.List.{cons_option, list_all, sum_by}
use Rattle.std.specs.List.Sorted.{IsSortedByKey}
use Rattle.std.specs.Ordering.{nat_cmp}
use Rattle.std.specs.Cmp.Lexicographic.{slice_cmp}
use Rattle.std.proofs.lemmas.Bool.Decides.{nat_tests}
use Rattle.std.proofs.lemmas.List.Elements.{All-nil, All-cons, All-head, All-tail, All-filter}
use Rattle.std.proofs.lemmas.List.Sorted.{All-permutation, length_permutation, sum_by-IsPermutation}
use Rattle.std.proofs.lemmas.List.Sums.{sum_by-cons}
use Rattle.byte_text.specs.Names.{Bytes, before, same}
use Rattle.byte_text.specs.ByteOrder.{before_trans, before_tie, before_asym, same_refl, other_before, less_is_before}
use Rattle.collection.specs.Objects.{id_before, has_id, are_by_id}
use Rattle.ordered_lists.specs.Lists.{ascends}
use Rattle.ordered_lists.specs.Ascending.{ascends-filter}
use Rattle.ordered_lists.specs.Reading.{both_of}
use Rattle.planar_geom.specs.Points.{Bounds, boxes_meet}
use Rattle.planar_geom.specs.Nearness.{IsWholeShape}
use Rattle.rtree.specs.Pairs.{Pair, ids_meeting}
use Rattle.planar_geom.specs.Shapes.{box_of}
use Rattle.world_data.specs.declared.objects.Object.{Object}
use Rattle.collection.specs.Deadlines.{is_among}
use Rattle.collection.specs.Boxed.{box_in, AreBoxed, IsWholeIn}
use Rattle.collection.specs.Meeting.{ArePassing}
use Rattle.collection.specs.Slotted.{objects_at, are_stored, AreSlotted}
use Rattle.collection.proofs.Numbers.{all_among, among_all}
use Rattle.collection.proofs.Slots.{length_at, some_of}

-- ---- objects that rise by id

-- the second does not stand before the first
abbrev is_up : Object → Object → Bool
is_up x y = not (before y.id x.id)

-- no object stands before one in front of it
abbrev rises : List Object → Bool
rises xs = ascends is_up xs

not_true : (b : Bool) → not b ≡ true → b ≡ false
not_true b e = grind arith

-- a strict step and one that is not down make a strict one
on_up : (x y z : Bytes) → before x y ≡ true → before z y ≡ false → before x z ≡ true
on_up x y z p q = by_order (before y z) refl
  where
    by_order : (b : Bool) → before y z ≡ b → before x z ≡ true
    by_order true e = before_trans x y z p e
    by_order false e = subst (λ (n : Bytes). before x n ≡ true) (before_tie y z e q) p

up_up : (x y z : Bytes) → before y x ≡ false → before z y ≡ false → before z x ≡ false
up_up x y z p q = by_order (before z x) refl
  where
    by_order : (b : Bool) → before z x ≡ b → before z x ≡ false
    by_order false e = e
    by_order true e = let over = on_up z x y e p in absurd (cc)

-- what a sort gives rises
all_far : (x y : Object) (zs : List Object) → before y.id x.id ≡ false → list_all (is_up y) zs ≡ true → list_all (is_up x) zs ≡ true
all_far x y [] le all = refl
all_far x y (z ∷ zs) le all =
    let p = both_of (is_up y z) (list_all (is_up y) zs) all in
    rw (up_up x.id y.id z.id le (not_true (before z.id y.id) p.0), all_far x y zs le p.1) refl

steps_rise : (xs : List Object) → ((i j : ℕ) (d : Object) → j ≡ i + 1 → j < length xs → before (get_or xs j d).id (get_or xs i d).id ≡ false) → rises xs ≡ true
steps_rise [] h = refl
steps_rise (x ∷ []) h = refl
steps_rise (x ∷ y ∷ xs) h =
    let rest = steps_rise (y ∷ xs) (λ i j d e lt. h (suc i) (suc j) d (omega (arith, e)) (omega (arith, lt))) in
    let p = both_of (list_all (is_up y) xs) (rises xs) rest in
    let first : before y.id x.id ≡ false = h 0 1 x (omega arith) (omega arith) in
    let all = all_far x y xs first p.0 in
    rw (first, all, p.0, p.1) refl

sorted_rise : (xs : List Object) → IsSortedByKey (λ (o : Object). o.id) (slice_cmp nat_cmp) xs → rises xs ≡ true
sorted_rise xs s = steps_rise xs (λ i j d e lt. step i j d e lt)
  where
    step : (i j : ℕ) (d : Object) → j ≡ i + 1 → j < length xs → before (get_or xs j d).id (get_or xs i d).id ≡ false
    step i j d e lt =
        let next : before (get_or xs (i + 1) d).id (get_or xs i d).id ≡ false = sym (less_is_before (get_or xs (i + 1) d).id (get_or xs i d).id) ∙ s i d (omega arith) (omega (arith, e, lt)) in
        subst (λ (k : ℕ). before (get_or xs k d).id (get_or xs i d).id ≡ false) (sym e) next

all_up : (x : Object) (ys : List Object) → list_all (id_before x) ys ≡ true → list_all (is_up x) ys ≡ true
all_up x [] all = refl
all_up x (y ∷ ys) all =
    let p = both_of (id_before x y) (list_all (id_before x) ys) all in
    rw (before_asym x.id y.id p.0, all_up x ys p.1) refl

ascending_rise : (xs : List Object) → are_by_id xs ≡ true → rises xs ≡ true
ascending_rise [] asc = refl
ascending_rise (x ∷ xs) asc =
    let p = both_of (list_all (id_before x) xs) (are_by_id xs) asc in
    rw (all_up x xs p.0, ascending_rise xs p.1) refl

-- ---- each object is found by its own id

-- of these objects the one of this id is the object itself
abbrev IsOwn : List Object → Object → Type 0
IsOwn xs o = find (has_id o.id) xs ≡ Some o

found_passes : (q t : Object → Bool) (xs : List Object) (o : Object) → find t xs ≡ Some o → list_all q xs ≡ true → q o ≡ true
found_passes q t [] o is all = absurd (cc)
found_passes q t (x ∷ xs) o is all = by_test (t x) refl (both_of (q x) (list_all q xs) all) (found_passes q t xs o)
  where
    by_test : (b : Bool) → t x ≡ b → (q x ≡ true) × (list_all q xs ≡ true) → (find t xs ≡ Some o → list_all q xs ≡ true → q o ≡ true) → q o ≡ true
    by_test true e p ih = let it : x ≡ o = cc (rw e at is) in subst (λ (y : Object). q y ≡ true) it p.0
    by_test false e p ih = ih (rw e at is) p.1

second : (a b : Bool) → (a || b) ≡ true → a ≡ false → b ≡ true
second a b e f = grind arith

module _ (f : ℕ → Option Object) where
  found_own : (ks : List ℕ) → are_stored f ks ≡ true → are_by_id (objects_at f ks) ≡ true → (n : ℕ) (o : Object) → is_among n ks ≡ true → f n ≡ Some o → IsOwn (objects_at f ks) o
  found_own [] all asc n o among has = absurd (cc)
  found_own (k ∷ ks) all asc n o among has =
      let a = both_of (is_some (f k)) (are_stored f ks) all in
      let x = some_of (f k) a.0 in
      let p = both_of (list_all (id_before x.0) (objects_at f ks)) (are_by_id (objects_at f ks)) (rw x.1 at asc) in
      rw x.1 (by_test x.0 x.1 p.0 (found_own ks a.1 p.1 n o) (nat_eq n k) refl)
    where
      by_test : (x : Object) → f k ≡ Some x → list_all (id_before x) (objects_at f ks) ≡ true → (is_among n ks ≡ true → f n ≡ Some o → IsOwn (objects_at f ks) o)
          → (b : Bool) → nat_eq n k ≡ b → IsOwn (x ∷ objects_at f ks) o
      by_test x here all ih true t =
          let same : n ≡ k = grind (arith, nat_tests) in
          let both : Some x ≡ Some o = sym here ∙ ap f (sym same) ∙ has in
          let it : x ≡ o = cc in
          let own : has_id o.id x ≡ true = subst (λ (y : Object). has_id y.id x ≡ true) it (same_refl x.id) in
          rw own both
      by_test x here all ih false t =
          let there = ih (second (nat_eq n k) (is_among n ks) among t) has in
          let later : id_before x o ≡ true = found_passes (id_before x) (has_id o.id) (objects_at f ks) o there all in
          let other : has_id o.id x ≡ false = other_before x.id o.id later in
          rw other there

  all_own : (ks : List ℕ) → are_stored f ks ≡ true → are_by_id (objects_at f ks) ≡ true → (ns : List ℕ) → list_all (λ n. is_among n ks) ns ≡ true → All (IsOwn (objects_at f ks)) (objects_at f ns)
  all_own ks all asc [] among = All-nil (IsOwn (objects_at f ks))
  all_own ks all asc (n ∷ ns) among =
      let p = both_of (is_among n ks) (list_all (λ n. is_among n ks) ns) among in
      by_case (f n) (λ o has. found_own ks all asc n o p.0 has) (all_own ks all asc ns p.1)
    where
      by_case : (o : Option Object) → ((x : Object) → o ≡ Some x → IsOwn (objects_at f ks) x) → All (IsOwn (objects_at f ks)) (objects_at f ns) → All (IsOwn (objects_at f ks)) (cons_option o (objects_at f ns))
      by_case None own rest = rest
      by_case (Some x) own rest = All-cons (IsOwn (objects_at f ks)) x (objects_at f ns) (own x refl) rest

-- how often an id is there, of one object
abbrev of_id : Object → Object → ℕ
of_id x y = cond (same x.id y.id) 1 0

none_of_later : (x : Object) (ys : List Object) → list_all (id_before x) ys ≡ true → sum_by (of_id x) ys ≡ 0
none_of_later x [] all = refl
none_of_later x (y ∷ ys) all =
    let p = both_of (id_before x y) (list_all (id_before x) ys) all in
    let other = other_before x.id y.id p.0 in
    let here : of_id x y ≡ 0 = rw other refl in
    let s = sum_by-cons (of_id x) y ys in
    omega (arith, here, s, none_of_later x ys p.1)

above : (x y : Object) (ys : List Object) → id_before x y ≡ true → list_all (is_up y) ys ≡ true → list_all (id_before x) ys ≡ true
above x y [] p all = refl
above x y (z ∷ ys) p all =
    let h = both_of (is_up y z) (list_all (is_up y) ys) all in
    let here = on_up x.id y.id z.id p (not_true (before z.id y.id) h.0) in
    rw (here, above x y ys p h.1) refl

first_up : (x y : Object) (xs ys : List Object) → list_all (is_up y) ys ≡ true → sum_by (of_id x) (x ∷ xs) ≡ sum_by (of_id x) (y ∷ ys) → before x.id y.id ≡ false
first_up x y xs ys all is = no (before x.id y.id) refl
  where
    no : (b : Bool) → before x.id y.id ≡ b → b ≡ false
    no false e = refl
    no true e =
        let behind : list_all (id_before x) (y ∷ ys) ≡ true = rw (e, above x y ys e all) refl in
        let none = none_of_later x (y ∷ ys) behind in
        let one : of_id x x ≡ 1 = rw (same_refl x.id) refl in
        let s = sum_by-cons (of_id x) x xs in
        absurd (omega (arith, none, one, s, is))

-- objects of one list that rise by id are known by what is among them
same_objects : (os xs ys : List Object) → All (IsOwn os) xs → All (IsOwn os) ys → rises xs ≡ true → rises ys ≡ true → ((w : Object → ℕ) → sum_by w xs ≡ sum_by w ys) → xs ≡ ys
same_objects os [] [] own own' up up' is = refl
same_objects os [] (y ∷ ys) own own' up up' is = let s = is (λ o. 1) in let c = sum_by-cons (λ (o : Object). 1) y ys in absurd (omega (arith, s, c))
same_objects os (x ∷ xs) [] own own' up up' is = let s = is (λ o. 1) in let c = sum_by-cons (λ (o : Object). 1) x xs in absurd (omega (arith, s, c))
same_objects os (x ∷ xs) (y ∷ ys) own own' up up' is =
    let p = both_of (list_all (is_up x) xs) (rises xs) up in
    let q = both_of (list_all (is_up y) ys) (rises ys) up' in
    let low = first_up x y xs ys q.0 (is (of_id x)) in
    let high = first_up y x ys xs p.0 (sym (is (of_id y))) in
    let id : x.id ≡ y.id = before_tie x.id y.id low high in
    let both : Some x ≡ Some y = sym (All-head (IsOwn os) x xs own) ∙ ap (λ (n : Bytes). find (has_id n) os) id ∙ All-head (IsOwn os) y ys own' in
    let it : x ≡ y = cc in
    let rest = same_objects os xs ys (All-tail (IsOwn os) x xs own) (All-tail (IsOwn os) y ys own') p.1 q.1
    (λ w. let s = is w in let a = sum_by-cons w x xs in let b = sum_by-cons w y ys in let e : w x ≡ w y = ap w it in omega (arith, s, a, b, e)) in
    rw (it, rest) refl

-- ---- sums over what is in slots

abbrev weight_if : (Object → ℕ) → Option Object → ℕ
weight_if w None = 0
weight_if w (Some o) = w o

module _ (f : ℕ → Option Object) (w : Object → ℕ) where
  sum_there : (ns : List ℕ) → sum_by w (objects_at f ns) ≡ sum_by (λ n. weight_if w (f n)) ns
  sum_there [] = refl
  sum_there (n ∷ ns) = by_case (f n) refl (sum_by-cons (λ n. weight_if w (f n)) n ns) (sum_there ns)
    where
      by_case : (o : Option Object) → f n ≡ o → sum_by (λ n. weight_if w (f n)) (n ∷ ns) ≡ weight_if w (f n) + sum_by (λ n. weight_if w (f n)) ns → sum_by w (objects_at f ns) ≡ sum_by (λ n. weight_if w (f n)) ns
          → sum_by w (objects_at f (n ∷ ns)) ≡ sum_by (λ n. weight_if w (f n)) (n ∷ ns)
      by_case None e s ih =
          let none : weight_if w (f n) ≡ 0 = rw e refl in
          let shape : sum_by w (objects_at f (n ∷ ns)) ≡ sum_by w (objects_at f ns) = rw e refl in
          omega (arith, s, ih, none, shape)
      by_case (Some x) e s ih =
          let one : weight_if w (f n) ≡ w x = rw e refl in
          let shape : sum_by w (objects_at f (n ∷ ns)) ≡ sum_by w (x ∷ objects_at f ns) = rw e refl in
          let c = sum_by-cons w x (objects_at f ns) in
          omega (arith, s, ih, one, shape, c)

  abbrev passing : (Bounds → Bool) → List ℕ → List Object
  passing test ks = filter (λ o. test (box_of o.shape)) (objects_at f ks)

  abbrev weigh : (Bounds → Bool) → ℕ → ℕ
  weigh test k = cond (test (box_in (f k))) (weight_if w (f k)) 0

  sum_passing : (test : Bounds → Bool) (ks : List ℕ) → are_stored f ks ≡ true
      → sum_by (λ k. cond (test (box_in (f k))) (weight_if w (f k)) 0) ks ≡ sum_by w (filter (λ o. test (box_of o.shape)) (objects_at f ks))
  sum_passing test [] all = refl
  sum_passing test (k ∷ ks) all =
      let a = both_of (is_some (f k)) (are_stored f ks) all in
      let x = some_of (f k) a.0 in
      let s = sum_by-cons (λ k. cond (test (box_in (f k))) (weight_if w (f k)) 0) k ks in
      by_test x.0 x.1 s (sum_passing test ks a.1) (test (box_of x.0.shape)) refl
    where
      by_test : (x : Object) → f k ≡ Some x → sum_by (weigh test) (k ∷ ks) ≡ weigh test k + sum_by (weigh test) ks → sum_by (weigh test) ks ≡ sum_by w (passing test ks)
          → (b : Bool) → test (box_of x.shape) ≡ b → sum_by (weigh test) (k ∷ ks) ≡ sum_by w (filter (λ o. test (box_of o.shape)) (objects_at f (k ∷ ks)))
      by_test x is s ih true e =
          let shape : filter (λ o. test (box_of o.shape)) (objects_at f (k ∷ ks)) ≡ x ∷ passing test ks = rw (is, e) refl in
          let here : weigh test k ≡ w x = rw (is, e) refl in
          let c = sum_by-cons w x (passing test ks) in
          let sum : sum_by (weigh test) (k ∷ ks) ≡ sum_by w (x ∷ passing test ks) = omega (arith, s, ih, here, c) in
          sum ∙ ap (sum_by w) (sym shape)
      by_test x is s ih false e =
          let shape : filter (λ o. test (box_of o.shape)) (objects_at f (k ∷ ks)) ≡ passing test ks = rw (is, e) refl in
          let here : weigh test k ≡ 0 = rw (is, e) refl in
          let sum : sum_by (weigh test) (k ∷ ks) ≡ sum_by w (passing test ks) = omega (arith, s, ih, here) in
          sum ∙ ap (sum_by w) (sym shape)

-- ---- each of the keys that pass is a key

-- how often a number is there, of one number
abbrev once : ℕ → ℕ → ℕ
once x y = cond (nat_eq x y) 1 0

counted : (k : ℕ) (ns : List ℕ) → is_among k ns ≡ true → 1 ≤ sum_by (once k) ns
counted k [] m = absurd (cc)
counted k (n ∷ ns) m = by_test (nat_eq k n) refl (sum_by-cons (once k) n ns) (counted k ns)
  where
    by_test : (b : Bool) → nat_eq k n ≡ b → sum_by (once k) (n ∷ ns) ≡ once k n + sum_by (once k) ns → (is_among k ns ≡ true → 1 ≤ sum_by (once k) ns) → 1 ≤ sum_by (once k) (n ∷ ns)
    by_test true e s ih = let one : once k n ≡ 1 = rw e refl in omega (arith, s, one)
    by_test false e s ih = let more = ih (second (nat_eq k n) (is_among k ns) m e) in omega (arith, s, more)

none_there : (f : ℕ → Option Object) (test : Bounds → Bool) (x : ℕ) (ks : List ℕ) → is_among x ks ≡ false → sum_by (λ k. cond (test (box_in (f k))) (once x k) 0) ks ≡ 0
none_there f test x [] none = refl
none_there f test x (k ∷ ks) none =
    let n = neither (nat_eq x k) (is_among x ks) none in
    let s = sum_by-cons (λ k. cond (test (box_in (f k))) (once x k) 0) k ks in
    let here : cond (test (box_in (f k))) (once x k) 0 ≡ 0 = rw n.0 (no_weight (test (box_in (f k)))) in
    omega (arith, s, here, none_there f test x ks n.1)
  where
    neither : (a b : Bool) → (a || b) ≡ false → (a ≡ false) × (b ≡ false)
    neither a b e = (grind arith, grind arith)

    no_weight : (b : Bool) → cond {A = ℕ} b 0 0 ≡ 0
    no_weight true = refl
    no_weight false = refl

passing_among : (f : ℕ → Option Object) (test : Bounds → Bool) (keys numbers : List ℕ) → ArePassing f test keys numbers → list_all (λ n. is_among n keys) numbers ≡ true
passing_among f test keys numbers passing = among_all (λ n. is_among n keys) numbers (λ k m. yes k m (is_among k keys) refl)
  where
    yes : (k : ℕ) → is_among k numbers ≡ true → (b : Bool) → is_among k keys ≡ b → b ≡ true
    yes k m true e = refl
    yes k m false e =
        let none = none_there f test k keys e in
        let some = counted k numbers m in
        absurd (omega (arith, none, some, passing (once k)))

-- ---- the objects that pass, by id

module _ (f : ℕ → Option Object) (test : Bounds → Bool) (keys numbers : List ℕ) (s : AreSlotted f keys) (passing : ArePassing f test keys numbers) (found : List Object) (moved : IsPermutation (objects_at f numbers) found) where
  pub found_are : are_by_id (objects_at f keys) ≡ true → IsSortedByKey (λ (o : Object). o.id) (slice_cmp nat_cmp) found → found ≡ filter (λ o. test (box_of o.shape)) (objects_at f keys)
  found_are asc up =
      let all = objects_at f keys in
      let those = filter (λ o. test (box_of o.shape)) all in
      let own = All-permutation (IsOwn all) (objects_at f numbers) found moved (all_own f keys s.stored asc numbers (passing_among f test keys numbers passing)) in
      let each = all_own f keys s.stored asc keys (among_all (λ n. is_among n keys) keys (λ k m. m)) in
      let own' = All-filter (λ o. test (box_of o.shape)) (IsOwn all) all each in
      same_objects all found those own own' (sorted_rise found up) (ascending_rise those (ascends-filter id_before (λ o. test (box_of o.shape)) all asc)) (λ w.
      sum_by-IsPermutation w (objects_at f numbers) found moved ∙ sum_there f w numbers ∙ passing (λ k. weight_if w (f k)) ∙ sum_passing f w test keys s.stored)

  -- as many are found as keys pass
  pub found_many : length found ≡ length numbers
  found_many =
      let among = passing_among f test keys numbers passing in
      let stored = among_all (λ k. is_some (f k)) numbers (λ k m. all_among (λ k. is_some (f k)) keys k s.stored (all_among (λ n. is_among n keys) numbers k among m)) in
      length_permutation (objects_at f numbers) found moved ∙ length_at f numbers stored

-- ---- what a search in the tree gives

met_sum : (w : ℕ → ℕ) (b : Bounds) (ps : List Pair) → sum_by w (ids_meeting b ps) ≡ sum_by (λ p. cond (boxes_meet p.bounds b) (w p.id) 0) ps
met_sum w b [] = refl
met_sum w b (p ∷ ps) = chosen (boxes_meet p.bounds b) refl (sum_by-cons (λ p. cond (boxes_meet p.bounds b) (w p.id) 0) p ps) (met_sum w b ps)
  where
    chosen : (t : Bool) → boxes_meet p.bounds b ≡ t → sum_by (λ p. cond (boxes_meet p.bounds b) (w p.id) 0) (p ∷ ps) ≡ cond (boxes_meet p.bounds b) (w p.id) 0 + sum_by (λ p. cond (boxes_meet p.bounds b) (w p.id) 0) ps
        → sum_by w (ids_meeting b ps) ≡ sum_by (λ p. cond (boxes_meet p.bounds b) (w p.id) 0) ps → sum_by w (ids_meeting b (p ∷ ps)) ≡ sum_by (λ p. cond (boxes_meet p.bounds b) (w p.id) 0) (p ∷ ps)
    chosen true e s ih =
        let shape : ids_meeting b (p ∷ ps) ≡ p.id ∷ ids_meeting b ps = rw e refl in
        let weight : cond (boxes_meet p.bounds b) (w p.id) 0 ≡ w p.id = ap (λ (t : Bool). cond t (w p.id) 0) e in
        let c = sum_by-cons w p.id (ids_meeting b ps) in
        ap (sum_by w) shape ∙ omega (arith, s, ih, weight, c)
    chosen false e s ih =
        let shape : ids_meeting b (p ∷ ps) ≡ ids_meeting b ps = rw e refl in
        let weight : cond (boxes_meet p.bounds b) (w p.id) 0 ≡ 0 = ap (λ (t : Bool). cond t (w p.id) 0) e in
        ap (sum_by w) shape ∙ omega (arith, s, ih, weight)

pub meeting_passing : (f : ℕ → Option Object) (keys : List ℕ) (pairs : List Pair) (b : Bounds) (numbers : List ℕ) → AreBoxed f keys pairs → numbers ≡ ids_meeting b pairs → ArePassing f (λ c. boxes_meet c b) keys numbers
meeting_passing f keys pairs b numbers boxed is = λ w. ap (sum_by w) is ∙ met_sum w b pairs ∙ boxed (λ p. cond (boxes_meet p.bounds b) (w p.id) 0)

-- where the tree holds nothing there is no object
pub none_boxed : (f : ℕ → Option Object) (keys : List ℕ) (pairs : List Pair) → AreBoxed f keys pairs → pairs ≡ [] → objects_at f keys ≡ []
none_boxed f [] pairs boxed none = refl
none_boxed f (k ∷ ks) pairs boxed none =
    let a : sum_by (λ (p : Pair). 1) pairs ≡ sum_by (λ (k : ℕ). 1) (k ∷ ks) = boxed (λ p. 1) in
    let b : sum_by (λ (p : Pair). 1) pairs ≡ 0 = ap (sum_by (λ (p : Pair). 1)) none in
    let c = sum_by-cons (λ (k : ℕ). 1) k ks in
    absurd (omega (arith, a, b, c))

pub whole_objects : (f : ℕ → Option Object) (keys : List ℕ) → are_stored f keys ≡ true → All (λ k. IsWholeIn (f k)) keys → All (λ o. IsWholeShape o.shape) (objects_at f keys)
whole_objects f [] all each = All-nil (λ o. IsWholeShape o.shape)
whole_objects f (k ∷ ks) all each =
    let a = both_of (is_some (f k)) (are_stored f ks) all in
    let x = some_of (f k) a.0 in
    let here : IsWholeShape x.0.shape = subst IsWholeIn x.1 (All-head (λ k. IsWholeIn (f k)) k ks each) in
    rw x.1 (All-cons (λ o. IsWholeShape o.shape) x.0 (objects_at f ks) here (whole_objects f ks a.1 (All-tail (λ k. IsWholeIn (f k)) k ks each)))
