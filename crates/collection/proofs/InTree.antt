-- The boxes of objects in a tree, as an object comes or goes.
use Rattle.std.proofs.Common.{◌≡◌, ◌≢◌, ◌<◌, ◌≤◌, ◌+◌, ℕ, zero, suc, Bool, true, false, refl, sym, ap, ◌∙◌, subst, List, [], ◌∷◌, length, get_or, All, arith}
use Rattle.std.specs.Prelude.{Option, nat_eq, not, ◌&&◌, ◌||◌}
use Rattle.std.specs.List.{sum_by, Contains, insert, remove}
use Rattle.std.proofs.lemmas.Bool.Decides.{nat_tests}
use Rattle.std.proofs.lemmas.List.Elements.{All-nil, All-cons, All-head, All-tail}
use Rattle.std.proofs.lemmas.List.Sums.{sum_by-cons, sum_by-insert, sum_by-remove}
use Rattle.rtree.specs.Pairs.{Pair, pair}
use Rattle.rtree.specs.OnePair.{stands}
use Rattle.world_data.specs.declared.objects.Object.{Object}
use Rattle.collection.specs.Deadlines.{is_among}
use Rattle.collection.specs.Boxed.{box_in, pair_at, AreBoxed, IsMore, IsMoved, IsWholeIn, AreInTree}
use Rattle.collection.specs.Slotted.{are_apart}
use Rattle.collection.proofs.Numbers.{itself, among_remove}

-- ---- sums over lists

-- a sum has each of its weights
among_sum : (h : ℕ → ℕ) (ks : List ℕ) (key : ℕ) → is_among key ks ≡ true → h key ≤ sum_by h ks
among_sum h [] key any = absurd (cc)
among_sum h (k ∷ ks) key any =
    let s = sum_by-cons h k ks in
    this_one (nat_eq key k) refl s (among_sum h ks key)
  where
    this_one : (b : Bool) → nat_eq key k ≡ b → sum_by h (k ∷ ks) ≡ h k + sum_by h ks → (is_among key ks ≡ true → h key ≤ sum_by h ks) → h key ≤ sum_by h (k ∷ ks)
    this_one true e s ih = let same : h key ≡ h k = ap h (grind (arith, nat_tests)) in omega (arith, s, same)
    this_one false e s ih = let le = ih (rw e at any) in omega (arith, s, le)

-- a key's pair is in the tree
pub pair_there : (f : ℕ → Option Object) (keys : List ℕ) (pairs : List Pair) (key : ℕ) → AreBoxed f keys pairs → is_among key keys ≡ true → Contains pairs (pair_at f key)
pair_there f keys pairs key boxed there =
    let weighs : (w : Pair → ℕ) → w (pair_at f key) ≤ sum_by w pairs = λ w. omega (arith, boxed w, among_sum (λ k. w (pair_at f k)) keys key there) in
    stands (pair_at f key) pairs weighs

-- ---- a key whose slot changes

same_key : (k key : ℕ) → nat_eq key k ≡ true → key ≡ k
same_key k key e = grind (arith, nat_tests)

other_key : (k key : ℕ) → nat_eq key k ≡ false → k ≢ key
other_key k key e = λ s. absurd (grind (arith, nat_tests))

neither : (a b : Bool) → (a || b) ≡ false → (a ≡ false) × (b ≡ false)
neither a b e = (grind arith, grind arith)

gone : (key : ℕ) (keys : List ℕ) (i d : ℕ) → are_apart keys ≡ true → i < length keys → key ≡ get_or keys i d → is_among key (remove keys i) ≡ false
gone key keys i d apart lt is = among_remove key key keys i d apart lt is ∙ ap (λ (b : Bool). is_among key keys && not b) (itself key) ∙ nor (is_among key keys)
  where
    nor : (b : Bool) → (b && false) ≡ false
    nor true = refl
    nor false = refl

module _ (f g : ℕ → Option Object) (key : ℕ) (others : (other : ℕ) → other ≢ key → g other ≡ f other) where
  sum_same : (w : Pair → ℕ) (ks : List ℕ) → is_among key ks ≡ false → sum_by (λ k. w (pair_at g k)) ks ≡ sum_by (λ k. w (pair_at f k)) ks
  sum_same w [] none = refl
  sum_same w (k ∷ ks) none =
      let n = neither (nat_eq key k) (is_among key ks) none in
      let here : w (pair_at g k) ≡ w (pair_at f k) = ap (λ (o : Option Object). w (pair (box_in o) k)) (others k (other_key k key n.0)) in
      let a = sum_by-cons (λ k. w (pair_at g k)) k ks in
      let b = sum_by-cons (λ k. w (pair_at f k)) k ks in
      omega (arith, here, a, b, sum_same w ks n.1)

  whole_same : (ks : List ℕ) → is_among key ks ≡ false → All (λ k. IsWholeIn (f k)) ks → All (λ k. IsWholeIn (g k)) ks
  whole_same [] none all = All-nil (λ k. IsWholeIn (g k))
  whole_same (k ∷ ks) none all =
      let n = neither (nat_eq key k) (is_among key ks) none in
      let here : IsWholeIn (g k) = subst IsWholeIn (sym (others k (other_key k key n.0))) (All-head (λ k. IsWholeIn (f k)) k ks all) in
      All-cons (λ k. IsWholeIn (g k)) k ks here (whole_same ks n.1 (All-tail (λ k. IsWholeIn (f k)) k ks all))

  whole_insert : (ks : List ℕ) (i : ℕ) → All (λ k. IsWholeIn (g k)) ks → IsWholeIn (g key) → All (λ k. IsWholeIn (g k)) (insert ks i key)
  whole_insert [] zero all new = All-cons (λ k. IsWholeIn (g k)) key [] new all
  whole_insert [] (suc i) all new = All-cons (λ k. IsWholeIn (g k)) key [] new all
  whole_insert (k ∷ ks) zero all new = All-cons (λ k. IsWholeIn (g k)) key (k ∷ ks) new all
  whole_insert (k ∷ ks) (suc i) all new = All-cons (λ k. IsWholeIn (g k)) k (insert ks i key) (All-head (λ k. IsWholeIn (g k)) k ks all) (whole_insert ks i (All-tail (λ k. IsWholeIn (g k)) k ks all) new)

  -- those whose slot stays, and the key, wherever it stands
  whole_set : (ks : List ℕ) → All (λ k. IsWholeIn (f k)) ks → IsWholeIn (g key) → All (λ k. IsWholeIn (g k)) ks
  whole_set [] all new = All-nil (λ k. IsWholeIn (g k))
  whole_set (k ∷ ks) all new = All-cons (λ k. IsWholeIn (g k)) k ks (here (nat_eq key k) refl) (whole_set ks (All-tail (λ k. IsWholeIn (f k)) k ks all) new)
    where
      here : (b : Bool) → nat_eq key k ≡ b → IsWholeIn (g k)
      here true e = subst (λ (n : ℕ). IsWholeIn (g n)) (same_key k key e) new
      here false e = subst IsWholeIn (sym (others k (other_key k key e))) (All-head (λ k. IsWholeIn (f k)) k ks all)

  -- a new key
  pub tree_insert : (keys : List ℕ) (i : ℕ) (old new : List Pair) → is_among key keys ≡ false → AreInTree f keys old → IsMore (pair_at g key) old new → IsWholeIn (g key) → AreInTree g (insert keys i key) new
  tree_insert keys i old new none t more whole = record {
    boxed = λ w. let a = t.boxed w in let b = more w in let c = sum_by-insert (λ k. w (pair_at g k)) keys i key in let d = sum_same w keys none in omega (arith, a, b, c, d);
    whole = whole_insert keys i (whole_same keys none t.whole) whole;
  }

  whole_remove : (ks : List ℕ) (i : ℕ) → All (λ k. IsWholeIn (f k)) ks → All (λ k. IsWholeIn (f k)) (remove ks i)
  whole_remove [] zero all = all
  whole_remove [] (suc i) all = all
  whole_remove (k ∷ ks) zero all = All-tail (λ k. IsWholeIn (f k)) k ks all
  whole_remove (k ∷ ks) (suc i) all = All-cons (λ k. IsWholeIn (f k)) k (remove ks i) (All-head (λ k. IsWholeIn (f k)) k ks all) (whole_remove ks i (All-tail (λ k. IsWholeIn (f k)) k ks all))

  -- a key that is taken out
  pub tree_remove : (keys : List ℕ) (i d : ℕ) (old new : List Pair) → are_apart keys ≡ true → i < length keys → key ≡ get_or keys i d → AreInTree f keys old → IsMore (pair_at f key) new old → AreInTree g (remove keys i) new
  tree_remove keys i d old new apart lt is t more =
      let none = gone key keys i d apart lt is in
      record {
        boxed = λ w.
            let a = t.boxed w in
            let b = more w in
            let c = sum_by-remove (λ k. w (pair_at f k)) keys i d lt in
            let e = sum_same w (remove keys i) none in
            let here : w (pair_at f key) ≡ w (pair_at f (get_or keys i d)) = ap (λ (k : ℕ). w (pair_at f k)) is in
            omega (arith, a, b, c, e, here);
        whole = whole_same (remove keys i) none (whole_remove keys i t.whole);
      }

  -- a key that has another object
  pub tree_set : (keys : List ℕ) (i d : ℕ) (old new : List Pair) → are_apart keys ≡ true → i < length keys → key ≡ get_or keys i d → AreInTree f keys old → IsMoved (pair_at f key) (pair_at g key) old new → IsWholeIn (g key) → AreInTree g keys new
  tree_set keys i d old new apart lt is t moved whole =
      let none = gone key keys i d apart lt is in
      record {
        boxed = λ w.
            let a = t.boxed w in
            let b = moved w in
            let c = sum_by-remove (λ k. w (pair_at f k)) keys i d lt in
            let c' = sum_by-remove (λ k. w (pair_at g k)) keys i d lt in
            let e = sum_same w (remove keys i) none in
            let here : w (pair_at f key) ≡ w (pair_at f (get_or keys i d)) = ap (λ (k : ℕ). w (pair_at f k)) is in
            let here' : w (pair_at g key) ≡ w (pair_at g (get_or keys i d)) = ap (λ (k : ℕ). w (pair_at g k)) is in
            omega (arith, a, b, c, c', e, here, here');
        whole = whole_set keys t.whole whole;
      }
