-- What is known of the least deadline, as entries change.
use Rattle.std.proofs.Common.{◌≡◌, ◌<◌, ◌≤◌, ◌+◌, ℕ, zero, suc, Bool, true, false, refl, sym, ap, subst, ◌∙◌, List, [], ◌∷◌, ◌++◌, Ok, Err, length, take, drop, get_or, arith}
use Rattle.std.specs.Prelude.{Option, Some, None, Result, OnOk, OnErr, filter, nat_lt, nat_le, slice_get, if◌then◌else◌}
use Rattle.std.specs.List.{list_all, remove, slice_set}
use Rattle.std.proofs.lemmas.Bool.Decides.{nat_tests}
use Rattle.std.proofs.lemmas.List.{take_more, length-take-le}
use Rattle.byte_text.specs.Names.{Bytes}
use Rattle.ordered_lists.specs.Lists.{put_in}
use Rattle.ordered_lists.specs.Ascending.{all_remove, all-put_in}
use Rattle.ordered_lists.specs.Reading.{both_of, all_at, all-filter, all-insert, stands_at}
use Rattle.world_data.specs.declared.objects.Object.{Object}
use Rattle.collection.specs.Objects.{id_before, least_due}
use Rattle.keyspace.specs.Entries.{Entry, objects_in}
use Rattle.keyspace.specs.KeyOrder.{IsAdded}
use Rattle.keyspace.specs.FirstDue.{IsKnown, IsSoonest, has_due, is_later, is_no_sooner, noted}
use Rattle.keyspace.proofs.Keys.{all_drop, split_at}
use Rattle.keyspace.proofs.Parts.{all_both}
use Rattle.keyspace.proofs.Dues.{Least, all_as, each_least, later, le_itself, least_all, no_sooner}

-- an entry that passes, once its objects change

module _ (test : Option ℕ → Bool) (least : Least test) (e f : Entry) where
  pub same_passes : f.objects ≡ e.objects → test (least_due e.objects) ≡ true → test (least_due f.objects) ≡ true
  same_passes is p = ap (λ (l : List Object). test (least_due l)) is ∙ p

  each_passes : test (least_due e.objects) ≡ true → list_all (λ o. test o.deadline) e.objects ≡ true
  each_passes p = sym (least_all test least e.objects) ∙ p

  passes_of : (objects : List Object) → f.objects ≡ objects → list_all (λ o. test o.deadline) objects ≡ true → test (least_due f.objects) ≡ true
  passes_of objects is all = ap (λ (l : List Object). test (least_due l)) is ∙ least_all test least objects ∙ all

  pub left_passes : (q : Object → Bool) → f.objects ≡ filter q e.objects → test (least_due e.objects) ≡ true → test (least_due f.objects) ≡ true
  left_passes q is p = passes_of (filter q e.objects) is (all-filter (λ o. test o.deadline) q e.objects (each_passes p))

  pub removed_passes : (at : ℕ) → f.objects ≡ remove e.objects at → test (least_due e.objects) ≡ true → test (least_due f.objects) ≡ true
  removed_passes at is p = passes_of (remove e.objects at) is (all_remove (λ o. test o.deadline) e.objects at (each_passes p))

  put_passes : (o : Object) → test o.deadline ≡ true → f.objects ≡ put_in id_before o e.objects → test (least_due e.objects) ≡ true → test (least_due f.objects) ≡ true
  put_passes o here is p = passes_of (put_in id_before o e.objects) is (all-put_in (λ o. test o.deadline) id_before o e.objects here (each_passes p))

-- one of a list in another's place

module _ {A : Type 0} (q : A → Bool) where
  set_front : (xs : List A) (n at : ℕ) (x y : A) → slice_get xs at ≡ Some x → (q x ≡ true → q y ≡ true) → list_all q (take n xs) ≡ true → list_all q (take n (slice_set xs at y)) ≡ true
  set_front [] n at x y is more all = absurd (cc)
  set_front (z ∷ zs) zero at x y is more all = refl
  set_front (z ∷ zs) (suc n) zero x y is more all =
      let p = both_of (q z) (list_all q (take n zs)) all in
      let it : z ≡ x = cc in
      let here : q y ≡ true = more (ap q (sym it) ∙ p.0) in
      rw (here, p.1) refl
  set_front (z ∷ zs) (suc n) (suc at) x y is more all =
      let p = both_of (q z) (list_all q (take n zs)) all in
      rw (p.0, set_front zs n at x y is more p.1) refl

  set_all : (xs : List A) (at : ℕ) (x y : A) → slice_get xs at ≡ Some x → (q x ≡ true → q y ≡ true) → list_all q xs ≡ true → list_all q (slice_set xs at y) ≡ true
  set_all [] at x y is more all = absurd (cc)
  set_all (z ∷ zs) zero x y is more all =
      let p = both_of (q z) (list_all q zs) all in
      let it : z ≡ x = cc in
      let here : q y ≡ true = more (ap q (sym it) ∙ p.0) in
      rw (here, p.1) refl
  set_all (z ∷ zs) (suc at) x y is more all =
      let p = both_of (q z) (list_all q zs) all in
      rw (p.0, set_all zs at x y is more p.1) refl

abbrev is_after : ℕ → Entry → Bool
is_after due e = is_later due (least_due e.objects)

abbrev is_from : ℕ → Entry → Bool
is_from due e = is_no_sooner due (least_due e.objects)

-- an entry in another's place, whose deadlines are no sooner
pub known_set : (xs : List Entry) (known : ℕ × ℕ) (at : ℕ) (e f : Entry) → slice_get xs at ≡ Some e → (is_later known.1 (least_due e.objects) ≡ true → is_later known.1 (least_due f.objects) ≡ true)
    → (is_no_sooner known.1 (least_due e.objects) ≡ true → is_no_sooner known.1 (least_due f.objects) ≡ true) → IsKnown xs known → IsKnown (slice_set xs at f) known
known_set xs known at e f is more more' k = record {
  front = set_front (is_after known.1) xs known.0 at e f is more k.front;
  all = set_all (is_from known.1) xs at e f is more' k.all;
}

pub known_same : (xs : List Entry) (known : ℕ × ℕ) (at : ℕ) (e f : Entry) → slice_get xs at ≡ Some e → f.objects ≡ e.objects → IsKnown xs known → IsKnown (slice_set xs at f) known
known_same xs known at e f is same k =
    known_set xs known at e f is (same_passes (is_later known.1) (later known.1) e f same) (same_passes (is_no_sooner known.1) (no_sooner known.1) e f same) k

pub known_left : (xs : List Entry) (known : ℕ × ℕ) (at : ℕ) (e f : Entry) (q : Object → Bool) → slice_get xs at ≡ Some e → f.objects ≡ filter q e.objects → IsKnown xs known → IsKnown (slice_set xs at f) known
known_left xs known at e f q is left k =
    known_set xs known at e f is (left_passes (is_later known.1) (later known.1) e f q left) (left_passes (is_no_sooner known.1) (no_sooner known.1) e f q left) k

pub known_removed : (xs : List Entry) (known : ℕ × ℕ) (at : ℕ) (e f : Entry) (i : ℕ) → slice_get xs at ≡ Some e → f.objects ≡ remove e.objects i → IsKnown xs known → IsKnown (slice_set xs at f) known
known_removed xs known at e f i is left k =
    known_set xs known at e f is (removed_passes (is_later known.1) (later known.1) e f i left) (removed_passes (is_no_sooner known.1) (no_sooner known.1) e f i left) k

-- an object is put

no_later : (a d : ℕ) (x : Option ℕ) → nat_lt a d ≡ false → is_no_sooner a x ≡ true → is_no_sooner d x ≡ true
no_later a d None low all = refl
no_later a d (Some t) low all = grind (arith, nat_tests)

less_most : (a b : ℕ) → nat_lt a b ≡ true → nat_le a b ≡ true
less_most a b h = grind (arith, nat_tests)

pub known_put : (xs : List Entry) (known : ℕ × ℕ) (at : ℕ) (e f : Entry) (o : Object) → slice_get xs at ≡ Some e → f.objects ≡ put_in id_before o e.objects → IsKnown xs known → IsKnown (slice_set xs at f) (noted known o.deadline)
known_put xs known at e f o is put k = by_due o.deadline refl
  where
    by_due : (d : Option ℕ) → o.deadline ≡ d → IsKnown (slice_set xs at f) (noted known d)
    by_due None h =
        known_set xs known at e f is (put_passes (is_later known.1) (later known.1) e f o (rw h refl) put) (put_passes (is_no_sooner known.1) (no_sooner known.1) e f o (rw h refl) put) k
    by_due (Some due) h = by_order (nat_lt known.1 due) refl
      where
        by_order : (b : Bool) → nat_lt known.1 due ≡ b → IsKnown (slice_set xs at f) (if b then known else (0, due))
        by_order true lt =
            known_set xs known at e f is (put_passes (is_later known.1) (later known.1) e f o (rw h lt) put) (put_passes (is_no_sooner known.1) (no_sooner known.1) e f o (rw h (less_most known.1 due lt)) put) k
        by_order false lt =
            let low = all_as (is_from known.1) (is_from due) (λ x p. no_later known.1 due (least_due x.objects) lt p) xs k.all in
            record {
              front = refl;
              all = set_all (is_from due) xs at e f is (put_passes (is_no_sooner due) (no_sooner due) e f o (rw h (le_itself due)) put) low;
            }

-- an entry comes or goes

pub known_without : (xs : List Entry) (known : ℕ × ℕ) (at : ℕ) → IsKnown xs known → IsKnown (remove xs at) (0, known.1)
known_without xs known at k = record { front = refl; all = all_remove (is_from known.1) xs at k.all }

pub known_added : {T E : Type 0} (key : Bytes) (xs ys : List Entry) (known : ℕ × ℕ) (at : ℕ) (r : Result T E) → OnOk r (IsAdded key xs at ys) → OnErr r (ys ≡ xs) → IsKnown xs known → IsKnown ys (0, known.1)
known_added key xs ys known at (Ok v) added same k =
    let one = added.one in
    let none : is_from known.1 one ≡ true = ap (λ (l : List Object). is_no_sooner known.1 (least_due l)) added.none in
    record { front = refl; all = subst (λ (l : List Entry). list_all (is_from known.1) l ≡ true) (sym added.made) (all-insert (is_from known.1) xs at one k.all none) }
known_added key xs ys known at (Err e) added same k =
    record { front = refl; all = subst (λ (l : List Entry). list_all (is_from known.1) l ≡ true) (sym same) k.all }

-- nothing expires
pub known_never : (xs : List Entry) (due : ℕ) → least_due (objects_in xs) ≡ None → IsKnown xs (0, due)
known_never xs due none =
    let all : list_all (λ o. is_no_sooner due o.deadline) (objects_in xs) ≡ true = sym (least_all (is_no_sooner due) (no_sooner due) (objects_in xs)) ∙ ap (is_no_sooner due) none in
    record { front = refl; all = each_least (is_no_sooner due) (no_sooner due) xs all }

-- the first with the least deadline is found

later_from : (due : ℕ) (d : Option ℕ) → is_later due d ≡ true → is_no_sooner due d ≡ true
later_from due None h = refl
later_from due (Some t) h = less_most due t h

take_front : (front back : List Entry) → take (length front) (front ++ back) ≡ front
take_front [] back = refl
take_front (x ∷ front) back = ap (λ (l : List Entry). x ∷ l) (take_front front back)

pub known_found : (xs : List Entry) (at due : ℕ) → IsSoonest xs at due → IsKnown xs (at, due)
known_found xs at due s =
    let front : take at xs ≡ s.front = ap (take at) s.whole ∙ ap (λ (n : ℕ). take n (s.front ++ s.here ∷ s.back)) (sym s.place) ∙ take_front s.front (s.here ∷ s.back) in
    let here : is_from due s.here ≡ true = ap (is_no_sooner due) s.due_here ∙ le_itself due in
    let behind : list_all (is_from due) (s.here ∷ s.back) ≡ true = rw (here, s.no_sooner) refl in
    record {
      front = ap (list_all (is_after due)) front ∙ s.later;
      all = ap (list_all (is_from due)) s.whole ∙ all_both (is_from due) s.front (s.here ∷ s.back) (all_as (is_after due) (is_from due) (λ e p. later_from due (least_due e.objects) p) s.front s.later) behind;
    }

-- the keys are looked at one after the other

not_then : (due : ℕ) (d : Option ℕ) → is_no_sooner due d ≡ true → has_due due d ≡ false → is_later due d ≡ true
not_then due None low other = refl
not_then due (Some t) low other = grind (arith, nat_tests)

due_then : (due : ℕ) (d : Option ℕ) → has_due due d ≡ true → d ≡ Some due
due_then due None it = absurd (cc)
due_then due (Some t) it = ap (λ (n : ℕ). Some n) (grind (arith, nat_tests))

module _ (xs : List Entry) (known : ℕ × ℕ) (k : IsKnown xs known) (at : ℕ) (x : Entry) (lt : at < length xs) (read : x ≡ get_or xs at x) (so_far : list_all (is_after known.1) (take at xs) ≡ true) where
  stands_there : slice_get xs at ≡ Some x
  stands_there = stands_at xs at x lt read

  low : is_from known.1 x ≡ true
  low = all_at (is_from known.1) xs at x stands_there k.all

  pub known_next : has_due known.1 (least_due x.objects) ≡ false → list_all (is_after known.1) (take (at + 1) xs) ≡ true
  known_next other =
      let more : take (at + 1) xs ≡ take at xs ++ x ∷ [] = take_more xs at x lt ∙ ap (λ (e : Entry). take at xs ++ e ∷ []) (sym read) in
      let here : is_after known.1 x ≡ true = not_then known.1 (least_due x.objects) low other in
      ap (list_all (is_after known.1)) more ∙ all_both (is_after known.1) (take at xs) (x ∷ []) so_far (rw here refl)

  pub first_is : has_due known.1 (least_due x.objects) ≡ true → IsSoonest xs at known.1
  first_is it = record {
    front = take at xs;
    here = x;
    back = drop (suc at) xs;
    whole = split_at xs at x stands_there;
    place = length-take-le at xs (at_most lt);
    due_here = due_then known.1 (least_due x.objects) it;
    later = so_far;
    no_sooner = all_drop (is_from known.1) xs (suc at) k.all;
  }
    where
      at_most : {a b : ℕ} → a < b → a ≤ b
      at_most h = omega arith
