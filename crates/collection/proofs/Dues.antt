-- The keys of objects that have a deadline, as an object comes or goes.
use Rattle.std.proofs.Common.{◌≡◌, ◌≢◌, ◌<◌, ◌≤◌, ◌+◌, ℕ, Bool, true, false, refl, sym, ap, ◌∙◌, subst, List, [], ◌∷◌, length, get_or, arith}
use Rattle.std.specs.Prelude.{Option, Some, None, is_some, nat_eq, nat_lt, not, ◌&&◌, ◌||◌}
use Rattle.std.specs.List.{list_all, insert, remove}
use Rattle.std.proofs.lemmas.Bool.Decides.{nat_tests}
use Rattle.byte_text.specs.Names.{Bytes, before}
use Rattle.byte_text.specs.ByteOrder.{before_trans, before_tie, before_asym}
use Rattle.ordered_lists.specs.Lists.{ascends}
use Rattle.ordered_lists.specs.Reading.{both_of}
use Rattle.world_data.specs.Expiry.{deadline_of}
use Rattle.world_data.specs.declared.objects.Object.{Object}
use Rattle.collection.specs.Objects.{id_before, are_by_id}
use Rattle.collection.specs.Deadlines.{slot_before, is_expiring, is_among, due_order, rank_of, AreDues}
use Rattle.collection.specs.Slotted.{objects_at, are_stored, are_apart}
use Rattle.collection.proofs.Numbers.{itself, all_among, among_insert, among_remove, fits, apart_of}
use Rattle.collection.proofs.Slots.{some_of}

-- numbers, and where they are equal something else, compared

compare_trans : (a b c : ℕ) (x y z : Bool) → (x ≡ true → y ≡ true → z ≡ true) → (nat_lt a b || (nat_eq a b && x)) ≡ true → (nat_lt b c || (nat_eq b c && y)) ≡ true → (nat_lt a c || (nat_eq a c && z)) ≡ true
compare_trans a b c x y z t p q = grind (arith, nat_tests)

compare_tie : (a b c : ℕ) (x w y z : Bool) → (x ≡ false → w ≡ false → y ≡ true → z ≡ true) → (nat_lt a b || (nat_eq a b && x)) ≡ false → (nat_lt b a || (nat_eq b a && w)) ≡ false → (nat_lt b c || (nat_eq b c && y)) ≡ true → (nat_lt a c || (nat_eq a c && z)) ≡ true
compare_tie a b c x w y z t p q r = grind (arith, nat_tests)

compare_asym : (a b : ℕ) (x w : Bool) → (x ≡ true → w ≡ false) → (nat_lt a b || (nat_eq a b && x)) ≡ true → (nat_lt b a || (nat_eq b a && w)) ≡ false
compare_asym a b x w t p = grind (arith, nat_tests)

compare_either : (a b : ℕ) (x w : Bool) → (x || w) ≡ true → ((nat_lt a b || (nat_eq a b && x)) || (nat_lt b a || (nat_eq b a && w))) ≡ true
compare_either a b x w t = grind (arith, nat_tests)

slot_trans : (a b c : Option Object) → slot_before a b ≡ true → slot_before b c ≡ true → slot_before a c ≡ true
slot_trans None b c p q = absurd (cc)
slot_trans (Some o) None c p q = absurd (cc)
slot_trans (Some o) (Some r) None p q = refl
slot_trans (Some o) (Some r) (Some s) p q =
    compare_trans (deadline_of o.deadline) (deadline_of r.deadline) (deadline_of s.deadline) (before o.id r.id) (before r.id s.id) (before o.id s.id) (before_trans o.id r.id s.id) p q

id_tie : (o r s : Object) → before o.id r.id ≡ false → before r.id o.id ≡ false → before r.id s.id ≡ true → before o.id s.id ≡ true
id_tie o r s p q h = subst (λ n. before n s.id ≡ true) (sym (before_tie o.id r.id p q)) h

slot_tie : (a b c : Option Object) → slot_before a b ≡ false → slot_before b a ≡ false → slot_before b c ≡ true → slot_before a c ≡ true
slot_tie a None c p q r = absurd (cc)
slot_tie None (Some r) c p q h = absurd (cc)
slot_tie (Some o) (Some r) None p q h = refl
slot_tie (Some o) (Some r) (Some s) p q h =
    compare_tie (deadline_of o.deadline) (deadline_of r.deadline) (deadline_of s.deadline) (before o.id r.id) (before r.id o.id) (before r.id s.id) (before o.id s.id) (id_tie o r s) p q h

slot_asym : (a b : Option Object) → slot_before a b ≡ true → slot_before b a ≡ false
slot_asym None b p = absurd (cc)
slot_asym (Some o) None p = refl
slot_asym (Some o) (Some r) p = compare_asym (deadline_of o.deadline) (deadline_of r.deadline) (before o.id r.id) (before r.id o.id) (before_asym o.id r.id) p

pub due_trans : (f : ℕ → Option Object) (k l m : ℕ) → due_order f k l ≡ true → due_order f l m ≡ true → due_order f k m ≡ true
due_trans f k l m = slot_trans (f k) (f l) (f m)

pub due_tie : (f : ℕ → Option Object) (k l m : ℕ) → due_order f k l ≡ false → due_order f l k ≡ false → due_order f l m ≡ true → due_order f k m ≡ true
due_tie f k l m = slot_tie (f k) (f l) (f m)

pub due_asym : (f : ℕ → Option Object) (k l : ℕ) → due_order f k l ≡ true → due_order f l k ≡ false
due_asym f k l = slot_asym (f k) (f l)

-- a test of an object, where there is one
abbrev pub passes : (Object → Bool) → Option Object → Bool
passes q None = true
passes q (Some o) = q o

module _ (f : ℕ → Option Object) (q : Object → Bool) where
  pub slots_all : (ks : List ℕ) → are_stored f ks ≡ true → list_all q (objects_at f ks) ≡ true → list_all (λ k. passes q (f k)) ks ≡ true
  slots_all [] all h = refl
  slots_all (k ∷ ks) all h =
      let s = both_of (is_some (f k)) (are_stored f ks) all in
      let y = some_of (f k) s.0 in
      let p = both_of (q y.0) (list_all q (objects_at f ks)) (rw y.1 at h) in
      let here : passes q (f k) ≡ true = rw y.1 p.0 in
      rw (here, slots_all ks s.1 p.1) refl

  pub all_slots : (ks : List ℕ) → are_stored f ks ≡ true → list_all (λ k. passes q (f k)) ks ≡ true → list_all q (objects_at f ks) ≡ true
  all_slots [] all h = refl
  all_slots (k ∷ ks) all h =
      let s = both_of (is_some (f k)) (are_stored f ks) all in
      let y = some_of (f k) s.0 in
      let p = both_of (passes q (f k)) (list_all (λ k. passes q (f k)) ks) h in
      let here : q y.0 ≡ true = sym (ap (passes q) y.1) ∙ p.0 in
      rw (y.1, here, all_slots ks s.1 p.1) refl

-- two keys of objects by id are of two ids
either_id : (f : ℕ → Option Object) (ks : List ℕ) (k l : ℕ) (o r : Object) → are_stored f ks ≡ true → are_by_id (objects_at f ks) ≡ true → is_among k ks ≡ true → is_among l ks ≡ true → nat_eq k l ≡ false → f k ≡ Some o → f l ≡ Some r → (before o.id r.id || before r.id o.id) ≡ true
either_id f [] k l o r all asc a b other is this = absurd (cc)
either_id f (h ∷ ks) k l o r all asc a b other is this =
    let s = both_of (is_some (f h)) (are_stored f ks) all in
    let y = some_of (f h) s.0 in
    let p = both_of (list_all (id_before y.0) (objects_at f ks)) (are_by_id (objects_at f ks)) (rw y.1 at asc) in
    let behind = slots_all f (id_before y.0) ks s.1 p.0 in
    one_of (nat_eq k h) (nat_eq l h) y.0 y.1 refl refl (λ n m. all_among (λ j. passes (id_before y.0) (f j)) ks n behind m) (either_id f ks k l o r s.1 p.1) a b
  where
    same_key : (n : ℕ) → nat_eq n h ≡ true → n ≡ h
    same_key n e = grind (arith, nat_tests)

    same_object : (n : ℕ) (x y : Object) → nat_eq n h ≡ true → f n ≡ Some x → f h ≡ Some y → y ≡ x
    same_object n x y e p q = let s : f n ≡ f h = ap f (same_key n e) in cc

    first_of_two : (x y z : Object) → y ≡ x → id_before y z ≡ true → (before x.id z.id || before z.id x.id) ≡ true
    first_of_two x y z e h = let b : before x.id z.id ≡ true = subst (λ (v : Object). before v.id z.id ≡ true) e h in grind arith

    last_of_two : (x y z : Object) → y ≡ x → id_before y z ≡ true → (before z.id x.id || before x.id z.id) ≡ true
    last_of_two x y z e h = let b : before x.id z.id ≡ true = subst (λ (v : Object). before v.id z.id ≡ true) e h in grind arith

    one_of : (b c : Bool) (y : Object) → f h ≡ Some y → nat_eq k h ≡ b → nat_eq l h ≡ c
        → ((n : ℕ) → is_among n ks ≡ true → passes (id_before y) (f n) ≡ true)
        → (is_among k ks ≡ true → is_among l ks ≡ true → nat_eq k l ≡ false → f k ≡ Some o → f l ≡ Some r → (before o.id r.id || before r.id o.id) ≡ true)
        → is_among k (h ∷ ks) ≡ true → is_among l (h ∷ ks) ≡ true → (before o.id r.id || before r.id o.id) ≡ true
    one_of true true y at e c behind ih a b = absurd (grind (arith, nat_tests))
    one_of true false y at e c behind ih a b =
        let later : is_among l ks ≡ true = rw c at b in
        first_of_two o y r (same_object k o y e is at) (sym (ap (passes (id_before y)) this) ∙ behind l later)
    one_of false true y at e c behind ih a b =
        let later : is_among k ks ≡ true = rw e at a in
        last_of_two r y o (same_object l r y c this at) (sym (ap (passes (id_before y)) is) ∙ behind k later)
    one_of false false y at e c behind ih a b = ih (rw e at a) (rw c at b) other is this

stored_one : (f : ℕ → Option Object) (ks : List ℕ) (k : ℕ) → are_stored f ks ≡ true → is_among k ks ≡ true → is_some (f k) ≡ true
stored_one f ks k all m = all_among (λ k. is_some (f k)) ks k all m

-- one of two keys expires first
either_due : (f : ℕ → Option Object) (ks : List ℕ) (k l : ℕ) → are_stored f ks ≡ true → are_by_id (objects_at f ks) ≡ true → is_among k ks ≡ true → is_among l ks ≡ true → nat_eq k l ≡ false → (due_order f k l || due_order f l k) ≡ true
either_due f ks k l all asc a b other =
    let x = some_of (f k) (stored_one f ks k all a) in
    let y = some_of (f l) (stored_one f ks l all b) in
    let e = either_id f ks k l x.0 y.0 all asc a b other x.1 y.1 in
    rw (x.1, y.1) (compare_either (deadline_of x.0.deadline) (deadline_of y.0.deadline) (before x.0.id y.0.id) (before y.0.id x.0.id) e)

-- the keys of all objects with a deadline but one
pub record AreOthers (slots : ℕ → Option Object) (keys : List ℕ) (key : ℕ) (dues : List ℕ) : Type 0 where
  pub order : ascends (due_order slots) dues ≡ true
  pub among : (k : ℕ) → is_among k dues ≡ (is_among k keys && (is_expiring (slots k) && not (nat_eq k key)))

pub not_there : (f : ℕ → Option Object) (keys : List ℕ) (key : ℕ) (dues : List ℕ) → AreOthers f keys key dues → is_among key dues ≡ false
not_there f keys key dues o = let i = itself key in let a = o.among key in grind arith

same_key : (k key : ℕ) → nat_eq k key ≡ true → k ≡ key
same_key k key e = grind (arith, nat_tests)

other_key : (k key : ℕ) → nat_eq k key ≡ false → k ≢ key
other_key k key e = λ s. absurd (grind (arith, nat_tests))

-- a new key, before its object is among those with a deadline
pub others_insert : (f : ℕ → Option Object) (keys dues : List ℕ) (key i : ℕ) → f key ≡ None → AreDues f keys dues → AreOthers f (insert keys i key) key dues
others_insert f keys dues key i none d = record { order = d.order; among = λ k. all k (nat_eq k key) refl (d.among k) (among_insert k key keys i) }
  where
    all : (k : ℕ) (b : Bool) → nat_eq k key ≡ b → is_among k dues ≡ (is_among k keys && is_expiring (f k)) → is_among k (insert keys i key) ≡ (is_among k keys || nat_eq k key) → is_among k dues ≡ (is_among k (insert keys i key) && (is_expiring (f k) && not (nat_eq k key)))
    all k true e a n =
        let gone : is_expiring (f k) ≡ false = ap (λ (j : ℕ). is_expiring (f j)) (same_key k key e) ∙ ap is_expiring none in
        grind arith
    all k false e a n = grind arith

-- one is taken out of those with a deadline
pub others_taken : (f : ℕ → Option Object) (keys dues left : List ℕ) (key : ℕ) → AreDues f keys dues → ascends (due_order f) left ≡ true → ((k : ℕ) → is_among k left ≡ (is_among k dues && not (nat_eq k key))) → AreOthers f keys key left
others_taken f keys dues left key d order among = record { order = order; among = λ k. let a = d.among k in let b = among k in grind arith }

module _ (f g : ℕ → Option Object) (key : ℕ) (others : (other : ℕ) → other ≢ key → g other ≡ f other) where
  all_same : (o : Option Object) (xs : List ℕ) → is_among key xs ≡ false → list_all (λ l. slot_before o (f l)) xs ≡ true → list_all (λ l. slot_before o (g l)) xs ≡ true
  all_same o [] none all = refl
  all_same o (x ∷ xs) none all =
      let p = both_of (slot_before o (f x)) (list_all (λ l. slot_before o (f l)) xs) all in
      let other : nat_eq x key ≡ false = unlike key x (nat_eq key x) refl none in
      let here : slot_before o (g x) ≡ true = ap (slot_before o) (others x (other_key x key other)) ∙ p.0 in
      rw (here, all_same o xs (rest key x (is_among key xs) none) p.1) refl
    where
      unlike : (a b : ℕ) (c : Bool) → nat_eq a b ≡ c → (nat_eq a b || is_among a xs) ≡ false → nat_eq b a ≡ false
      unlike a b c e n = grind (arith, nat_tests)

      rest : (a b : ℕ) (c : Bool) → (nat_eq a b || c) ≡ false → c ≡ false
      rest a b c n = grind arith

  order_same : (xs : List ℕ) → is_among key xs ≡ false → ascends (due_order f) xs ≡ true → ascends (due_order g) xs ≡ true
  order_same [] none asc = refl
  order_same (x ∷ xs) none asc =
      let p = both_of (list_all (due_order f x) xs) (ascends (due_order f) xs) asc in
      let other : nat_eq x key ≡ false = unlike key x none in
      let later = rest key x (is_among key xs) none in
      let here : list_all (due_order g x) xs ≡ true = subst (λ (o : Option Object). list_all (λ l. slot_before o (g l)) xs ≡ true) (sym (others x (other_key x key other))) (all_same (f x) xs later p.0) in
      rw (here, order_same xs later p.1) refl
    where
      unlike : (a b : ℕ) → (nat_eq a b || is_among a xs) ≡ false → nat_eq b a ≡ false
      unlike a b n = grind (arith, nat_tests)

      rest : (a b : ℕ) (c : Bool) → (nat_eq a b || c) ≡ false → c ≡ false
      rest a b c n = grind arith

  -- what the one key holds does not matter
  pub others_kept : (keys dues : List ℕ) → AreOthers f keys key dues → AreOthers g keys key dues
  others_kept keys dues o = record { order = order_same dues (not_there f keys key dues o) o.order; among = λ k. all k (nat_eq k key) refl (o.among k) }
    where
      all : (k : ℕ) (b : Bool) → nat_eq k key ≡ b → is_among k dues ≡ (is_among k keys && (is_expiring (f k) && not (nat_eq k key))) → is_among k dues ≡ (is_among k keys && (is_expiring (g k) && not (nat_eq k key)))
      all k true e a = grind arith
      all k false e a =
          let same : is_expiring (g k) ≡ is_expiring (f k) = ap is_expiring (others k (other_key k key e)) in
          grind arith

-- the order hangs on deadlines and ids alone

abbrev rank_before : Option (Option ℕ × Bytes) → Option (Option ℕ × Bytes) → Bool
rank_before None q = false
rank_before (Some o) None = true
rank_before (Some o) (Some p) = nat_lt (deadline_of o.0) (deadline_of p.0) || (nat_eq (deadline_of o.0) (deadline_of p.0) && before o.1 p.1)

by_rank : (p q : Option Object) → slot_before p q ≡ rank_before (rank_of p) (rank_of q)
by_rank None q = refl
by_rank (Some o) None = refl
by_rank (Some o) (Some p) = refl

abbrev rank_expires : Option (Option ℕ × Bytes) → Bool
rank_expires None = false
rank_expires (Some o) = is_some o.0

by_rank_too : (o : Option Object) → is_expiring o ≡ rank_expires (rank_of o)
by_rank_too None = refl
by_rank_too (Some o) = refl

module _ (f g : ℕ → Option Object) (alike : (k : ℕ) → rank_of (g k) ≡ rank_of (f k)) where
  order_alike : (k l : ℕ) → due_order g k l ≡ due_order f k l
  order_alike k l = by_rank (g k) (g l) ∙ ap (λ r. rank_before r (rank_of (g l))) (alike k) ∙ ap (λ r. rank_before (rank_of (f k)) r) (alike l) ∙ sym (by_rank (f k) (f l))

  all_alike : (k : ℕ) (xs : List ℕ) → list_all (due_order g k) xs ≡ list_all (due_order f k) xs
  all_alike k [] = refl
  all_alike k (x ∷ xs) = ap (λ (b : Bool). b && list_all (due_order g k) xs) (order_alike k x) ∙ ap (λ (b : Bool). due_order f k x && b) (all_alike k xs)

  ascends_alike : (xs : List ℕ) → ascends (due_order g) xs ≡ ascends (due_order f) xs
  ascends_alike [] = refl
  ascends_alike (x ∷ xs) = ap (λ (b : Bool). b && ascends (due_order g) xs) (all_alike x xs) ∙ ap (λ (b : Bool). list_all (due_order f x) xs && b) (ascends_alike xs)

-- an object of the same deadline and id in the place of another keeps its place
pub dues_alike : (f g : ℕ → Option Object) (key : ℕ) → ((other : ℕ) → other ≢ key → g other ≡ f other) → (keys dues : List ℕ) → rank_of (g key) ≡ rank_of (f key) → AreDues f keys dues → AreDues g keys dues
dues_alike f g key others keys dues here d = record {
  order = ascends_alike f g alike dues ∙ d.order;
  among = λ k. d.among k ∙ ap (λ (b : Bool). is_among k keys && b) (by_rank_too (f k) ∙ ap rank_expires (sym (alike k)) ∙ sym (by_rank_too (g k)));
}
  where
    alike : (k : ℕ) → rank_of (g k) ≡ rank_of (f k)
    alike k = by_key (nat_eq k key) refl
      where
        by_key : (b : Bool) → nat_eq k key ≡ b → rank_of (g k) ≡ rank_of (f k)
        by_key true e = ap (λ (j : ℕ). rank_of (g j)) (same_key k key e) ∙ here ∙ sym (ap (λ (j : ℕ). rank_of (f j)) (same_key k key e))
        by_key false e = ap rank_of (others k (other_key k key e))

-- a key that is taken out is not among those with a deadline
pub dues_removed : (f : ℕ → Option Object) (keys dues : List ℕ) (key i d : ℕ) → are_apart keys ≡ true → i < length keys → key ≡ get_or keys i d → AreOthers f keys key dues → AreDues f (remove keys i) dues
dues_removed f keys dues key i d apart lt is o = record {
  order = o.order;
  among = λ k. turned (is_among k keys) (is_expiring (f k)) (not (nat_eq k key)) (is_among k dues) (is_among k (remove keys i)) (o.among k) (among_remove k key keys i d apart lt is);
}
  where
    turned : (a b c m r : Bool) → m ≡ (a && (b && c)) → r ≡ (a && c) → m ≡ (r && b)
    turned a b c m r p q = grind arith

module _ (f : ℕ → Option Object) (keys : List ℕ) (key : ℕ) (dues : List ℕ) (o : AreOthers f keys key dues) where
  -- the others have other places in the order
  pub others_apart : are_stored f keys ≡ true → are_by_id (objects_at f keys) ≡ true → is_among key keys ≡ true → (k : ℕ) → is_among k dues ≡ true → (due_order f k key || due_order f key k) ≡ true
  others_apart all asc there k m =
      let a = o.among k in
      let there_too : is_among k keys ≡ true = grind arith in
      let other : nat_eq k key ≡ false = grind arith in
      either_due f keys k key all asc there_too there other

  -- there is room for the one
  pub others_fewer : is_among key keys ≡ true → length dues + 1 ≤ length keys
  others_fewer there =
      let none = not_there f keys key dues o in
      let apart : are_apart (key ∷ dues) ≡ true = rw (none, apart_of (due_order f) (due_trans f) (due_asym f) dues o.order) refl in
      let le = fits (key ∷ dues) keys apart (λ k m. within k m (nat_eq k key) refl) in
      omega (arith, le)
    where
      within : (k : ℕ) → is_among k (key ∷ dues) ≡ true → (b : Bool) → nat_eq k key ≡ b → is_among k keys ≡ true
      within k m true e = ap (λ (j : ℕ). is_among j keys) (same_key k key e) ∙ there
      within k m false e = let a = o.among k in grind arith

  -- the one is put among them where it has a deadline
  pub dues_put : (made : List ℕ) → is_among key keys ≡ true → ascends (due_order f) made ≡ true → ((k : ℕ) → is_among k made ≡ (is_among k dues || (nat_eq k key && is_expiring (f key)))) → AreDues f keys made
  dues_put made there order among = record { order = order; among = λ k. all k (nat_eq k key) refl (o.among k) (among k) }
    where
      all : (k : ℕ) (b : Bool) → nat_eq k key ≡ b → is_among k dues ≡ (is_among k keys && (is_expiring (f k) && not (nat_eq k key))) → is_among k made ≡ (is_among k dues || (nat_eq k key && is_expiring (f key))) → is_among k made ≡ (is_among k keys && is_expiring (f k))
      all k true e a m =
          let same : is_expiring (f k) ≡ is_expiring (f key) = ap (λ (j : ℕ). is_expiring (f j)) (same_key k key e) in
          let there_too : is_among k keys ≡ true = ap (λ (j : ℕ). is_among j keys) (same_key k key e) ∙ there in
          grind arith
      all k false e a m = grind arith

-- there are as many keys at least as there are with a deadline
pub dues_fit : (f : ℕ → Option Object) (keys dues : List ℕ) → AreDues f keys dues → length dues ≤ length keys
dues_fit f keys dues d = fits dues keys (apart_of (due_order f) (due_trans f) (due_asym f) dues d.order) (λ k m. let a = d.among k in grind arith)

-- a key is listed where its object has a deadline
pub listed : (f : ℕ → Option Object) (keys dues : List ℕ) (key : ℕ) → AreDues f keys dues → is_among key keys ≡ true → is_among key dues ≡ is_expiring (f key)
listed f keys dues key d there = let a = d.among key in grind arith
