-- The object that expires first, and its place by id.
use Rattle.std.proofs.Common.{◌≡◌, ◌<◌, ℕ, zero, suc, Bool, true, false, refl, sym, ap, ◌∙◌, subst, List, [], ◌∷◌, length, take, drop, get_or, arith}
use Rattle.std.specs.Prelude.{Option, Some, None, is_some, nat_eq, nat_lt, nat_le, not, ◌&&◌, ◌||◌, ◌==◌, slice_get, IfSome}
use Rattle.std.specs.List.{list_all, list_any}
use Rattle.std.proofs.lemmas.Bool.Decides.{nat_tests}
use Rattle.byte_text.specs.Names.{before}
use Rattle.byte_text.specs.ByteOrder.{before_asym, before_self}
use Rattle.ordered_lists.specs.Lists.{ascends}
use Rattle.ordered_lists.specs.Reading.{both_of}
use Rattle.world_data.specs.declared.objects.Object.{Object}
use Rattle.collection.specs.Objects.{id_before, are_by_id, least_due}
use Rattle.collection.specs.Deadlines.{has_deadline, FirstDue, expires_before, slot_before, is_expiring, is_among, due_order, AreDues}
use Rattle.collection.specs.Slotted.{objects_at, are_stored}
use Rattle.collection.proofs.Numbers.{itself, all_among, among_all}
use Rattle.collection.proofs.Least.{no_sooner, none_least, least_at}
use Rattle.collection.proofs.Slots.{get_at}
use Rattle.collection.proofs.Dues.{passes, all_slots}

index_of : (k : ℕ) (ks : List ℕ) → is_among k ks ≡ true → (i : ℕ) × ((i < length ks) × (k ≡ get_or ks i 0))
index_of k [] any = absurd (cc)
index_of k (j ∷ ks) any = first_or (nat_eq k j) refl (index_of k ks)
  where
    first_or : (b : Bool) → nat_eq k j ≡ b → (is_among k ks ≡ true → (i : ℕ) × ((i < length ks) × (k ≡ get_or ks i 0))) → (i : ℕ) × ((i < length (j ∷ ks)) × (k ≡ get_or (j ∷ ks) i 0))
    first_or true e more = (0, (omega arith, grind (arith, nat_tests)))
    first_or false e more = let p = more (rw e at any) in (suc p.0, (omega (arith, p.1.0), p.1.1))

got_all : (q : Object → Bool) (os : List Object) (i : ℕ) (x : Object) → list_all q os ≡ true → slice_get os i ≡ Some x → q x ≡ true
got_all q [] i x all is = absurd (cc)
got_all q (o ∷ os) zero x all is = let s : o ≡ x = cc in ap q (sym s) ∙ (both_of (q o) (list_all q os) all).0
got_all q (o ∷ os) (suc i) x all is = got_all q os i x (both_of (q o) (list_all q os) all).1 is

got_any : (q : Object → Bool) (os : List Object) (i : ℕ) (x : Object) → q x ≡ true → slice_get os i ≡ Some x → list_any q os ≡ true
got_any q [] i x h is = absurd (cc)
got_any q (o ∷ os) zero x h is = let s : o ≡ x = cc in let here : q o ≡ true = ap q s ∙ h in rw here refl
got_any q (o ∷ os) (suc i) x h is = let ih = got_any q os i x h is in grind arith

take_all_of : (q : Object → Bool) (os : List Object) (n : ℕ) → list_all q os ≡ true → list_all q (take n os) ≡ true
take_all_of q [] zero all = refl
take_all_of q [] (suc n) all = refl
take_all_of q (o ∷ os) zero all = refl
take_all_of q (o ∷ os) (suc n) all =
    let p = both_of (q o) (list_all q os) all in
    rw (p.0, take_all_of q os n p.1) refl

those : (p q : Object → Bool) (os : List Object) → list_all (λ o. not (p o) || not (q o)) os ≡ true → list_all p os ≡ true → list_all (λ o. not (q o)) os ≡ true
those p q [] either all = refl
those p q (o ∷ os) either all =
    let a = both_of (not (p o) || not (q o)) (list_all (λ o. not (p o) || not (q o)) os) either in
    let b = both_of (p o) (list_all p os) all in
    let ih = those p q os a.1 b.1 in
    grind arith

-- an object by id stands behind those whose ids stand before its own
stands_there : (x : Object) (os : List Object) (p j : ℕ) → are_by_id os ≡ true → slice_get os j ≡ Some x → list_all (λ o. before o.id x.id) (take p os) ≡ true → list_all (λ o. not (before o.id x.id)) (drop p os) ≡ true → slice_get os p ≡ Some x
stands_there x [] p j asc is front behind = absurd (cc)
stands_there x (o ∷ os) zero zero asc is front behind = is
stands_there x (o ∷ os) zero (suc j) asc is front behind =
    let a = both_of (list_all (id_before o) os) (are_by_id os) asc in
    let b = both_of (not (before o.id x.id)) (list_all (λ o. not (before o.id x.id)) os) behind in
    let c = got_all (id_before o) os j x a.0 is in
    absurd (grind arith)
stands_there x (o ∷ os) (suc p) zero asc is front behind =
    let s : o ≡ x = cc in
    let b = both_of (before o.id x.id) (list_all (λ o. before o.id x.id) (take p os)) front in
    let self : before x.id x.id ≡ true = subst (λ (v : Object). before v.id x.id ≡ true) s b.0 in
    let n = before_self x.id in
    absurd (cc)
stands_there x (o ∷ os) (suc p) (suc j) asc is front behind =
    let a = both_of (list_all (id_before o) os) (are_by_id os) asc in
    let b = both_of (before o.id x.id) (list_all (λ o. before o.id x.id) (take p os)) front in
    stands_there x os p j a.1 is b.1 behind

got_within : (os : List Object) (i : ℕ) (x : Object) → slice_get os i ≡ Some x → i < length os
got_within [] i x is = absurd (cc)
got_within (o ∷ os) zero x is = omega arith
got_within (o ∷ os) (suc i) x is = let ih = got_within os i x is in omega (arith, ih)

moment_same : (a : ℕ) → (a == a) ≡ true
moment_same a = grind (arith, nat_tests)

not_sooner_than : (due t : ℕ) (b : Bool) → (nat_lt due t || (nat_eq due t && b)) ≡ true → nat_le due t ≡ true
not_sooner_than due t b h = grind (arith, nat_tests)

not_that : (due t : ℕ) (x w : Bool) → (x ≡ true → w ≡ false) → (nat_lt due t || (nat_eq due t && x)) ≡ true → (not w || not (t == due)) ≡ true
not_that due t x w a h = grind (arith, nat_tests)

or_true : (a : Bool) → (a || true) ≡ true
or_true a = grind arith

-- no key of an object with a deadline
pub none_due : (f : ℕ → Option Object) (keys : List ℕ) → are_stored f keys ≡ true → AreDues f keys [] → least_due (objects_at f keys) ≡ None
none_due f keys all d = none_least (objects_at f keys) (all_slots f (λ o. not (is_some o.deadline)) keys all (among_all (λ k. passes (λ o. not (is_some o.deadline)) (f k)) keys (λ k m. one (f k) (is_among k keys) m (d.among k))))
  where
    one : (o : Option Object) (b : Bool) → b ≡ true → false ≡ (b && is_expiring o) → passes (λ o. not (is_some o.deadline)) o ≡ true
    one None b m e = refl
    one (Some o) b m e = grind arith

module _ (f : ℕ → Option Object) (keys dues : List ℕ) (h : ℕ) (all : are_stored f keys ≡ true) (d : AreDues f keys (h ∷ dues)) where
  pub first_key : is_among h keys ≡ true
  first_key = let a = d.among h in let i = itself h in grind arith

  pub first_expires : is_expiring (f h) ≡ true
  first_expires = let a = d.among h in let i = itself h in grind arith

  module _ (x : Object) (is : f h ≡ Some x) (q : Object → Bool) (here : q x ≡ true) (behind : (o : Object) → expires_before x o ≡ true → q o ≡ true) (never : (o : Object) → is_some o.deadline ≡ false → q o ≡ true) where
    slot_behind : (o : Option Object) → slot_before (f h) o ≡ true → passes q o ≡ true
    slot_behind None e = refl
    slot_behind (Some o) e = let e2 : slot_before (Some x) (Some o) ≡ true = sym (ap (λ (s : Option Object). slot_before s (Some o)) is) ∙ e in behind o e2

    rest : (ks : List ℕ) → list_all (due_order f h) ks ≡ true → list_all (λ k. passes q (f k)) ks ≡ true
    rest [] all = refl
    rest (k ∷ ks) all =
        let p = both_of (due_order f h k) (list_all (due_order f h) ks) all in
        rw (slot_behind (f k) p.0, rest ks p.1) refl

    dues_pass : list_all (λ k. passes q (f k)) (h ∷ dues) ≡ true
    dues_pass =
        let p = both_of (list_all (due_order f h) dues) (ascends (due_order f) dues) d.order in
        let first : passes q (f h) ≡ true = ap (passes q) is ∙ here in
        rw (first, rest dues p.0) refl

    one : (k : ℕ) (o : Option Object) → f k ≡ o → is_among k keys ≡ true → is_among k (h ∷ dues) ≡ (is_among k keys && is_expiring (f k)) → passes q o ≡ true
    one k None e m a = refl
    one k (Some o) e m a = chosen (is_some o.deadline) refl
      where
        chosen : (b : Bool) → is_some o.deadline ≡ b → q o ≡ true
        chosen false n = never o n
        chosen true n =
            let expires : is_expiring (f k) ≡ true = ap is_expiring e ∙ n in
            let there : is_among k (h ∷ dues) ≡ true = a ∙ rw (m, expires) refl in
            sym (ap (passes q) e) ∙ all_among (λ k. passes q (f k)) (h ∷ dues) k dues_pass there

    -- what the first one passes, and each that expires later or never, all objects pass
    pub all_pass : list_all q (objects_at f keys) ≡ true
    all_pass = all_slots f q keys all (among_all (λ k. passes q (f k)) keys (λ k m. one k (f k) refl m (d.among k)))

  module _ (x : Object) (is : f h ≡ Some x) (due : ℕ) (moment : x.deadline ≡ Some due) where
    later : (o : Object) (t : Option ℕ) → o.deadline ≡ t → expires_before x o ≡ true → no_sooner due t ≡ true
    later o None e b = refl
    later o (Some t) e b = not_sooner_than due t (before x.id o.id) (rw (moment, e) at b)

    never_sooner : (t : Option ℕ) → is_some t ≡ false → no_sooner due t ≡ true
    never_sooner None e = refl
    never_sooner (Some t) e = absurd (cc)

    le_self : nat_le due due ≡ true
    le_self = grind (arith, nat_tests)

    none_sooner : list_all (λ o. no_sooner due o.deadline) (objects_at f keys) ≡ true
    none_sooner = all_pass x is (λ o. no_sooner due o.deadline) (rw moment le_self) (λ o b. later o o.deadline refl b) (λ o n. never_sooner o.deadline n)

    has_it : has_deadline due x ≡ true
    has_it = rw moment (moment_same due)

    place : (i : ℕ) × ((i < length keys) × (h ≡ get_or keys i 0))
    place = index_of h keys first_key

    placed : slice_get (objects_at f keys) place.0 ≡ Some x
    placed = get_at f keys place.0 0 place.1.0 all ∙ ap f (sym place.1.1) ∙ is

    pub least_first : least_due (objects_at f keys) ≡ Some due
    least_first = least_at due (objects_at f keys) none_sooner (got_any (has_deadline due) (objects_at f keys) place.0 x has_it placed)

    other_moment : (o : Object) (t : Option ℕ) → o.deadline ≡ t → expires_before x o ≡ true → (not (before o.id x.id) || not (has_deadline due o)) ≡ true
    other_moment o None e b = rw e (or_true (not (before o.id x.id)))
    other_moment o (Some t) e b = rw e (not_that due t (before x.id o.id) (before o.id x.id) (before_asym x.id o.id) (rw (moment, e) at b))

    no_moment : (o : Object) (t : Option ℕ) → o.deadline ≡ t → is_some t ≡ false → (not (before o.id x.id) || not (has_deadline due o)) ≡ true
    no_moment o None e n = rw e (or_true (not (before o.id x.id)))
    no_moment o (Some t) e n = absurd (cc)

    own_id : (not (before x.id x.id) || not (has_deadline due x)) ≡ true
    own_id = rw (before_self x.id) refl

    pub first_place : (at : ℕ) → are_by_id (objects_at f keys) ≡ true → list_all (λ o. before o.id x.id) (take at (objects_at f keys)) ≡ true → list_all (λ o. not (before o.id x.id)) (drop at (objects_at f keys)) ≡ true → FirstDue (objects_at f keys) (Some at)
    first_place at asc front behind =
        let os = objects_at f keys in
        let stood = stands_there x os at place.0 asc placed front behind in
        let either = all_pass x is (λ o. not (before o.id x.id) || not (has_deadline due o)) own_id (λ o b. other_moment o o.deadline refl b) (λ o n. no_moment o o.deadline refl n) in
        record {
          due = due;
          least = least_first;
          first = record {
            within = got_within os at x stood;
            front = those (λ o. before o.id x.id) (has_deadline due) (take at os) (take_all_of (λ o. not (before o.id x.id) || not (has_deadline due o)) os at either) front;
            here = subst (λ (o : Option Object). IfSome o (λ x. has_deadline due x ≡ true)) (sym stood) has_it;
          };
        }

a_moment : (d : Option ℕ) → is_some d ≡ true → (due : ℕ) × (d ≡ Some due)
a_moment None e = absurd (cc)
a_moment (Some due) e = (due, refl)

moment_of : (o : Option Object) (x : Object) → o ≡ Some x → is_expiring o ≡ true → is_some x.deadline ≡ true
moment_of o x is e = let s : is_expiring (Some x) ≡ true = sym (ap is_expiring is) ∙ e in s

-- the object of the first key of those with a deadline
module _ (f : ℕ → Option Object) (keys : List ℕ) (all : are_stored f keys ≡ true) where
  pub due_stored : (dues : List ℕ) → AreDues f keys dues → 0 < length dues → is_some (f (get_or dues 0 0)) ≡ true
  due_stored [] d some = absurd (omega arith)
  due_stored (h ∷ dues) d some = all_among (λ k. is_some (f k)) keys h all (first_key f keys dues h all d)

  pub least_of_first : (dues : List ℕ) → AreDues f keys dues → 0 < length dues → (x : Object) → f (get_or dues 0 0) ≡ Some x → x.deadline ≡ least_due (objects_at f keys)
  least_of_first [] d some x is = absurd (omega arith)
  least_of_first (h ∷ dues) d some x is =
      let m = a_moment x.deadline (moment_of (f h) x is (first_expires f keys dues h all d)) in
      m.1 ∙ sym (least_first f keys dues h all d x is m.0 m.1)

  pub place_of_first : (dues : List ℕ) → AreDues f keys dues → 0 < length dues → (x : Object) → f (get_or dues 0 0) ≡ Some x → (at : ℕ) → are_by_id (objects_at f keys) ≡ true → list_all (λ o. before o.id x.id) (take at (objects_at f keys)) ≡ true → list_all (λ o. not (before o.id x.id)) (drop at (objects_at f keys)) ≡ true → FirstDue (objects_at f keys) (Some at)
  place_of_first [] d some x is at asc front behind = absurd (omega arith)
  place_of_first (h ∷ dues) d some x is at asc front behind =
      let m = a_moment x.deadline (moment_of (f h) x is (first_expires f keys dues h all d)) in
      first_place f keys dues h all d x is m.0 m.1 at asc front behind

  pub no_first : (dues : List ℕ) → AreDues f keys dues → length dues ≡ 0 → least_due (objects_at f keys) ≡ None
  no_first [] d none = none_due f keys all d
  no_first (h ∷ dues) d none = absurd (omega arith)
