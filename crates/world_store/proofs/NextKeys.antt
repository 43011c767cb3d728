-- The object behind a key and an id is the next one of its key, or else the first one of the next key that has one.
use Rattle.std.proofs.Common.{◌≡◌, ◌<◌, ℕ, zero, suc, Bool, true, false, refl, sym, ap, ◌∙◌, subst, List, [], ◌∷◌, length, arith}
use Rattle.std.specs.Prelude.{Option, Some, None, IfSome, ◌&&◌, ◌||◌, filter, find, map, slice_get}
use Rattle.std.specs.List.{list_all, list_any}
use Rattle.byte_text.specs.Names.{Bytes, same, before}
use Rattle.byte_text.specs.ByteOrder.{before_trans, same_refl, same_equal, other_before, other_behind}
use Rattle.byte_text.specs.ListLaws.{item_at}
use Rattle.ordered_lists.specs.Lists.{ascends, distinct}
use Rattle.ordered_lists.specs.Reading.{both_of}
use Rattle.world_data.specs.Worlds.{object_before, are_objects, has_key}
use Rattle.world_data.specs.declared.objects.Object.{Object}
use Rattle.keyspace.specs.Entries.{Entry, key_before, has_objects, objects_in}
use Rattle.world_store.specs.Copies.{is_behind, has_id_behind, IsFirstOf, FirstOf}
use Rattle.world_store.proofs.Walking.{got}

abbrev keys : List Object → List Bytes
keys os = map (λ o. o.key) os

-- the keys of objects in order ascend, each once

all_distinct : (p : Bytes → Bool) (ks : List Bytes) → list_all p ks ≡ true → list_all p (distinct ks) ≡ true
all_distinct p [] all = refl
all_distinct p (k ∷ ks) all = by (list_any (same k) ks) refl (all_distinct p ks parts.1)
  where
    parts : (p k ≡ true) × (list_all p ks ≡ true)
    parts = both_of (p k) (list_all p ks) all

    by : (b : Bool) → list_any (same k) ks ≡ b → list_all p (distinct ks) ≡ true → list_all p (distinct (k ∷ ks)) ≡ true
    by true e ih = rw e ih
    by false e ih = rw e (rw parts.0 ih)

-- behind an object in its order, and not of its key, so of a key behind
all_behind : (o : Object) (os : List Object) → list_all (object_before o) os ≡ true → list_any (same o.key) (keys os) ≡ false → list_all (before o.key) (keys os) ≡ true
all_behind o [] all none = refl
all_behind o (p ∷ os) all none = let ih = all_behind o os in grind arith

pub keys_ascend : (os : List Object) → are_objects os ≡ true → ascends before (distinct (keys os)) ≡ true
keys_ascend [] asc = refl
keys_ascend (o ∷ os) asc = by (list_any (same o.key) (keys os)) refl (keys_ascend os parts.1)
  where
    parts : (list_all (object_before o) os ≡ true) × (are_objects os ≡ true)
    parts = both_of (list_all (object_before o) os) (are_objects os) asc

    by : (b : Bool) → list_any (same o.key) (keys os) ≡ b → ascends before (distinct (keys os)) ≡ true → ascends before (distinct (keys (o ∷ os))) ≡ true
    by true e ih = rw e ih
    by false e ih = rw e (rw (all_distinct (before o.key) (keys os) (all_behind o os parts.0 e)) ih)

all_keyed : (k : Bytes) (es : List Entry) → list_all (before k) (map (λ e. e.key) es) ≡ true → list_all (λ e. before k e.key) es ≡ true
all_keyed k [] all = refl
all_keyed k (e ∷ es) all = let ih = all_keyed k es in grind arith

entries_by_keys : (es : List Entry) → ascends before (map (λ e. e.key) es) ≡ true → ascends key_before es ≡ true
entries_by_keys [] asc = refl
entries_by_keys (e ∷ es) asc = let ih = entries_by_keys es in let all = all_keyed e.key es in grind arith

-- so those of a keyspace that have objects ascend by their keys
pub held_ascend : (es : List Entry) (os : List Object) → are_objects os ≡ true → distinct (keys os) ≡ map (λ e. e.key) (filter has_objects es) → ascends key_before (filter has_objects es) ≡ true
held_ascend es os asc is = entries_by_keys (filter has_objects es) (subst (λ ks. ascends before ks ≡ true) is (keys_ascend os asc))

-- the first key that passes a test, among the keys that have objects, and the object of which it is

find_held : (test : Bytes → Bool) (es : List Entry) (e : Entry) → find (λ f. has_objects f && test f.key) es ≡ Some e → find test (map (λ f. f.key) (filter has_objects es)) ≡ Some e.key
find_held test [] e is = absurd (cc)
find_held test (f ∷ es) e is = by (has_objects f) refl (test f.key) refl (find_held test es e)
  where
    by : (a : Bool) → has_objects f ≡ a → (b : Bool) → test f.key ≡ b
        → (find (λ g. has_objects g && test g.key) es ≡ Some e → find test (map (λ g. g.key) (filter has_objects es)) ≡ Some e.key)
        → find test (map (λ g. g.key) (filter has_objects (f ∷ es))) ≡ Some e.key
    by true h true t ih = let it : f ≡ e = cc (rw (h, t) at is) in rw (h, t) (ap (λ (g : Entry). Some g.key) it)
    by true h false t ih = rw (h, t) (ih (rw (h, t) at is))
    by false h b t ih = rw h (ih (rw h at is))

find_no_held : (test : Bytes → Bool) (es : List Entry) → find (λ f. has_objects f && test f.key) es ≡ None → find test (map (λ f. f.key) (filter has_objects es)) ≡ None
find_no_held test [] is = refl
find_no_held test (f ∷ es) is = by (has_objects f) refl (test f.key) refl (find_no_held test es)
  where
    by : (a : Bool) → has_objects f ≡ a → (b : Bool) → test f.key ≡ b
        → (find (λ g. has_objects g && test g.key) es ≡ None → find test (map (λ g. g.key) (filter has_objects es)) ≡ None)
        → find test (map (λ g. g.key) (filter has_objects (f ∷ es))) ≡ None
    by true h true t ih = absurd (let some : Some f ≡ None = rw (h, t) at is in cc)
    by true h false t ih = rw (h, t) (ih (rw (h, t) at is))
    by false h b t ih = rw h (ih (rw h at is))

-- the keys of what stands behind an object

behind_next : (k : Bytes) (o p : Object) → before k o.key ≡ true → object_before o p ≡ true → before k p.key ≡ true
behind_next k o p lt next =
    let t = before_trans k o.key p.key in
    let e = same_equal o.key p.key in
    grind arith

-- none is one of a key that stands before
none_of : (k : Bytes) (o : Object) (os : List Object) → before k o.key ≡ true → list_all (object_before o) os ≡ true → list_any (same k) (keys os) ≡ false
none_of k o [] lt all = refl
none_of k o (p ∷ os) lt all =
    let parts = both_of (object_before o p) (list_all (object_before o) os) all in
    rw (other_before k p.key (behind_next k o p lt parts.0)) (none_of k o os lt parts.1)

-- an object before another of the same key stands next to one
key_goes_on : (o p : Object) (os : List Object) → object_before o p ≡ true → list_all (object_before p) os ≡ true → list_any (same o.key) (keys (p ∷ os)) ≡ true → o.key ≡ p.key
key_goes_on o p os next all any = by (before o.key p.key) refl
  where
    by : (b : Bool) → before o.key p.key ≡ b → o.key ≡ p.key
    by true e =
        let none : list_any (same o.key) (keys (p ∷ os)) ≡ false = rw (other_before o.key p.key e) (none_of o.key p os e all) in
        absurd (let both : true ≡ false = sym any ∙ none in cc)
    by false e = same_equal o.key p.key (let tied : same o.key p.key ≡ true = grind arith in tied)

-- the first of the keys of objects is that of the first of them
head_key : (o : Object) (os : List Object) → are_objects (o ∷ os) ≡ true → (ks : List Bytes) × (distinct (keys (o ∷ os)) ≡ o.key ∷ ks)
head_key o [] asc = ([], refl)
head_key o (p ∷ os) asc = by (list_any (same o.key) (keys (p ∷ os))) refl (head_key p os parts.1)
  where
    parts : (list_all (object_before o) (p ∷ os) ≡ true) × (are_objects (p ∷ os) ≡ true)
    parts = both_of (list_all (object_before o) (p ∷ os)) (are_objects (p ∷ os)) asc

    by : (b : Bool) → list_any (same o.key) (keys (p ∷ os)) ≡ b → ((ks : List Bytes) × (distinct (keys (p ∷ os)) ≡ p.key ∷ ks))
        → (ks : List Bytes) × (distinct (keys (o ∷ p ∷ os)) ≡ o.key ∷ ks)
    by true e ih =
        let next = both_of (object_before o p) (list_all (object_before o) os) parts.0 in
        let rest = both_of (list_all (object_before p) os) (are_objects os) parts.1 in
        let same_key = key_goes_on o p os next.0 rest.0 e in
        (ih.0, rw e (ih.1 ∙ ap (λ (k : Bytes). k ∷ ih.0) (sym same_key)))
    by false e ih = (distinct (keys (p ∷ os)), rw e refl)

find_passes : {A : Type 0} (q : A → Bool) (xs : List A) (x : A) → find q xs ≡ Some x → q x ≡ true
find_passes q [] x is = absurd (cc)
find_passes q (y ∷ ys) x is = by (q y) refl (find_passes q ys x)
  where
    by : (b : Bool) → q y ≡ b → (find q ys ≡ Some x → q x ≡ true) → q x ≡ true
    by true t ih = let it : y ≡ x = cc (rw t at is) in ap q (sym it) ∙ t
    by false t ih = ih (rw t at is)

-- the key that passes first is that of the first object whose key passes
find_key : (q : Bytes → Bool) (os : List Object) (k : Bytes) → are_objects os ≡ true → find q (distinct (keys os)) ≡ Some k → find (λ o. q o.key) os ≡ find (has_key k) os
find_key q [] k asc is = absurd (cc)
find_key q (o ∷ os) k asc is = by (q o.key) refl (find_key q os k parts.1) (find_passes q (distinct (keys (o ∷ os))) k is)
  where
    parts : (list_all (object_before o) os ≡ true) × (are_objects os ≡ true)
    parts = both_of (list_all (object_before o) os) (are_objects os) asc

    other : (b : Bool) → same o.key k ≡ b → q o.key ≡ false → q k ≡ true → same o.key k ≡ false
    other true e t passes = absurd (let both : true ≡ false = sym passes ∙ ap q (sym (same_equal o.key k e)) ∙ t in cc)
    other false e t passes = e

    by_next : (b : Bool) → list_any (same o.key) (keys os) ≡ b → q o.key ≡ false → find q (distinct (keys os)) ≡ Some k
    by_next true e t = rw e at is
    by_next false e t = rw (e, t) at is

    by : (b : Bool) → q o.key ≡ b → (find q (distinct (keys os)) ≡ Some k → find (λ p. q p.key) os ≡ find (has_key k) os) → q k ≡ true
        → find (λ p. q p.key) (o ∷ os) ≡ find (has_key k) (o ∷ os)
    by true t ih passes =
        let head = head_key o os asc in
        let first : find q (o.key ∷ head.0) ≡ Some k = subst (λ (ks : List Bytes). find q ks ≡ Some k) head.1 is in
        let it : o.key ≡ k = cc (rw t at first) in
        let tied : same o.key k ≡ true = subst (λ (n : Bytes). same o.key n ≡ true) it (same_refl o.key) in
        rw (t, tied) refl
    by false t ih passes = rw (t, other (same o.key k) refl t passes) (ih (by_next (list_any (same o.key) (keys os)) refl t))

find_no_key : (q : Bytes → Bool) (os : List Object) → are_objects os ≡ true → find q (distinct (keys os)) ≡ None → find (λ o. q o.key) os ≡ None
find_no_key q [] asc is = refl
find_no_key q (o ∷ os) asc is = by (q o.key) refl (find_no_key q os parts.1)
  where
    parts : (list_all (object_before o) os ≡ true) × (are_objects os ≡ true)
    parts = both_of (list_all (object_before o) os) (are_objects os) asc

    by_next : (b : Bool) → list_any (same o.key) (keys os) ≡ b → q o.key ≡ false → find q (distinct (keys os)) ≡ None
    by_next true e t = rw e at is
    by_next false e t = rw (e, t) at is

    by : (b : Bool) → q o.key ≡ b → (find q (distinct (keys os)) ≡ None → find (λ p. q p.key) os ≡ None) → find (λ p. q p.key) (o ∷ os) ≡ None
    by true t ih =
        let head = head_key o os asc in
        let first : find q (o.key ∷ head.0) ≡ None = subst (λ (ks : List Bytes). find q ks ≡ None) head.1 is in
        absurd (let some : Some o.key ≡ None = rw t at first in cc)
    by false t ih = rw t (ih (by_next (list_any (same o.key) (keys os)) refl t))

-- so what is found among the keys that have objects is found among the objects
pub next_found : (q : Bytes → Bool) (es : List Entry) (os : List Object) (e : Entry) → are_objects os ≡ true → distinct (keys os) ≡ map (λ f. f.key) (filter has_objects es)
    → find (λ f. has_objects f && q f.key) es ≡ Some e → find (λ o. q o.key) os ≡ find (has_key e.key) os
next_found q es os e asc is found = find_key q os e.key asc (ap (find q) is ∙ find_held q es e found)

pub none_found : (q : Bytes → Bool) (es : List Entry) (os : List Object) → are_objects os ≡ true → distinct (keys os) ≡ map (λ f. f.key) (filter has_objects es)
    → find (λ f. has_objects f && q f.key) es ≡ None → find (λ o. q o.key) os ≡ None
none_found q es os asc is found = find_no_key q os asc (ap (find q) is ∙ find_no_held q es found)

-- a key that has objects is one of an object

any_distinct : (p : Bytes → Bool) (ks : List Bytes) → list_any p (distinct ks) ≡ true → list_any p ks ≡ true
any_distinct p [] any = any
any_distinct p (k ∷ ks) any = by (list_any (same k) ks) refl (any_distinct p ks)
  where
    or_true : (a b : Bool) → b ≡ true → (a || b) ≡ true
    or_true true b e = refl
    or_true false b e = e

    either : (a : Bool) → p k ≡ a → (list_any p (distinct ks) ≡ true → list_any p ks ≡ true) → (p k || list_any p (distinct ks)) ≡ true → (p k || list_any p ks) ≡ true
    either true e ih here = rw e refl
    either false e ih here = rw e (ih (rw e at here))

    by : (b : Bool) → list_any (same k) ks ≡ b → (list_any p (distinct ks) ≡ true → list_any p ks ≡ true) → (p k || list_any p ks) ≡ true
    by true e ih = or_true (p k) (list_any p ks) (ih (rw e at any))
    by false e ih = either (p k) refl ih (rw e at any)

any_held : (es : List Entry) (at : ℕ) (e : Entry) → slice_get es at ≡ Some e → has_objects e ≡ true → list_any (same e.key) (map (λ f. f.key) (filter has_objects es)) ≡ true
any_held [] at e is h = absurd (cc)
any_held (f ∷ es) zero e is h =
    let it : f ≡ e = cc in
    let here : has_objects f ≡ true = ap has_objects it ∙ h in
    let tied : same e.key f.key ≡ true = subst (λ (g : Entry). same g.key f.key ≡ true) it (same_refl f.key) in
    rw (here, tied) refl
any_held (f ∷ es) (suc at) e is h = by (has_objects f) refl (any_held es at e is h)
  where
    or_true : (a b : Bool) → b ≡ true → (a || b) ≡ true
    or_true true b q = refl
    or_true false b q = q

    by : (b : Bool) → has_objects f ≡ b → list_any (same e.key) (map (λ g. g.key) (filter has_objects es)) ≡ true
        → list_any (same e.key) (map (λ g. g.key) (filter has_objects (f ∷ es))) ≡ true
    by true g ih = rw g (or_true (same e.key f.key) (list_any (same e.key) (map (λ g. g.key) (filter has_objects es))) ih)
    by false g ih = rw g ih

any_filter : (k : Bytes) (os : List Object) → list_any (same k) (keys os) ≡ true → 0 < length (filter (has_key k) os)
any_filter k [] any = absurd (cc)
any_filter k (o ∷ os) any = by (same o.key k) refl (any_filter k os)
  where
    by : (b : Bool) → same o.key k ≡ b → (list_any (same k) (keys os) ≡ true → 0 < length (filter (has_key k) os)) → 0 < length (filter (has_key k) (o ∷ os))
    by true e ih = rw e (omega arith)
    by false e ih = rw e (ih (split (same k o.key) refl))
      where
        split : (a : Bool) → same k o.key ≡ a → list_any (same k) (keys os) ≡ true
        split true t = absurd (let both : true ≡ false = sym (same_refl o.key) ∙ subst (λ (n : Bytes). same o.key n ≡ false) (same_equal k o.key t) e in cc)
        split false t = rw t at any

pub has_first : (es : List Entry) (os : List Object) (at : ℕ) (e : Entry) → distinct (keys os) ≡ map (λ f. f.key) (filter has_objects es) → slice_get es at ≡ Some e
    → has_objects e ≡ true → 0 < length (filter (has_key e.key) os)
has_first es os at e is there h = any_filter e.key os (any_distinct (same e.key) (keys os) (subst (λ (ks : List Bytes). list_any (same e.key) ks ≡ true) (sym is) (any_held es at e there h)))

pub first_is : {A : Type 0} (p : A → Bool) (xs : List A) → slice_get (filter p xs) 0 ≡ find p xs
first_is p [] = refl
first_is p (x ∷ xs) = by (p x) refl (first_is p xs)
  where
    by : (b : Bool) → p x ≡ b → slice_get (filter p xs) 0 ≡ find p xs → slice_get (filter p (x ∷ xs)) 0 ≡ find p (x ∷ xs)
    by true e ih = rw e refl
    by false e ih = rw e ih

-- the key at a place was read, and its objects
module _ (es : List Entry) (at : ℕ) (within : at < length es) (held : IfSome (slice_get es at) (λ e. has_objects e ≡ true))
    (k : Bytes) (read : IfSome (slice_get es at) (λ e. k ≡ e.key)) where
  here : (e : Entry) × (slice_get es at ≡ Some e)
  here = item_at es at within

  is_key : k ≡ here.0.key
  is_key = got (λ e. k ≡ e.key) es at here.0 here.1 read

  pub key_has_some : distinct (keys (objects_in es)) ≡ map (λ f. f.key) (filter has_objects es) → 0 < length (filter (has_key k) (objects_in es))
  key_has_some is =
      subst (λ (n : Bytes). 0 < length (filter (has_key n) (objects_in es))) (sym is_key)
      (has_first es (objects_in es) at here.0 is here.1 (got (λ e. has_objects e ≡ true) es at here.0 here.1 held))

  pub first_read : (own : List Object) (o : Object) → own ≡ filter (has_key k) (objects_in es) → slice_get own 0 ≡ Some o → IsFirstOf es at o
  first_read own o is got_it = record {
    entry = here.0;
    stands = here.1;
    first = subst (λ (n : Bytes). find (has_key n) (objects_in es) ≡ Some o) is_key
        (sym (first_is (has_key k) (objects_in es)) ∙ ap (λ (l : List Object). slice_get l 0) (sym is) ∙ got_it);
  }

held_both : (q : Bytes → Bool) (e : Entry) → (has_objects e && q e.key) ≡ true → has_objects e ≡ true
held_both q e both = (both_of (has_objects e) (q e.key) both).0

-- a key that is found has objects
pub place_held : (q : Bytes → Bool) (es : List Entry) (at : ℕ) → slice_get es at ≡ find (λ e. has_objects e && q e.key) es → IfSome (slice_get es at) (λ e. has_objects e ≡ true)
place_held q es at place = by (find (λ e. has_objects e && q e.key) es) refl
  where
    by : (r : Option Entry) → find (λ e. has_objects e && q e.key) es ≡ r → IfSome (slice_get es at) (λ e. has_objects e ≡ true)
    by None is = subst (λ (o : Option Entry). IfSome o (λ e. has_objects e ≡ true)) (sym (place ∙ is)) tt
    by (Some e) is = subst (λ (o : Option Entry). IfSome o (λ f. has_objects f ≡ true)) (sym (place ∙ is)) (held_both q e (find_passes (λ f. has_objects f && q f.key) es e is))

-- and its first object is the first of those of such keys
pub first_next : (q : Bytes → Bool) (es : List Entry) (at : ℕ) (r : Option Object) → are_objects (objects_in es) ≡ true
    → distinct (keys (objects_in es)) ≡ map (λ f. f.key) (filter has_objects es) → slice_get es at ≡ find (λ e. has_objects e && q e.key) es → FirstOf es at r
    → r ≡ find (λ o. q o.key) (objects_in es)
first_next q es at None asc is place first = sym (none_found q es (objects_in es) asc is (sym place ∙ first))
first_next q es at (Some o) asc is place first = sym (next_found q es (objects_in es) first.entry asc is (sym place ∙ first.stands) ∙ first.first)

-- the object behind a key and an id

none_left : (k : Bytes) (o : Object) (os : List Object) → before k o.key ≡ true → list_all (object_before o) os ≡ true → filter (has_key k) (o ∷ os) ≡ []
none_left k o os lt all = rw (other_behind o.key k lt) (none os all)
  where
    none : (ps : List Object) → list_all (object_before o) ps ≡ true → filter (has_key k) ps ≡ []
    none [] a = refl
    none (p ∷ ps) a =
        let parts = both_of (object_before o p) (list_all (object_before o) ps) a in
        rw (other_behind p.key k (behind_next k o p lt parts.0)) (none ps parts.1)

module _ (key id : Bytes) where
  -- the first behind it, of its key or of one behind that one
  pub behind_found : (os : List Object) (o : Object) → are_objects os ≡ true → find (has_id_behind id) (filter (has_key key) os) ≡ Some o → find (is_behind key id) os ≡ Some o
  behind_found [] o asc is = absurd (cc)
  behind_found (p ∷ os) o asc is = by (before key p.key) refl (same p.key key) refl (before id p.id) refl (behind_found os o parts.1)
    where
      parts : (list_all (object_before p) os ≡ true) × (are_objects os ≡ true)
      parts = both_of (list_all (object_before p) os) (are_objects os) asc

      turned : same p.key key ≡ true → same key p.key ≡ true
      turned e = subst (λ (n : Bytes). same key n ≡ true) (sym (same_equal p.key key e)) (same_refl key)

      apart : (b : Bool) → same key p.key ≡ b → same p.key key ≡ false → same key p.key ≡ false
      apart true e f = absurd (let both : true ≡ false = sym (same_refl p.key) ∙ subst (λ (n : Bytes). same p.key n ≡ false) (same_equal key p.key e) f in cc)
      apart false e f = e

      by : (a : Bool) → before key p.key ≡ a → (b : Bool) → same p.key key ≡ b → (c : Bool) → before id p.id ≡ c
          → (find (has_id_behind id) (filter (has_key key) os) ≡ Some o → find (is_behind key id) os ≡ Some o)
          → find (is_behind key id) (p ∷ os) ≡ Some o
      by true e b f c g ih = absurd (let none : None ≡ Some o = subst (λ (l : List Object). find (has_id_behind id) l ≡ Some o) (none_left key p os e parts.0) is in cc)
      by false e true f true g ih = rw (e, turned f, g) (rw (f, g) at is)
      by false e true f false g ih = rw (e, turned f, g) (ih (rw (f, g) at is))
      by false e false f c g ih = rw (e, apart (same key p.key) refl f) (ih (rw f at is))

  pub behind_next_key : (os : List Object) → are_objects os ≡ true → find (has_id_behind id) (filter (has_key key) os) ≡ None
      → find (is_behind key id) os ≡ find (λ o. before key o.key) os
  behind_next_key [] asc is = refl
  behind_next_key (p ∷ os) asc is = by (before key p.key) refl (same p.key key) refl (before id p.id) refl (behind_next_key os parts.1)
    where
      parts : (list_all (object_before p) os ≡ true) × (are_objects os ≡ true)
      parts = both_of (list_all (object_before p) os) (are_objects os) asc

      apart : (b : Bool) → same key p.key ≡ b → same p.key key ≡ false → same key p.key ≡ false
      apart true e f = absurd (let both : true ≡ false = sym (same_refl p.key) ∙ subst (λ (n : Bytes). same p.key n ≡ false) (same_equal key p.key e) f in cc)
      apart false e f = e

      turned : same p.key key ≡ true → same key p.key ≡ true
      turned e = subst (λ (n : Bytes). same key n ≡ true) (sym (same_equal p.key key e)) (same_refl key)

      by : (a : Bool) → before key p.key ≡ a → (b : Bool) → same p.key key ≡ b → (c : Bool) → before id p.id ≡ c
          → (find (has_id_behind id) (filter (has_key key) os) ≡ None → find (is_behind key id) os ≡ find (λ o. before key o.key) os)
          → find (is_behind key id) (p ∷ os) ≡ find (λ o. before key o.key) (p ∷ os)
      by true e b f c g ih = rw e refl
      by false e true f true g ih = absurd (let some : Some p ≡ None = rw (f, g) at is in cc)
      by false e true f false g ih = rw (e, turned f, g) (ih (rw (f, g) at is))
      by false e false f c g ih = rw (e, apart (same key p.key) refl f) (ih (rw f at is))
