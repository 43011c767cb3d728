-- Entries by key: the one of a key, or the place where it would go, between those before it and those behind it.
use Rattle.std.proofs.Common.{◌≡◌, ◌<◌, ℕ, zero, suc, Bool, true, false, refl, sym, ap, subst, ◌∙◌, List, [], ◌∷◌, ◌++◌, length, take, drop, get_or}
use Rattle.std.specs.Prelude.{Option, Some, IfSome, slice_get}
use Rattle.std.specs.List.{list_all, slice_set, insert, remove}
use Rattle.std.proofs.lemmas.List.Concat.{flat_map-append}
use Rattle.byte_text.specs.Names.{Bytes, before}
use Rattle.ordered_lists.specs.Lists.{ascends, IsHeld, IsFree}
use Rattle.world_data.specs.Worlds.{has_key}
use Rattle.world_data.specs.declared.objects.Object.{Object}
use Rattle.ordered_lists.specs.Ascending.{ascends-put_in, put_in-insert, put_in-set, all_remove, ascends-remove}
use Rattle.byte_text.specs.ByteOrder.{before_trans, before_tie, before_asym, before_self, same_equal}
use Rattle.ordered_lists.specs.Reading.{all-insert, all-set, all_at, both_of, stands_at}
use Rattle.keyspace.specs.Entries.{Entry, key_before, objects_in}
use Rattle.keyspace.specs.KeyOrder.{is_entry, are_entries}
use Rattle.keyspace.proofs.Parts.{Apart, all_both}

key_trans : (e f g : Entry) → key_before e f ≡ true → key_before f g ≡ true → key_before e g ≡ true
key_trans e f g = before_trans e.key f.key g.key

key_tie : (e f g : Entry) → key_before e f ≡ false → key_before f e ≡ false → key_before f g ≡ true → key_before e g ≡ true
key_tie e f g a b c = subst (λ (n : Bytes). before n g.key ≡ true) (sym (before_tie e.key f.key a b)) c

pub key_asym : (e f : Entry) → key_before e f ≡ true → key_before f e ≡ false
key_asym e f = before_asym e.key f.key

module _ (q : Entry → Bool) (p : Object → Bool) (each : (e : Entry) → q e ≡ true → is_entry e ≡ true → list_all p e.objects ≡ true) where
  -- what each entry's objects keep to
  pub all_objects : (xs : List Entry) → list_all q xs ≡ true → list_all is_entry xs ≡ true → list_all p (objects_in xs) ≡ true
  all_objects [] a b = refl
  all_objects (x ∷ xs) a b =
      let a' = both_of (q x) (list_all q xs) a in
      let b' = both_of (is_entry x) (list_all is_entry xs) b in
      all_both p x.objects (objects_in xs) (each x a'.0 b'.0) (all_objects xs a'.1 b'.1)

key_all : (f : Bytes → Bool) (key : Bytes) (os : List Object) → f key ≡ true → list_all (has_key key) os ≡ true → list_all (λ o. f o.key) os ≡ true
key_all f key [] h all = refl
key_all f key (o ∷ os) h all =
    let p = both_of (has_key key o) (list_all (has_key key) os) all in
    rw (subst (λ (k : Bytes). f k ≡ true) (sym (same_equal o.key key p.0)) h) (key_all f key os h p.1)

own_key : (e : Entry) → is_entry e ≡ true → list_all (has_key e.key) e.objects ≡ true
own_key e s = (both_of (list_all (has_key e.key) e.objects) _ s).0

-- the objects of entries with keys before, or behind, a key
pub objects_front : (key : Bytes) (xs : List Entry) → list_all (λ e. before e.key key) xs ≡ true → list_all is_entry xs ≡ true → list_all (λ o. before o.key key) (objects_in xs) ≡ true
objects_front key = all_objects (λ e. before e.key key) (λ o. before o.key key) (λ e b s. key_all (λ k. before k key) e.key e.objects b (own_key e s))

pub objects_back : (key : Bytes) (xs : List Entry) → list_all (λ e. before key e.key) xs ≡ true → list_all is_entry xs ≡ true → list_all (λ o. before key o.key) (objects_in xs) ≡ true
objects_back key = all_objects (λ e. before key e.key) (λ o. before key o.key) (λ e b s. key_all (λ k. before key k) e.key e.objects b (own_key e s))

module _ {A : Type 0} where
  pub split_at : (xs : List A) (at : ℕ) (x : A) → slice_get xs at ≡ Some x → xs ≡ take at xs ++ x ∷ drop (suc at) xs
  split_at [] at x is = absurd (cc)
  split_at (y ∷ xs) zero x is = let s : y ≡ x = cc in ap (λ (z : A). z ∷ xs) s
  split_at (y ∷ xs) (suc at) x is = ap (λ (l : List A). y ∷ l) (split_at xs at x is)

  pub set_at : (xs : List A) (at : ℕ) (x y : A) → slice_get xs at ≡ Some x → slice_set xs at y ≡ take at xs ++ y ∷ drop (suc at) xs
  set_at [] at x y is = absurd (cc)
  set_at (z ∷ xs) zero x y is = refl
  set_at (z ∷ xs) (suc at) x y is = ap (λ (l : List A). z ∷ l) (set_at xs at x y is)

  pub halves : (xs : List A) (at : ℕ) → xs ≡ take at xs ++ drop at xs
  halves [] zero = refl
  halves [] (suc at) = refl
  halves (x ∷ xs) zero = refl
  halves (x ∷ xs) (suc at) = ap (λ (l : List A). x ∷ l) (halves xs at)

  pub all_take : (q : A → Bool) (xs : List A) (at : ℕ) → list_all q xs ≡ true → list_all q (take at xs) ≡ true
  all_take q [] zero all = refl
  all_take q [] (suc at) all = refl
  all_take q (x ∷ xs) zero all = refl
  all_take q (x ∷ xs) (suc at) all = let p = both_of (q x) (list_all q xs) all in rw (p.0, all_take q xs at p.1) refl

  pub all_drop : (q : A → Bool) (xs : List A) (at : ℕ) → list_all q xs ≡ true → list_all q (drop at xs) ≡ true
  all_drop q [] zero all = refl
  all_drop q [] (suc at) all = refl
  all_drop q (x ∷ xs) zero all = all
  all_drop q (x ∷ xs) (suc at) all = all_drop q xs at (both_of (q x) (list_all q xs) all).1

behind_one : (xs : List Entry) (at : ℕ) (e : Entry) → ascends key_before xs ≡ true → slice_get xs at ≡ Some e → list_all (key_before e) (drop (suc at) xs) ≡ true
behind_one [] at e asc is = absurd (cc)
behind_one (x ∷ xs) zero e asc is = let s : x ≡ e = cc in subst (λ (z : Entry). list_all (key_before z) xs ≡ true) s (both_of (list_all (key_before x) xs) (ascends key_before xs) asc).0
behind_one (x ∷ xs) (suc at) e asc is = behind_one xs at e (both_of (list_all (key_before x) xs) (ascends key_before xs) asc).1 is

all_behind : (key : Bytes) (x : Entry) (xs : List Entry) → before key x.key ≡ true → list_all (key_before x) xs ≡ true → list_all (λ e. before key e.key) xs ≡ true
all_behind key x [] h all = refl
all_behind key x (y ∷ xs) h all =
    let p = both_of (key_before x y) (list_all (key_before x) xs) all in
    rw (before_trans key x.key y.key h p.0, all_behind key x xs h p.1) refl

behind_place : (key : Bytes) (xs : List Entry) (at : ℕ) → ascends key_before xs ≡ true → IfSome (slice_get xs at) (λ e. before key e.key ≡ true) → list_all (λ e. before key e.key) (drop at xs) ≡ true
behind_place key [] zero asc next = refl
behind_place key [] (suc at) asc next = refl
behind_place key (x ∷ xs) zero asc next = rw next (all_behind key x xs next (both_of (list_all (key_before x) xs) (ascends key_before xs) asc).0)
behind_place key (x ∷ xs) (suc at) asc next = behind_place key xs at (both_of (list_all (key_before x) xs) (ascends key_before xs) asc).1 next

-- the entry of a key, and what there is around it
pub record Stands (key : Bytes) (xs : List Entry) (at : ℕ) (e : Entry) : Type 0 where
  pub is : slice_get xs at ≡ Some e
  pub key_is : e.key ≡ key
  pub asc : ascends key_before xs ≡ true
  pub entries : list_all is_entry xs ≡ true
  pub front_all : list_all (λ f. before f.key key) (take at xs) ≡ true
  pub back_all : list_all (λ f. before key f.key) (drop (suc at) xs) ≡ true
  pub apart : Apart key (objects_in (take at xs)) e.objects (objects_in (drop (suc at) xs))
  pub whole : objects_in xs ≡ objects_in (take at xs) ++ (e.objects ++ objects_in (drop (suc at) xs))

pub objects_around : (front : List Entry) (e : Entry) (back : List Entry) → objects_in (front ++ e ∷ back) ≡ objects_in front ++ (e.objects ++ objects_in back)
objects_around front e back = flat_map-append (λ (f : Entry). f.objects) front (e ∷ back)

-- of the entry that is read at the place where the key is held
pub stands : (key : Bytes) (xs : List Entry) (at : ℕ) (e : Entry) → are_entries xs ≡ true → IsHeld (λ f. before f.key key) (λ f. before key f.key) xs at → e ≡ get_or xs at e → Stands key xs at e
stands key xs at e sh held read =
    let is = stands_at xs at e held.within read in
    let p = both_of (ascends key_before xs) (list_all is_entry xs) sh in
    let tie = subst (λ (o : Option Entry). IfSome o (λ f. (before key f.key ≡ false) × (before f.key key ≡ false))) is held.tie in
    let k = before_tie e.key key tie.1 tie.0 in
    let back = subst (λ (n : Bytes). list_all (λ f. before n f.key) (drop (suc at) xs) ≡ true) k (behind_one xs at e p.0 is) in
    let own = subst (λ (n : Bytes). list_all (has_key n) e.objects ≡ true) k (own_key e (all_at is_entry xs at e is p.1)) in
    record {
      is = is;
      key_is = k;
      asc = p.0;
      entries = p.1;
      front_all = held.front;
      back_all = back;
      apart = record { front_all = objects_front key (take at xs) held.front (all_take is_entry xs at p.1); own_all = own; back_all = objects_back key (drop (suc at) xs) back (all_drop is_entry xs (suc at) p.1) };
      whole = ap objects_in (split_at xs at e is) ∙ objects_around (take at xs) e (drop (suc at) xs);
    }

all_before : (xs : List Entry) (at : ℕ) (e : Entry) → ascends key_before xs ≡ true → slice_get xs at ≡ Some e → list_all (λ f. before f.key e.key) (take at xs) ≡ true
all_before [] at e asc is = absurd (cc)
all_before (x ∷ xs) zero e asc is = refl
all_before (x ∷ xs) (suc at) e asc is =
    let p = both_of (list_all (key_before x) xs) (ascends key_before xs) asc in
    rw (all_at (key_before x) xs at e is p.0, all_before xs at e p.1 is) refl

pub got : {A : Type 0} (xs : List A) (at : ℕ) (x : A) → slice_get xs at ≡ Some x → x ≡ get_or xs at x
got [] at x is = absurd (cc)
got (y ∷ xs) zero x is = cc
got (y ∷ xs) (suc at) x is = got xs at x is

-- of the entry at a place
pub stands_here : (xs : List Entry) (at : ℕ) (e : Entry) → are_entries xs ≡ true → at < length xs → slice_get xs at ≡ Some e → Stands e.key xs at e
stands_here xs at e sh within is =
    let p = both_of (ascends key_before xs) (list_all is_entry xs) sh in
    let tie = subst (λ (o : Option Entry). IfSome o (λ f. (before e.key f.key ≡ false) × (before f.key e.key ≡ false))) (sym is) (before_self e.key, before_self e.key) in
    stands e.key xs at e sh (record { front = all_before xs at e p.0 is; within = within; tie = tie }) (got xs at e is)

module _ (key : Bytes) (xs : List Entry) (at : ℕ) (e : Entry) (s : Stands key xs at e) where
  pub changed : (f : Entry) → objects_in (slice_set xs at f) ≡ objects_in (take at xs) ++ (f.objects ++ objects_in (drop (suc at) xs))
  changed f = ap objects_in (set_at xs at e f s.is) ∙ objects_around (take at xs) f (drop (suc at) xs)

  pub taken_away : objects_in (remove xs at) ≡ objects_in (take at xs) ++ objects_in (drop (suc at) xs)
  taken_away = flat_map-append (λ (f : Entry). f.objects) (take at xs) (drop (suc at) xs)

  pub set_ties : (f : Entry) → f.key ≡ key → IfSome (slice_get xs at) (λ y. (key_before f y ≡ false) × (key_before y f ≡ false))
  set_ties f k = subst (λ (o : Option Entry). IfSome o (λ y. (key_before f y ≡ false) × (key_before y f ≡ false))) (sym s.is) (ties (k ∙ sym s.key_is))
    where
      ties : f.key ≡ e.key → (key_before f e ≡ false) × (key_before e f ≡ false)
      ties t = (subst (λ (n : Bytes). before n e.key ≡ false) (sym t) (before_self e.key), subst (λ (n : Bytes). before e.key n ≡ false) (sym t) (before_self e.key))

  pub set_entries : (f : Entry) → at < length xs → f.key ≡ key → is_entry f ≡ true → are_entries (slice_set xs at f) ≡ true
  set_entries f within k h =
      let front = subst (λ (n : Bytes). list_all (λ g. before g.key n) (take at xs) ≡ true) (sym k) s.front_all in
      let made = put_in-set key_before key_asym f xs at front within (set_ties f k) in
      let asc = subst (λ (l : List Entry). ascends key_before l ≡ true) made (ascends-put_in key_before key_trans key_tie f xs s.asc) in
      rw (asc, all-set is_entry xs at f s.entries h) refl

  pub entry_here : is_entry e ≡ true
  entry_here = all_at is_entry xs at e s.is s.entries

  pub left_entries : are_entries (remove xs at) ≡ true
  left_entries = rw (ascends-remove key_before xs at s.asc, all_remove is_entry xs at s.entries) refl

-- the place of a key that is not there, and what there is around it
pub record Lacks (key : Bytes) (xs : List Entry) (at : ℕ) : Type 0 where
  pub asc : ascends key_before xs ≡ true
  pub entries : list_all is_entry xs ≡ true
  pub front_all : list_all (λ f. before f.key key) (take at xs) ≡ true
  pub back_all : list_all (λ f. before key f.key) (drop at xs) ≡ true
  pub next : IfSome (slice_get xs at) (λ f. before key f.key ≡ true)
  pub apart : Apart key (objects_in (take at xs)) [] (objects_in (drop at xs))
  pub whole : objects_in xs ≡ objects_in (take at xs) ++ ([] ++ objects_in (drop at xs))

pub lacks : (key : Bytes) (xs : List Entry) (at : ℕ) → are_entries xs ≡ true → IsFree (λ f. before f.key key) (λ f. before key f.key) xs at → Lacks key xs at
lacks key xs at sh free =
    let p = both_of (ascends key_before xs) (list_all is_entry xs) sh in
    let back = behind_place key xs at p.0 free.behind in
    record {
      asc = p.0;
      entries = p.1;
      front_all = free.front;
      back_all = back;
      next = free.behind;
      apart = record { front_all = objects_front key (take at xs) free.front (all_take is_entry xs at p.1); own_all = refl; back_all = objects_back key (drop at xs) back (all_drop is_entry xs at p.1) };
      whole = ap objects_in (halves xs at) ∙ flat_map-append (λ (f : Entry). f.objects) (take at xs) (drop at xs);
    }

module _ (key : Bytes) (xs : List Entry) (at : ℕ) (s : Lacks key xs at) where
  pub added_entries : (f : Entry) → f.key ≡ key → is_entry f ≡ true → are_entries (insert xs at f) ≡ true
  added_entries f k h =
      let front = subst (λ (n : Bytes). list_all (λ g. before g.key n) (take at xs) ≡ true) (sym k) s.front_all in
      let next = subst (λ (n : Bytes). IfSome (slice_get xs at) (λ g. before n g.key ≡ true)) (sym k) s.next in
      let made = put_in-insert key_before key_asym f xs at front next in
      let asc = subst (λ (l : List Entry). ascends key_before l ≡ true) made (ascends-put_in key_before key_trans key_tie f xs s.asc) in
      rw (asc, all-insert is_entry xs at f s.entries h) refl

  pub added_objects : (f : Entry) → f.objects ≡ [] → objects_in (insert xs at f) ≡ objects_in xs
  added_objects f none = objects_around (take at xs) f (drop at xs) ∙ rw none (sym s.whole)
