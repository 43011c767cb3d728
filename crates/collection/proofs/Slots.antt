-- A list of keys of objects in slots: an edit of the keys and their slots is an edit of the objects.
use Rattle.std.proofs.Common.{◌≡◌, ◌≢◌, ◌<◌, ◌+◌, ℕ, zero, suc, Bool, true, false, refl, sym, ap, ◌∙◌, subst, List, [], ◌∷◌, ◌++◌, length, take, drop, get_or, arith}
use Rattle.std.specs.Prelude.{Option, Some, None, is_some, IsSome, nat_eq, not, ◌&&◌, ◌||◌, slice_get}
use Rattle.std.specs.List.{list_all, list_any, insert, remove, slice_set}
use Rattle.std.proofs.lemmas.Option.{slice_get-get_or}
use Rattle.std.proofs.lemmas.List.{take-append-drop, drop-drop}
use Rattle.std.proofs.lemmas.List.Elements.{filter_map-append}
use Rattle.byte_text.specs.Names.{Bytes, before}
use Rattle.byte_text.specs.ByteOrder.{before_trans}
use Rattle.ordered_lists.specs.Lists.{ascends}
use Rattle.ordered_lists.specs.Reading.{both_of}
use Rattle.ordered_lists.specs.Ascending.{ascends-remove}
use Rattle.ordered_lists.specs.Slots.{Stores, are_other, as_many, free_slot, others_apart, read_off, stored_set}
use Rattle.ordered_lists.specs.Slots.{apart_insert as put_apart, stored_at as item_at, stored_insert as stored_with, stored_remove as stored_without, has_one as has_item}
use Rattle.run_list.specs.Runs.{is_cut}
use Rattle.collection.specs.Objects.{id_before, are_by_id}
use Rattle.world_data.specs.declared.objects.Object.{Object}
use Rattle.collection.specs.Slotted.{objects_at, are_stored, are_apart, AreSlotted, stands_before}

pub some_of : (o : Option Object) → is_some o ≡ true → (x : Object) × (o ≡ Some x)
some_of None e = absurd (cc)
some_of (Some x) e = (x, refl)

not_true : (b : Bool) → not b ≡ true → b ≡ false
not_true b e = grind arith

is_not : (b : Bool) → b ≡ false → not b ≡ true
is_not b e = grind arith

both : (a b : Bool) → a ≡ true → b ≡ true → (a && b) ≡ true
both a b p q = grind arith

-- keys that each have an object store their objects

stores : (f : ℕ → Option Object) (ks : List ℕ) → are_stored f ks ≡ true → Stores f ks (objects_at f ks)
stores f [] all = refl
stores f (k ∷ ks) all =
    let p = both_of (is_some (f k)) (are_stored f ks) all in
    let x = some_of (f k) p.0 in
    rw x.1 (ap (λ (l : List (Option Object)). Some x.0 ∷ l) (stores f ks p.1))

all_stored : (f : ℕ → Option Object) (ks : List ℕ) (xs : List Object) → Stores f ks xs → are_stored f ks ≡ true
all_stored f [] xs e = refl
all_stored f (k ∷ ks) [] e = absurd (cc)
all_stored f (k ∷ ks) (x ∷ xs) e =
    let here : f k ≡ Some x = cc in
    let rest : Stores f ks xs = cc in
    rw here (all_stored f ks xs rest)

-- keys of which none stands twice are each other than those behind it

neither_of : (a b : Bool) → not (a || b) ≡ (not a && not b)
neither_of true b = refl
neither_of false b = refl

none_is : (key : ℕ) (ks : List ℕ) → not (list_any (nat_eq key) ks) ≡ list_all (are_other key) ks
none_is key [] = refl
none_is key (k ∷ ks) = neither_of (nat_eq key k) (list_any (nat_eq key) ks) ∙ ap (λ (b : Bool). are_other key k && b) (none_is key ks)

each_other : (ks : List ℕ) → are_apart ks ≡ ascends are_other ks
each_other [] = refl
each_other (k ∷ ks) = ap (λ (b : Bool). b && are_apart ks) (none_is k ks) ∙ ap (λ (b : Bool). list_all (are_other k) ks && b) (each_other ks)

pub free_key : (f : ℕ → Option Object) (key : ℕ) (ks : List ℕ) → f key ≡ None → are_stored f ks ≡ true → list_any (nat_eq key) ks ≡ false
free_key f key ks none all = not_true (list_any (nat_eq key) ks) (none_is key ks ∙ free_slot f key ks (objects_at f ks) none (stores f ks all))

pub length_at : (f : ℕ → Option Object) (ks : List ℕ) → are_stored f ks ≡ true → length (objects_at f ks) ≡ length ks
length_at f ks all = sym (as_many f ks (objects_at f ks) (stores f ks all))

pub get_at : (f : ℕ → Option Object) (ks : List ℕ) (i d : ℕ) → i < length ks → are_stored f ks ≡ true → slice_get (objects_at f ks) i ≡ f (get_or ks i d)
get_at f ks i d lt all = sym (item_at f ks (objects_at f ks) i (get_or ks i d) (stores f ks all) (slice_get-get_or ks i d lt))

pub stored_at : (f : ℕ → Option Object) (ks : List ℕ) (i d : ℕ) → i < length ks → are_stored f ks ≡ true → is_some (f (get_or ks i d)) ≡ true
stored_at f ks i d lt all = has_item f ks (objects_at f ks) i d (stores f ks all) lt

-- the key that was read at a place stands there
there : (ks : List ℕ) (i d key : ℕ) → i < length ks → key ≡ get_or ks i d → slice_get ks i ≡ Some key
there ks i d key lt is = slice_get-get_or ks i d lt ∙ ap Some (sym is)

module _ (f g : ℕ → Option Object) (key : ℕ) (others : (other : ℕ) → other ≢ key → g other ≡ f other) where
  -- a new key at a place
  stores_insert : (x : Object) (ks : List ℕ) (i : ℕ) → are_stored f ks ≡ true → list_any (nat_eq key) ks ≡ false → g key ≡ Some x → Stores g (insert ks i key) (insert (objects_at f ks) i x)
  stores_insert x ks i all none new =
      let other = sym (none_is key ks) ∙ is_not (list_any (nat_eq key) ks) none in
      stored_with f g key others ks (objects_at f ks) i x (stores f ks all) other new

  pub insert_at : (x : Object) (ks : List ℕ) (i : ℕ) → are_stored f ks ≡ true → list_any (nat_eq key) ks ≡ false → g key ≡ Some x → objects_at g (insert ks i key) ≡ insert (objects_at f ks) i x
  insert_at x ks i all none new = read_off g (insert ks i key) (insert (objects_at f ks) i x) (stores_insert x ks i all none new)

  -- a key that is taken out
  stores_remove : (ks : List ℕ) (i d : ℕ) → are_stored f ks ≡ true → are_apart ks ≡ true → i < length ks → key ≡ get_or ks i d → Stores g (remove ks i) (remove (objects_at f ks) i)
  stores_remove ks i d all apart lt is =
      stored_without f g key others ks (objects_at f ks) i (stores f ks all) (others_apart ks i key (there ks i d key lt is) (sym (each_other ks) ∙ apart))

  pub remove_at : (ks : List ℕ) (i d : ℕ) → are_stored f ks ≡ true → are_apart ks ≡ true → i < length ks → key ≡ get_or ks i d → objects_at g (remove ks i) ≡ remove (objects_at f ks) i
  remove_at ks i d all apart lt is = read_off g (remove ks i) (remove (objects_at f ks) i) (stores_remove ks i d all apart lt is)

  -- a key that has another object
  stores_set : (x : Object) (ks : List ℕ) (i d : ℕ) → are_stored f ks ≡ true → are_apart ks ≡ true → i < length ks → key ≡ get_or ks i d → g key ≡ Some x → Stores g ks (slice_set (objects_at f ks) i x)
  stores_set x ks i d all apart lt is new = stored_set f g key others ks (objects_at f ks) i x (stores f ks all) (sym (each_other ks) ∙ apart) (there ks i d key lt is) new

  pub set_at : (x : Object) (ks : List ℕ) (i d : ℕ) → are_stored f ks ≡ true → are_apart ks ≡ true → i < length ks → key ≡ get_or ks i d → g key ≡ Some x → objects_at g ks ≡ slice_set (objects_at f ks) i x
  set_at x ks i d all apart lt is new = read_off g ks (slice_set (objects_at f ks) i x) (stores_set x ks i d all apart lt is new)

  module _ (ks : List ℕ) (s : AreSlotted f ks) where
    pub slotted_insert : (x : Object) (i : ℕ) → f key ≡ None → g key ≡ Some x → AreSlotted g (insert ks i key)
    slotted_insert x i free new =
        let none = free_key f key ks free s.stored in
        record {
          stored = all_stored g (insert ks i key) (insert (objects_at f ks) i x) (stores_insert x ks i s.stored none new);
          apart = each_other (insert ks i key) ∙ put_apart ks i key (sym (each_other ks) ∙ s.apart) (free_slot f key ks (objects_at f ks) free (stores f ks s.stored));
        }

    pub slotted_remove : (i d : ℕ) → i < length ks → key ≡ get_or ks i d → AreSlotted g (remove ks i)
    slotted_remove i d lt is =
        record {
          stored = all_stored g (remove ks i) (remove (objects_at f ks) i) (stores_remove ks i d s.stored s.apart lt is);
          apart = each_other (remove ks i) ∙ ascends-remove are_other ks i (sym (each_other ks) ∙ s.apart);
        }

    pub slotted_set : (x : Object) (i d : ℕ) → i < length ks → key ≡ get_or ks i d → g key ≡ Some x → AreSlotted g ks
    slotted_set x i d lt is new =
        record { stored = all_stored g ks (slice_set (objects_at f ks) i x) (stores_set x ks i d s.stored s.apart lt is new); apart = s.apart }

pub gone : (o : Option Object) → o ≡ None → is_some o ≡ true → ⊥
gone None e some = cc
gone (Some x) e some = cc

pub has_one : (f : ℕ → Option Object) (key : ℕ) → is_some (f key) ≡ true → IsSome (f key)
has_one f key some = some

pub within_keys : (f : ℕ → Option Object) (ks : List ℕ) (i : ℕ) → are_stored f ks ≡ true → i < length (objects_at f ks) → i < length ks
within_keys f ks i all lt = subst (λ (n : ℕ). i < n) (length_at f ks all) lt

later : (a b c : Bytes) (t : Bool) → before b c ≡ t → before a b ≡ true → before a c ≡ false → t ≡ false
later a b c false e ab ac = refl
later a b c true e ab ac = let ac' = before_trans a b c ab e in absurd (cc)

module _ (f : ℕ → Option Object) (id : Bytes) where
  none_before : (o : Object) (ks : List ℕ) → are_stored f ks ≡ true → before o.id id ≡ false → list_all (id_before o) (objects_at f ks) ≡ true → list_all (λ k. not (stands_before id (f k))) ks ≡ true
  none_before o [] all here behind = refl
  none_before o (k ∷ ks) all here behind =
      let q = both_of (is_some (f k)) (are_stored f ks) all in
      let y = some_of (f k) q.0 in
      let p = both_of (id_before o y.0) (list_all (id_before o) (objects_at f ks)) (rw y.1 at behind) in
      let this : not (stands_before id (f k)) ≡ true = rw y.1 (is_not (before y.0.id id) (later o.id y.0.id id (before y.0.id id) refl p.0 here)) in
      both (not (stands_before id (f k))) (list_all (λ k. not (stands_before id (f k))) ks) this (none_before o ks q.1 here p.1)

  -- those that stand before an id are in front
  pub cut_by_id : (ks : List ℕ) → are_stored f ks ≡ true → are_by_id (objects_at f ks) ≡ true → is_cut (λ k. stands_before id (f k)) ks ≡ true
  cut_by_id [] all asc = refl
  cut_by_id (k ∷ ks) all asc =
      let q = both_of (is_some (f k)) (are_stored f ks) all in
      let y = some_of (f k) q.0 in
      let p = both_of (list_all (id_before y.0) (objects_at f ks)) (are_by_id (objects_at f ks)) (rw y.1 at asc) in
      chosen (stands_before id (f k)) k ks refl (cut_by_id ks q.1 p.1) (λ e. none_before y.0 ks q.1 (sym (ap (stands_before id) y.1) ∙ e) p.0)
    where
      chosen : (b : Bool) (k : ℕ) (ks : List ℕ) → stands_before id (f k) ≡ b → is_cut (λ k. stands_before id (f k)) ks ≡ true → (stands_before id (f k) ≡ false → list_all (λ k. not (stands_before id (f k))) ks ≡ true) → is_cut (λ k. stands_before id (f k)) (k ∷ ks) ≡ true
      chosen true k ks e more none = rw e more
      chosen false k ks e more none = rw e (none e)

  pub front_at : (ks : List ℕ) (n : ℕ) → are_stored f ks ≡ true → list_all (λ k. stands_before id (f k)) (take n ks) ≡ true → list_all (λ o. before o.id id) (take n (objects_at f ks)) ≡ true
  front_at [] zero all front = refl
  front_at [] (suc n) all front = refl
  front_at (k ∷ ks) zero all front = refl
  front_at (k ∷ ks) (suc n) all front =
      let q = both_of (is_some (f k)) (are_stored f ks) all in
      let y = some_of (f k) q.0 in
      let p = both_of (stands_before id (f k)) (list_all (λ k. stands_before id (f k)) (take n ks)) front in
      let here : before y.0.id id ≡ true = sym (ap (stands_before id) y.1) ∙ p.0 in
      rw y.1 (both (before y.0.id id) (list_all (λ o. before o.id id) (take n (objects_at f ks))) here (front_at ks n q.1 p.1))

  pub behind_at : (ks : List ℕ) (n : ℕ) → are_stored f ks ≡ true → list_all (λ k. not (stands_before id (f k))) (drop n ks) ≡ true → list_all (λ o. not (before o.id id)) (drop n (objects_at f ks)) ≡ true
  behind_at [] zero all behind = refl
  behind_at [] (suc n) all behind = refl
  behind_at (k ∷ ks) zero all behind =
      let q = both_of (is_some (f k)) (are_stored f ks) all in
      let y = some_of (f k) q.0 in
      let p = both_of (not (stands_before id (f k))) (list_all (λ k. not (stands_before id (f k))) ks) behind in
      let here : not (before y.0.id id) ≡ true = sym (ap (λ (o : Option Object). not (stands_before id o)) y.1) ∙ p.0 in
      rw y.1 (both (not (before y.0.id id)) (list_all (λ o. not (before o.id id)) (objects_at f ks)) here (behind_at ks zero q.1 p.1))
  behind_at (k ∷ ks) (suc n) all behind =
      let q = both_of (is_some (f k)) (are_stored f ks) all in
      rw (some_of (f k) q.0).1 (behind_at ks n q.1 behind)

pub first_behind : (q : Object → Bool) (xs : List Object) (i : ℕ) (x : Object) → slice_get xs i ≡ Some x → list_all (λ o. not (q o)) (drop i xs) ≡ true → q x ≡ false
first_behind q [] i x is behind = absurd (cc)
first_behind q (y ∷ xs) zero x is behind =
    let s : y ≡ x = cc in
    ap q (sym s) ∙ not_true (q y) (both_of (not (q y)) (list_all (λ o. not (q o)) xs) behind).0
first_behind q (y ∷ xs) (suc i) x is behind = first_behind q xs i x is behind

-- the objects of a run of keys, and of those behind it
pub run_and_rest : (f : ℕ → Option Object) (ks run : List ℕ) (i : ℕ) → run ≡ take (length run) (drop i ks) → objects_at f (drop i ks) ≡ objects_at f run ++ objects_at f (drop (i + length run) ks)
run_and_rest f ks run i is =
    ap (objects_at f) (sym (take-append-drop (length run) (drop i ks)))
    ∙ filter_map-append f (take (length run) (drop i ks)) (drop (length run) (drop i ks))
    ∙ ap (λ (l : List ℕ). objects_at f l ++ objects_at f (drop (length run) (drop i ks))) (sym is)
    ∙ ap (λ (l : List ℕ). objects_at f run ++ objects_at f l) (drop-drop (length run) i ks)
