-- What is found of a key and an id, and what stands there after a change of one entry.
use Rattle.std.proofs.Common.{◌≡◌, ◌+◌, ◌≤◌, ℕ, suc, false, not, sym, ap, ◌∙◌, List, [], ◌++◌, length, take, drop, arith, length-append}
use Rattle.std.specs.Prelude.{None, filter, find}
use Rattle.std.specs.List.{list_any, slice_set, remove}
use Rattle.byte_text.specs.Names.{Bytes}
use Rattle.ordered_lists.specs.Lists.{put_in}
use Rattle.world_data.specs.Worlds.{object_before, is_at, has_key}
use Rattle.world_data.specs.declared.objects.Object.{Object}
use Rattle.collection.specs.Objects.{id_before, has_id}
use Rattle.keyspace.specs.Entries.{Entry, objects_in}
use Rattle.keyspace.proofs.Parts.{found, any_found, of_key, left_others, left, put}
use Rattle.keyspace.proofs.Keys.{Stands, Lacks, changed, taken_away}

module _ (key : Bytes) (xs : List Entry) (at : ℕ) (e : Entry) (s : Stands key xs at e) where
  pub found_in : (id : Bytes) → find (is_at key id) (objects_in xs) ≡ find (has_id id) e.objects
  found_in id = ap (find (is_at key id)) s.whole ∙ found key _ _ _ s.apart id

  pub any_in : (id : Bytes) → list_any (is_at key id) (objects_in xs) ≡ list_any (has_id id) e.objects
  any_in id = ap (list_any (is_at key id)) s.whole ∙ any_found key _ _ _ s.apart id

  pub of_key_in : filter (has_key key) (objects_in xs) ≡ e.objects
  of_key_in = ap (filter (has_key key)) s.whole ∙ of_key key _ _ _ s.apart

  pub others_in : objects_in (remove xs at) ≡ filter (λ o. not (has_key key o)) (objects_in xs)
  others_in = taken_away key xs at e s ∙ sym (ap (filter (λ o. not (has_key key o))) s.whole ∙ left_others key _ _ _ s.apart)

  pub left_in : (id : Bytes) (f : Entry) → f.objects ≡ filter (λ o. not (has_id id o)) e.objects → objects_in (slice_set xs at f) ≡ filter (λ o. not (is_at key id o)) (objects_in xs)
  left_in id f is = changed key xs at e s f ∙ rw is (sym (left key _ _ _ s.apart id)) ∙ ap (filter (λ o. not (is_at key id o))) (sym s.whole)

  pub put_there : (o : Object) (f : Entry) → o.key ≡ key → f.objects ≡ put_in id_before o e.objects → objects_in (slice_set xs at f) ≡ put_in object_before o (objects_in xs)
  put_there o f k is = changed key xs at e s f ∙ rw is (sym (put key _ _ _ s.apart o k)) ∙ ap (put_in object_before o) (sym s.whole)

  pub same_objects : (f : Entry) → f.objects ≡ e.objects → objects_in (slice_set xs at f) ≡ objects_in xs
  same_objects f is = changed key xs at e s f ∙ rw is (sym s.whole)

  -- how many objects there are
  pub length_changed : (f : Entry) → length (objects_in (slice_set xs at f)) + length e.objects ≡ length (objects_in xs) + length f.objects
  length_changed f =
      let front = objects_in (take at xs) in
      let back = objects_in (drop (suc at) xs) in
      around (length (objects_in (slice_set xs at f))) (length (objects_in xs)) (length front) (length back) (length e.objects) (length f.objects)
      (ap length (changed key xs at e s f) ∙ long front f.objects back) (ap length s.whole ∙ long front e.objects back)
    where
      long : (a b c : List Object) → length (a ++ (b ++ c)) ≡ length a + (length b + length c)
      long a b c = length-append a (b ++ c) ∙ ap (λ (n : ℕ). length a + n) (length-append b c)

      around : (n m a b e' f' : ℕ) → n ≡ a + (f' + b) → m ≡ a + (e' + b) → n + e' ≡ m + f'
      around n m a b e' f' p q = omega arith

  pub length_taken : length (objects_in (remove xs at)) + length e.objects ≡ length (objects_in xs)
  length_taken =
      let front = objects_in (take at xs) in
      let back = objects_in (drop (suc at) xs) in
      around (length (objects_in (remove xs at))) (length (objects_in xs)) (length front) (length back) (length e.objects)
      (ap length (taken_away key xs at e s) ∙ length-append front back) (ap length s.whole ∙ length-append front (e.objects ++ back) ∙ ap (λ (n : ℕ). length front + n) (length-append e.objects back))
    where
      around : (n m a b e' : ℕ) → n ≡ a + b → m ≡ a + (e' + b) → n + e' ≡ m
      around n m a b e' p q = omega arith

  pub at_most_all : length e.objects ≤ length (objects_in xs)
  at_most_all = let t = length_taken in omega (arith, t)

module _ (key : Bytes) (xs : List Entry) (at : ℕ) (s : Lacks key xs at) where
  pub found_not : (id : Bytes) → find (is_at key id) (objects_in xs) ≡ None
  found_not id = ap (find (is_at key id)) s.whole ∙ found key _ _ _ s.apart id

  pub any_not : (id : Bytes) → list_any (is_at key id) (objects_in xs) ≡ false
  any_not id = ap (list_any (is_at key id)) s.whole ∙ any_found key _ _ _ s.apart id

  pub none_of_key : filter (has_key key) (objects_in xs) ≡ []
  none_of_key = ap (filter (has_key key)) s.whole ∙ of_key key _ _ _ s.apart

  pub others_stay : objects_in xs ≡ filter (λ o. not (has_key key o)) (objects_in xs)
  others_stay = s.whole ∙ sym (ap (filter (λ o. not (has_key key o))) s.whole ∙ left_others key _ _ _ s.apart)

  pub all_left : (id : Bytes) → objects_in xs ≡ filter (λ o. not (is_at key id o)) (objects_in xs)
  all_left id = s.whole ∙ sym (ap (filter (λ o. not (is_at key id o))) s.whole ∙ left key _ _ _ s.apart id)
