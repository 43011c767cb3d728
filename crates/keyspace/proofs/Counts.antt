-- How many objects a change leaves, and that it leaves a key's objects by id.
use Rattle.std.proofs.Common.{◌≡◌, ◌+◌, ◌-◌, ◌≤◌, ℕ, Bool, true, false, not, refl, sym, ap, subst, ◌∙◌, List, [], ◌∷◌, length, arith}
use Rattle.std.specs.Prelude.{Option, Some, None, filter, find, is_some, if◌then◌else◌}
use Rattle.std.specs.List.{list_all, remove}
use mir.Val.{bool_byte}
use Rattle.byte_text.specs.Names.{Bytes, before, same}
use Rattle.ordered_lists.specs.Lists.{put_in}
use Rattle.world_data.specs.Worlds.{has_key}
use Rattle.world_data.specs.declared.objects.Object.{Object}
use Rattle.collection.specs.Objects.{id_before, has_id, are_by_id}
use Rattle.ordered_lists.specs.Ascending.{all_remove, all-put_in}
use Rattle.byte_text.specs.ByteOrder.{same_refl, other_before, other_behind}
use Rattle.ordered_lists.specs.Reading.{both_of, all-filter}
use Rattle.collection.specs.IdOrder.{tied, ties, none_behind, kept_behind, behind_first, behind_tied, put_by_id, left_by_id, removed_by_id}
use Rattle.keyspace.specs.Entries.{Entry}
use Rattle.keyspace.specs.KeyOrder.{is_entry}

length_put_case : (o x : Object) (xs : List Object) → are_by_id (x ∷ xs) ≡ true → (a b : Bool) → before o.id x.id ≡ a → before x.id o.id ≡ b
    → length (put_in id_before o xs) + (if is_some (find (has_id o.id) xs) then 1 else 0) ≡ length xs + 1
    → length (put_in id_before o (x ∷ xs)) + (if is_some (find (has_id o.id) (x ∷ xs)) then 1 else 0) ≡ length (x ∷ xs) + 1
length_put_case o x xs asc true b p q ih =
    let all = (both_of (list_all (id_before x) xs) (are_by_id xs) asc).0 in
    rw (p, other_behind x.id o.id p, none_behind o.id xs (behind_first o.id x xs p all)) (omega arith)
length_put_case o x xs asc false true p q ih = rw (p, q, other_before x.id o.id q) (omega (arith, ih))
length_put_case o x xs asc false false p q ih = rw (p, q, ties o.id x (p, q)) (omega arith)

pub length_put : (o : Object) (xs : List Object) → are_by_id xs ≡ true → length (put_in id_before o xs) + (if is_some (find (has_id o.id) xs) then 1 else 0) ≡ length xs + 1
length_put o [] asc = omega arith
length_put o (x ∷ xs) asc = length_put_case o x xs asc (before o.id x.id) (before x.id o.id) refl refl (length_put o xs (both_of (list_all (id_before x) xs) (are_by_id xs) asc).1)

length_left_case : (id : Bytes) (x : Object) (xs : List Object) → are_by_id (x ∷ xs) ≡ true → (b : Bool) → same x.id id ≡ b
    → length (filter (λ o. not (has_id id o)) xs) + (if is_some (find (has_id id) xs) then 1 else 0) ≡ length xs
    → length (filter (λ o. not (has_id id o)) (x ∷ xs)) + (if is_some (find (has_id id) (x ∷ xs)) then 1 else 0) ≡ length (x ∷ xs)
length_left_case id x xs asc true e ih =
    let all = (both_of (list_all (id_before x) xs) (are_by_id xs) asc).0 in
    rw (e, kept_behind id xs (behind_tied id x xs (tied id x e) all)) (omega arith)
length_left_case id x xs asc false e ih = rw e (omega (arith, ih))

pub length_left : (id : Bytes) (xs : List Object) → are_by_id xs ≡ true → length (filter (λ o. not (has_id id o)) xs) + (if is_some (find (has_id id) xs) then 1 else 0) ≡ length xs
length_left id [] asc = refl
length_left id (x ∷ xs) asc = length_left_case id x xs asc (same x.id id) refl (length_left id xs (both_of (list_all (id_before x) xs) (are_by_id xs) asc).1)

module _ (e f : Entry) (h : is_entry e ≡ true) (k : f.key ≡ e.key) where
  pub put_entry : (o : Object) → o.key ≡ e.key → f.objects ≡ put_in id_before o e.objects → is_entry f ≡ true
  put_entry o t is =
      let p = both_of (list_all (has_key e.key) e.objects) (are_by_id e.objects) h in
      let own : has_key e.key o ≡ true = subst (λ (n : Bytes). same n e.key ≡ true) (sym t) (same_refl e.key) in
      rw (is, k, all-put_in (has_key e.key) id_before o e.objects own p.0, put_by_id o e.objects p.1) refl

  pub left_entry : (id : Bytes) → f.objects ≡ filter (λ o. not (has_id id o)) e.objects → is_entry f ≡ true
  left_entry id is =
      let p = both_of (list_all (has_key e.key) e.objects) (are_by_id e.objects) h in
      rw (is, k, all-filter (has_key e.key) (λ o. not (has_id id o)) e.objects p.0, left_by_id id e.objects p.1) refl

  pub removed_entry : (at : ℕ) → f.objects ≡ remove e.objects at → is_entry f ≡ true
  removed_entry at is =
      let p = both_of (list_all (has_key e.key) e.objects) (are_by_id e.objects) h in
      rw (is, k, all_remove (has_key e.key) e.objects at p.0, removed_by_id e.objects at p.1) refl

  pub same_entry : f.objects ≡ e.objects → is_entry f ≡ true
  same_entry is = rw (is, k) h

-- the count after a change
pub count_put : (count r n m e f : ℕ) (t : Option Object) (b : Bool) → count ≡ m → r ≡ bool_byte b → is_some t ≡ not b → n + e ≡ m + f → f + (if is_some t then 1 else 0) ≡ e + 1 → count + r ≡ n
count_put count r n m e f None true a b c p q = rw b (omega (arith, a, p, q))
count_put count r n m e f (Some o) false a b c p q = rw b (omega (arith, a, p, q))
count_put count r n m e f None false a b c p q = absurd (cc)
count_put count r n m e f (Some o) true a b c p q = absurd (cc)

pub count_left : (count r n m e f : ℕ) (t : Option Object) → count ≡ m → r ≡ bool_byte (is_some t) → n + e ≡ m + f → f + (if is_some t then 1 else 0) ≡ e → count - r ≡ n
count_left count r n m e f None a b p q = rw b (omega (arith, a, p, q))
count_left count r n m e f (Some o) a b p q = rw b (omega (arith, a, p, q))

-- how many objects a put or a taking leaves a key
pub length_put_entry : (e f : Entry) → is_entry e ≡ true → (o : Object) (t : Option Object) → f.objects ≡ put_in id_before o e.objects → t ≡ find (has_id o.id) e.objects → length f.objects + (if is_some t then 1 else 0) ≡ length e.objects + 1
length_put_entry e f h o t is found = rw (is, found) (length_put o e.objects (both_of (list_all (has_key e.key) e.objects) (are_by_id e.objects) h).1)

pub length_left_entry : (e f : Entry) → is_entry e ≡ true → (id : Bytes) (t : Option Object) → f.objects ≡ filter (λ o. not (has_id id o)) e.objects → t ≡ find (has_id id) e.objects → length f.objects + (if is_some t then 1 else 0) ≡ length e.objects
length_left_entry e f h id t is found = rw (is, found) (length_left id e.objects (both_of (list_all (has_key e.key) e.objects) (are_by_id e.objects) h).1)

pub from_some : (r : ℕ) (b : Bool) (t : Option Object) → r ≡ bool_byte b → b ≡ is_some t → r ≡ bool_byte (is_some t)
from_some r b t p q = p ∙ ap bool_byte q

pub count_covers : (count r m e f : ℕ) (t : Option Object) → count ≡ m → r ≡ bool_byte (is_some t) → e ≤ m → f + (if is_some t then 1 else 0) ≡ e → r ≤ count
count_covers count r m e f None a b p q = rw b (omega arith)
count_covers count r m e f (Some o) a b p q = rw b (omega (arith, a, p, q))
