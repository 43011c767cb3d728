-- Objects by id: where one stands, and what is found.
use Rattle.std.proofs.Common.{◌≡◌, ℕ, zero, suc, Bool, true, false, not, refl, subst, List, [], ◌∷◌, take}
use Rattle.std.specs.Prelude.{Some, None, filter, find}
use Rattle.std.specs.List.{list_all, slice_get, slice_set, insert, remove}
use Rattle.byte_text.specs.Names.{Bytes, before, same}
use Rattle.byte_text.specs.ByteOrder.{before_trans, before_tie}
use Rattle.ordered_lists.specs.Lists.{ascends, put_in, IsHeld, IsFree}
use Rattle.ordered_lists.specs.Reading.{both_of, all_at}
use Rattle.ordered_lists.specs.Ascending.{set_held, insert_free, ascends-put_in, ascends-filter, ascends-remove}
use Rattle.ordered_lists.specs.NameOrder.{name_trans, name_tie, name_asym, name_ties, is_named_so, name_sought, name_found, name_missing, name_left}
use Rattle.ordered_lists.specs.NameOrder.{all_names_left}
use Rattle.ordered_lists.specs.Places as place
use Rattle.world_data.specs.declared.objects.Object.{Object}
use Rattle.collection.specs.Objects.{id_before, has_id, are_by_id}

-- what stands in front of an item of an ascending list stands before it
pub in_front : {A : Type 0} (lt : A → A → Bool) (xs : List A) (at : ℕ) (x : A) → ascends lt xs ≡ true → slice_get xs at ≡ Some x
    → list_all (λ y. lt y x) (take at xs) ≡ true
in_front lt [] zero x asc is = refl
in_front lt [] (suc at) x asc is = refl
in_front lt (y ∷ xs) zero x asc is = refl
in_front lt (y ∷ xs) (suc at) x asc is =
    let p = both_of (list_all (lt y) xs) (ascends lt xs) asc in
    rw (all_at (lt y) xs at x is p.0, in_front lt xs at x p.1 is) refl

-- one of this id ties with it
pub tied : (id : Bytes) (x : Object) → same x.id id ≡ true → (before id x.id ≡ false) × (before x.id id ≡ false)
tied = name_ties (λ (o : Object). o.id)

pub ties : (id : Bytes) (x : Object) → (before id x.id ≡ false) × (before x.id id ≡ false) → same x.id id ≡ true
ties id x t = is_named_so (λ (o : Object). o.id) id x t.0 t.1

-- those behind an id have others
pub none_behind : (id : Bytes) (xs : List Object) → list_all (λ o. before id o.id) xs ≡ true → find (has_id id) xs ≡ None
none_behind id = place.none_behind id_before (λ o. before o.id id) (λ o. before id o.id) (has_id id) (name_sought (λ (o : Object). o.id) id)

pub kept_behind : (id : Bytes) (xs : List Object) → list_all (λ o. before id o.id) xs ≡ true → filter (λ o. not (has_id id o)) xs ≡ xs
kept_behind id = place.kept_behind id_before (λ o. before o.id id) (λ o. before id o.id) (has_id id) (name_sought (λ (o : Object). o.id) id)

above : (id : Bytes) (x : Object) (xs : List Object) → ((o : Object) → before x.id o.id ≡ true → before id o.id ≡ true)
    → list_all (id_before x) xs ≡ true → list_all (λ o. before id o.id) xs ≡ true
above id = place.all_behind id_before (λ o. before o.id id) (λ o. before id o.id) (has_id id) (name_sought (λ (o : Object). o.id) id)

pub behind_first : (id : Bytes) (x : Object) (xs : List Object) → (before id x.id ≡ true) → list_all (id_before x) xs ≡ true
    → list_all (λ o. before id o.id) xs ≡ true
behind_first id x xs h all = above id x xs (λ o q. before_trans id x.id o.id h q) all

pub behind_tied : (id : Bytes) (x : Object) (xs : List Object) → (before id x.id ≡ false) × (before x.id id ≡ false)
    → list_all (id_before x) xs ≡ true → list_all (λ o. before id o.id) xs ≡ true
behind_tied id x xs t all = above id x xs (λ o q. subst (λ (n : Bytes). before n o.id ≡ true) (before_tie x.id id t.1 t.0) q) all

-- the object of this id, where it stands, and what is left without it
pub found_held : (id : Bytes) (xs : List Object) (at : ℕ) (x : Object) → IsHeld (λ o. before o.id id) (λ o. before id o.id) xs at
    → slice_get xs at ≡ Some x → find (has_id id) xs ≡ Some x
found_held = name_found (λ (o : Object). o.id)

pub found_free : (id : Bytes) (xs : List Object) (at : ℕ) → are_by_id xs ≡ true → IsFree (λ o. before o.id id) (λ o. before id o.id) xs at
    → find (has_id id) xs ≡ None
found_free = name_missing (λ (o : Object). o.id)

pub left_held : (id : Bytes) (xs : List Object) (at : ℕ) → are_by_id xs ≡ true → IsHeld (λ o. before o.id id) (λ o. before id o.id) xs at
    → filter (λ o. not (has_id id o)) xs ≡ remove xs at
left_held = name_left (λ (o : Object). o.id)

pub left_free : (id : Bytes) (xs : List Object) (at : ℕ) → are_by_id xs ≡ true → IsFree (λ o. before o.id id) (λ o. before id o.id) xs at
    → filter (λ o. not (has_id id o)) xs ≡ xs
left_free = all_names_left (λ (o : Object). o.id)

-- an object of this id put at its place
pub put_held : (x : Object) (xs : List Object) (at : ℕ) → IsHeld (λ o. before o.id x.id) (λ o. before x.id o.id) xs at
    → slice_set xs at x ≡ put_in id_before x xs
put_held = set_held id_before (name_asym (λ (o : Object). o.id))

pub put_free : (x : Object) (xs : List Object) (at : ℕ) → IsFree (λ o. before o.id x.id) (λ o. before x.id o.id) xs at
    → insert xs at x ≡ put_in id_before x xs
put_free = insert_free id_before (name_asym (λ (o : Object). o.id))

pub put_by_id : (x : Object) (xs : List Object) → are_by_id xs ≡ true → are_by_id (put_in id_before x xs) ≡ true
put_by_id = ascends-put_in id_before (name_trans (λ (o : Object). o.id)) (name_tie (λ (o : Object). o.id))

pub left_by_id : (id : Bytes) (xs : List Object) → are_by_id xs ≡ true → are_by_id (filter (λ o. not (has_id id o)) xs) ≡ true
left_by_id id xs asc = ascends-filter id_before (λ o. not (has_id id o)) xs asc

pub removed_by_id : (xs : List Object) (at : ℕ) → are_by_id xs ≡ true → are_by_id (remove xs at) ≡ true
removed_by_id xs at asc = ascends-remove id_before xs at asc
