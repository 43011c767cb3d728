-- The order of all objects, and the keys that have some.
use Rattle.std.proofs.Common.{◌≡◌, ℕ, suc, Bool, true, false, not, refl, sym, subst, ◌∙◌, List, [], ◌∷◌, ◌++◌, length, map, arith}
use Rattle.std.specs.Prelude.{filter, ◌==◌, if◌then◌else◌}
use Rattle.std.specs.List.{list_all, list_any}
use Rattle.std.proofs.lemmas.Bool.Decides.{nat_tests}
use Rattle.byte_text.specs.Names.{Bytes, before, same}
use Rattle.ordered_lists.specs.Lists.{ascends, distinct}
use Rattle.world_data.specs.Worlds.{object_before, are_objects, has_key}
use Rattle.world_data.specs.declared.objects.Object.{Object}
use Rattle.collection.specs.Objects.{id_before, are_by_id}
use Rattle.byte_text.specs.ByteOrder.{same_refl, same_equal, other_before}
use Rattle.ordered_lists.specs.Reading.{both_of}
use Rattle.keyspace.specs.Entries.{Entry, key_before, objects_in, has_objects}
use Rattle.keyspace.specs.KeyOrder.{is_entry, are_entries}
use Rattle.keyspace.proofs.Parts.{all_both, own_order}
use Rattle.keyspace.proofs.Keys.{objects_back}

-- an object of a key stands before those of keys behind it
before_back : (o : Object) (xs : List Object) → list_all (λ p. before o.key p.key) xs ≡ true → list_all (object_before o) xs ≡ true
before_back o [] all = refl
before_back o (x ∷ xs) all = let p = both_of (before o.key x.key) (list_all (λ p. before o.key p.key) xs) all in rw (p.0, before_back o xs p.1) refl

before_own : (o : Object) (xs : List Object) → list_all (has_key o.key) xs ≡ true → list_all (id_before o) xs ≡ true → list_all (object_before o) xs ≡ true
before_own o [] own all = refl
before_own o (x ∷ xs) own all =
    let p = both_of (has_key o.key x) (list_all (has_key o.key) xs) own in
    let q = both_of (id_before o x) (list_all (id_before o) xs) all in
    rw (own_order o x (sym (same_equal x.key o.key p.0)), q.0, before_own o xs p.1 q.1) refl

-- objects of a key in front of those of keys behind it
ascends_own : (key : Bytes) (xs ys : List Object) → list_all (has_key key) xs ≡ true → are_by_id xs ≡ true → list_all (λ p. before key p.key) ys ≡ true → are_objects ys ≡ true → are_objects (xs ++ ys) ≡ true
ascends_own key [] ys own asc back sorted = sorted
ascends_own key (x ∷ xs) ys own asc back sorted =
    let p = both_of (has_key key x) (list_all (has_key key) xs) own in
    let q = both_of (list_all (id_before x) xs) (are_by_id xs) asc in
    let k = same_equal x.key key p.0 in
    let mine = subst (λ (n : Bytes). list_all (has_key n) xs ≡ true) (sym k) p.1 in
    let behind = subst (λ (n : Bytes). list_all (λ p. before n p.key) ys ≡ true) (sym k) back in
    rw (all_both (object_before x) xs ys (before_own x xs mine q.0) (before_back x ys behind), ascends_own key xs ys p.1 q.1 back sorted) refl

pub all_sorted : (xs : List Entry) → ascends key_before xs ≡ true → list_all is_entry xs ≡ true → are_objects (objects_in xs) ≡ true
all_sorted [] asc sh = refl
all_sorted (x ∷ xs) asc sh =
    let p = both_of (list_all (key_before x) xs) (ascends key_before xs) asc in
    let q = both_of (is_entry x) (list_all is_entry xs) sh in
    let own = both_of (list_all (has_key x.key) x.objects) (are_by_id x.objects) q.0 in
    ascends_own x.key x.objects (objects_in xs) own.0 own.1 (objects_back x.key xs p.0 q.1) (all_sorted xs p.1 q.1)

pub entries_sorted : (xs : List Entry) → are_entries xs ≡ true → are_objects (objects_in xs) ≡ true
entries_sorted xs sh = let p = both_of (ascends key_before xs) (list_all is_entry xs) sh in all_sorted xs p.0 p.1

-- the key of the first object of some, of which the others have other keys
no_key : (key : Bytes) (ys : List Object) → list_all (λ p. before key p.key) ys ≡ true → list_any (same key) (map (λ o. o.key) ys) ≡ false
no_key key [] all = refl
no_key key (y ∷ ys) all =
    let p = both_of (before key y.key) (list_all (λ p. before key p.key) ys) all in
    rw (other_before key y.key p.0) (no_key key ys p.1)

distinct_more : (key : Bytes) (x : Object) (xs ys : List Object) → list_all (has_key key) (x ∷ xs) ≡ true → list_all (λ p. before key p.key) ys ≡ true → distinct (map (λ o. o.key) ((x ∷ xs) ++ ys)) ≡ key ∷ distinct (map (λ o. o.key) ys)
distinct_more key x [] ys own back =
    let p = both_of (has_key key x) true own in
    let k = same_equal x.key key p.0 in
    rw (k, no_key key ys back) refl
distinct_more key x (z ∷ xs) ys own back =
    let p = both_of (has_key key x) (list_all (has_key key) (z ∷ xs)) own in
    let q = both_of (has_key key z) (list_all (has_key key) xs) p.1 in
    let one : same key z.key ≡ true = subst (λ (n : Bytes). same key n ≡ true) (sym (same_equal z.key key q.0)) (same_refl key) in
    let both : same x.key z.key ≡ true = subst (λ (n : Bytes). same n z.key ≡ true) (sym (same_equal x.key key p.0)) one in
    rw both (distinct_more key z xs ys p.1 back)

not_zero : (n : ℕ) → not (suc n == 0) ≡ true
not_zero n = grind (arith, nat_tests)

if_true : (b : Bool) (x y z : List Bytes) → b ≡ true → z ≡ x → z ≡ (if b then x else y)
if_true true x y z h e = e
if_true false x y z h e = absurd (cc)

distinct_own : (e : Entry) (os ys : List Object) → e.objects ≡ os → list_all (has_key e.key) os ≡ true → list_all (λ p. before e.key p.key) ys ≡ true → distinct (map (λ o. o.key) (os ++ ys)) ≡ (if has_objects e then e.key ∷ distinct (map (λ o. o.key) ys) else distinct (map (λ o. o.key) ys))
distinct_own e [] ys is own back = rw is refl
distinct_own e (o ∷ os) ys is own back = if_true (has_objects e) _ _ _ (subst (λ (l : List Object). not (length l == 0) ≡ true) (sym is) (not_zero (length os))) (distinct_more e.key o os ys own back)

if_kept : (b : Bool) (k : Bytes) (e : Entry) (xs : List Entry) → e.key ≡ k → has_objects e ≡ b → (if b then k ∷ map (λ e. e.key) (filter has_objects xs) else map (λ e. e.key) (filter has_objects xs)) ≡ map (λ e. e.key) (filter has_objects (e ∷ xs))
if_kept true k e xs is h = rw (h, is) refl
if_kept false k e xs is h = rw h refl

pub distinct_keys : (xs : List Entry) → ascends key_before xs ≡ true → list_all is_entry xs ≡ true → distinct (map (λ o. o.key) (objects_in xs)) ≡ map (λ e. e.key) (filter has_objects xs)
distinct_keys [] asc sh = refl
distinct_keys (x ∷ xs) asc sh =
    let p = both_of (list_all (key_before x) xs) (ascends key_before xs) asc in
    let q = both_of (is_entry x) (list_all is_entry xs) sh in
    let own = both_of (list_all (has_key x.key) x.objects) (are_by_id x.objects) q.0 in
    distinct_own x x.objects (objects_in xs) refl own.0 (objects_back x.key xs p.0 q.1) ∙ rw (distinct_keys xs p.1 q.1) (if_kept (has_objects x) x.key x xs refl refl)
