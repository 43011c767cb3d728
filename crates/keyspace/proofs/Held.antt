-- Keys that have an object, and the keys that are left where some are given up.
use Rattle.std.proofs.Common.{◌≡◌, ℕ, suc, Bool, true, false, not, refl, sym, ap, ◌∙◌, List, [], ◌∷◌, ◌++◌, length, map, subst, arith}
use Rattle.std.specs.Prelude.{filter, ◌&&◌, ◌||◌, ◌==◌}
use Rattle.std.specs.List.{list_all, list_any}
use Rattle.std.proofs.lemmas.Bool.Decides.{nat_tests}
use Rattle.byte_text.specs.Names.{Bytes, before, same}
use Rattle.byte_text.specs.ByteOrder.{same_equal, other_before, other_behind}
use Rattle.ordered_lists.specs.Lists.{ascends, distinct}
use Rattle.ordered_lists.specs.Reading.{both_of, filter-all}
use Rattle.world_data.specs.Worlds.{has_key}
use Rattle.collection.specs.Objects.{are_by_id}
use Rattle.world_data.specs.declared.objects.Object.{Object}
use Rattle.keyspace.specs.Entries.{Entry, objects_in, keys_of, has_objects, is_held, are_held, key_before}
use Rattle.keyspace.specs.KeyOrder.{is_entry}
use Rattle.keyspace.proofs.Keys.{Stands, Lacks, objects_back}
use Rattle.keyspace.proofs.Orders.{distinct_keys}
use Rattle.keyspace.proofs.KeyLists.{is_other, is_needed, other_stays, none_left_out, needed, given_up, key_left_out}
use Rattle.keyspace.proofs.Lookups.{of_key_in, none_of_key}

keys_filter : (q : Bytes → Bool) (xs : List Entry) → keys_of (filter (λ e. q e.key) xs) ≡ filter q (keys_of xs)
keys_filter q [] = refl
keys_filter q (x ∷ xs) = chosen (q x.key) refl (keys_filter q xs)
  where
    chosen : (b : Bool) → q x.key ≡ b → keys_of (filter (λ e. q e.key) xs) ≡ filter q (keys_of xs) → keys_of (filter (λ e. q e.key) (x ∷ xs)) ≡ filter q (keys_of (x ∷ xs))
    chosen true is ih = rw (is, ih) refl
    chosen false is ih = rw (is, ih) refl

some_left : (n : ℕ) → true ≡ not (suc n == 0)
some_left n = grind (arith, nat_tests)

any_left : (q : Object → Bool) (os : List Object) → list_any q os ≡ not (length (filter q os) == 0)
any_left q [] = refl
any_left q (o ∷ os) = chosen (q o) refl (any_left q os)
  where
    chosen : (b : Bool) → q o ≡ b → list_any q os ≡ not (length (filter q os) == 0) → list_any q (o ∷ os) ≡ not (length (filter q (o ∷ os)) == 0)
    chosen true is ih = rw is (some_left (length (filter q os)))
    chosen false is ih = rw is ih

filter_as : (p q : Bytes → Bool) (ks : List Bytes) → ((k : Bytes) → p k ≡ q k) → filter p ks ≡ filter q ks
filter_as p q [] each = refl
filter_as p q (k ∷ ks) each = rw (each k, filter_as p q ks each) refl

always : (a b : Bool) → b ≡ true → not (a && not b) ≡ true
always a b is = grind arith

unless : (a b : Bool) → b ≡ false → not (a && not b) ≡ not a
unless a b is = grind arith

all_always : (key : Bytes) (held : Bool) (ks : List Bytes) → held ≡ true → list_all (λ k. not (same k key && not held)) ks ≡ true
all_always key held [] is = refl
all_always key held (k ∷ ks) is = rw (always (same k key) held is, all_always key held ks is) refl

-- the keys that are left where one without an object is given up
abbrev left_keys : Bytes → Bool → List Bytes → List Bytes
left_keys key held ks = filter (λ k. not (same k key && not held)) ks

kept_held : (key : Bytes) (held : Bool) (ks : List Bytes) → held ≡ true → ks ≡ left_keys key held ks
kept_held key held ks is = sym (filter-all (λ k. not (same k key && not held)) ks (all_always key held ks is))

left_free : (key : Bytes) (held : Bool) (ks : List Bytes) → held ≡ false → filter (λ k. not (same k key)) ks ≡ left_keys key held ks
left_free key held ks is = sym (filter_as (λ k. not (same k key && not held)) (λ k. not (same k key)) ks (λ k. unless (same k key) held is))

pub keys_dropped : (key : Bytes) (xs : List Entry) → keys_of (filter (is_other key) xs) ≡ filter (λ k. not (same k key)) (keys_of xs)
keys_dropped key xs = keys_filter (λ k. not (same k key)) xs

module _ (key : Bytes) (xs : List Entry) (at : ℕ) (e : Entry) (s : Stands key xs at e) where
  pub held_here : is_held (objects_in xs) key ≡ has_objects e
  held_here = any_left (has_key key) (objects_in xs) ∙ ap (λ (l : List Object). not (length l == 0)) (of_key_in key xs at e s)

  pub keys_given_up : length e.objects ≡ 0 → keys_of (filter (is_needed key) xs) ≡ left_keys key (is_held (objects_in xs) key) (keys_of xs)
  keys_given_up none =
      let free : is_held (objects_in xs) key ≡ false = held_here ∙ rw none refl in
      ap keys_of (given_up key xs at e s none ∙ sym (key_left_out key xs at e s)) ∙ keys_dropped key xs ∙ left_free key (is_held (objects_in xs) key) (keys_of xs) free

  pub keys_needed : (length e.objects ≡ 0 → ⊥) → keys_of (filter (is_needed key) xs) ≡ left_keys key (is_held (objects_in xs) key) (keys_of xs)
  keys_needed some =
      let held : is_held (objects_in xs) key ≡ true = held_here ∙ full_at (length e.objects) some in
      ap keys_of (needed key xs at e s some) ∙ kept_held key (is_held (objects_in xs) key) (keys_of xs) held
    where
      full_at : (n : ℕ) → (n ≡ 0 → ⊥) → not (n == 0) ≡ true
      full_at n h = grind (arith, nat_tests)

pub keys_not_there : (key : Bytes) (xs : List Entry) (at : ℕ) → Lacks key xs at → keys_of xs ≡ left_keys key (is_held (objects_in xs) key) (keys_of xs)
keys_not_there key xs at s =
    let free : is_held (objects_in xs) key ≡ false = any_left (has_key key) (objects_in xs) ∙ ap (λ (l : List Object). not (length l == 0)) (none_of_key key xs at s) in
    ap keys_of (sym (none_left_out key (is_other key) (other_stays key) xs at s)) ∙ keys_dropped key xs ∙ left_free key (is_held (objects_in xs) key) (keys_of xs) free

-- where each key has an object

any_both : (q : Object → Bool) (os ps : List Object) → list_any q (os ++ ps) ≡ (list_any q os || list_any q ps)
any_both q [] ps = refl
any_both q (o ∷ os) ps = let ih = any_both q os ps in grind arith

none_of_other : (a k : Bytes) (os : List Object) → same a k ≡ false → list_all (has_key a) os ≡ true → list_any (has_key k) os ≡ false
none_of_other a k [] other own = refl
none_of_other a k (o ∷ os) other own =
    let p = both_of (has_key a o) (list_all (has_key a) os) own in
    let not_it : has_key k o ≡ false = subst (λ (n : Bytes). same n k ≡ false) (sym (same_equal o.key a p.0)) other in
    rw (not_it, none_of_other a k os other p.1) refl

none_behind : (a : Bytes) (os : List Object) → list_all (λ p. before a p.key) os ≡ true → list_any (has_key a) os ≡ false
none_behind a [] all = refl
none_behind a (o ∷ os) all =
    let p = both_of (before a o.key) (list_all (λ p. before a p.key) os) all in
    rw (other_behind o.key a p.0, none_behind a os p.1) refl

full : (q : Object → Bool) (os : List Object) → list_any q os ≡ true → not (length os == 0) ≡ true
full q [] any = absurd (cc)
full q (o ∷ os) any = sym (some_left (length os))

last_of : (a b : Bool) → a ≡ false → (a || b) ≡ true → b ≡ true
last_of a b f h = grind arith

first_of : (a b : Bool) → b ≡ false → (a || b) ≡ true → a ≡ true
first_of a b f h = grind arith

held_behind : (x : Entry) (ys os : List Object) (rest : List Entry) → list_all (has_key x.key) ys ≡ true → list_all (key_before x) rest ≡ true → are_held (keys_of rest) (ys ++ os) ≡ true → are_held (keys_of rest) os ≡ true
held_behind x ys os [] own behind held = refl
held_behind x ys os (y ∷ rest) own behind held =
    let p = both_of (key_before x y) (list_all (key_before x) rest) behind in
    let q = both_of (is_held (ys ++ os) y.key) (are_held (keys_of rest) (ys ++ os)) held in
    let here = last_of (list_any (has_key y.key) ys) (list_any (has_key y.key) os) (none_of_other x.key y.key ys (other_before x.key y.key p.0) own) (sym (any_both (has_key y.key) ys os) ∙ q.0) in
    rw (here, held_behind x ys os rest own p.1 q.1) refl

all_filled : (xs : List Entry) → ascends key_before xs ≡ true → list_all is_entry xs ≡ true → are_held (keys_of xs) (objects_in xs) ≡ true → filter has_objects xs ≡ xs
all_filled [] asc sh held = refl
all_filled (x ∷ xs) asc sh held =
    let p = both_of (list_all (key_before x) xs) (ascends key_before xs) asc in
    let q = both_of (is_entry x) (list_all is_entry xs) sh in
    let own = both_of (list_all (has_key x.key) x.objects) (are_by_id x.objects) q.0 in
    let h = both_of (is_held (objects_in (x ∷ xs)) x.key) (are_held (keys_of xs) (objects_in (x ∷ xs))) held in
    let first = first_of (list_any (has_key x.key) x.objects) (list_any (has_key x.key) (objects_in xs)) (none_behind x.key (objects_in xs) (objects_back x.key xs p.0 q.1)) (sym (any_both (has_key x.key) x.objects (objects_in xs)) ∙ h.0) in
    let here : has_objects x ≡ true = full (has_key x.key) x.objects first in
    rw (here, all_filled xs p.1 q.1 (held_behind x x.objects (objects_in xs) xs own.0 p.0 h.1)) refl

-- the keys are those of the objects
pub keys_held : (xs : List Entry) → ascends key_before xs ≡ true → list_all is_entry xs ≡ true → are_held (keys_of xs) (objects_in xs) ≡ true → keys_of xs ≡ distinct (map (λ o. o.key) (objects_in xs))
keys_held xs asc sh held = sym (distinct_keys xs asc sh ∙ ap keys_of (all_filled xs asc sh held))
