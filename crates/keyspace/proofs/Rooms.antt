-- How much room there is for each key, after a change of one entry.
use Rattle.std.proofs.Common.{◌≡◌, ◌≤◌, ◌+◌, ℕ, zero, suc, Bool, true, false, refl, sym, ap, subst, ◌∙◌, List, [], ◌∷◌, ◌++◌, take, drop, arith}
use Rattle.std.specs.Prelude.{Option, Some, None, nat_le, ◌&&◌, ◌||◌, is_some, is_none, slice_get, if◌then◌else◌}
use Rattle.std.specs.List.{list_all, list_any, slice_set, insert}
use Rattle.byte_text.specs.Names.{Bytes, before, same}
use Rattle.ordered_lists.specs.Lists.{ascends}
use Rattle.world_data.specs.Worlds.{is_at}
use Rattle.world_data.specs.declared.objects.Object.{Object}
use Rattle.collection.specs.Objects.{has_room as fits}
use Rattle.byte_text.specs.ByteOrder.{same_refl, same_equal, other_before, other_behind}
use Rattle.ordered_lists.specs.Reading.{all_at, both_of}
use Rattle.keyspace.specs.Entries.{Entry, key_before, objects_in, room_for, has_room}
use Rattle.keyspace.specs.KeyOrder.{held_of}
use Rattle.keyspace.proofs.Keys.{Stands, Lacks, halves}
use Rattle.keyspace.proofs.Lookups.{any_in, any_not}

-- the entry of a key is the first of that key
room_set : (xs : List Entry) (at : ℕ) (e f : Entry) → ascends key_before xs ≡ true → slice_get xs at ≡ Some e → f.key ≡ e.key → room_for (slice_set xs at f) e.key ≡ f.spare
room_set [] at e f asc is k = absurd (cc)
room_set (x ∷ xs) zero e f asc is k = rw (k, same_refl e.key) refl
room_set (x ∷ xs) (suc at) e f asc is k =
    let p = both_of (list_all (key_before x) xs) (ascends key_before xs) asc in
    rw (other_before x.key e.key (all_at (key_before x) xs at e is p.0)) (room_set xs at e f p.1 is k)

room_of : (xs : List Entry) (at : ℕ) (e : Entry) → ascends key_before xs ≡ true → slice_get xs at ≡ Some e → room_for xs e.key ≡ e.spare
room_of [] at e asc is = absurd (cc)
room_of (x ∷ xs) zero e asc is = let s : x ≡ e = cc in subst (λ (z : Entry). room_for (x ∷ xs) z.key ≡ z.spare) s (rw (same_refl x.key) refl)
room_of (x ∷ xs) (suc at) e asc is =
    let p = both_of (list_all (key_before x) xs) (ascends key_before xs) asc in
    rw (other_before x.key e.key (all_at (key_before x) xs at e is p.0)) (room_of xs at e p.1 is)

room_other : (k : Bytes) (xs : List Entry) (at : ℕ) (e f : Entry) → slice_get xs at ≡ Some e → f.key ≡ e.key → same e.key k ≡ false → room_for (slice_set xs at f) k ≡ room_for xs k
room_other k [] at e f is t other = absurd (cc)
room_other k (x ∷ xs) zero e f is t other =
    let s : x ≡ e = cc in
    let a : same x.key k ≡ false = subst (λ (z : Entry). same z.key k ≡ false) (sym s) other in
    let b : same f.key k ≡ false = subst (λ (n : Bytes). same n k ≡ false) (sym t) other in
    rw (a, b) refl
room_other k (x ∷ xs) (suc at) e f is t other = rw (room_other k xs at e f is t other) refl

pub both_if : (a b : Bool) → ◌≡◌ {A = ℕ} (if a && b then 1 else 0) (if a then (if b then 1 else 0) else 0)
both_if true b = refl
both_if false b = refl

pub no_if : (a : Bool) → ◌≡◌ {A = ℕ} (if a then 0 else 0) 0
no_if true = refl
no_if false = refl

one_of_two : (t : Option Object) → ◌≡◌ {A = ℕ} (if is_some t then 0 else 1) (if is_none t then 1 else 0)
one_of_two None = refl
one_of_two (Some o) = refl

module _ (key : Bytes) (xs : List Entry) (at : ℕ) (e f : Entry) (s : Stands key xs at e) (k_is : f.key ≡ key) where
  pub room_here : room_for xs key ≡ e.spare
  room_here = subst (λ (n : Bytes). room_for xs n ≡ e.spare) s.key_is (room_of xs at e s.asc s.is)

  pub room_new : room_for (slice_set xs at f) key ≡ f.spare
  room_new = subst (λ (n : Bytes). room_for (slice_set xs at f) n ≡ f.spare) s.key_is (room_set xs at e f s.asc s.is (k_is ∙ sym s.key_is))

  kept_case : (c d : ℕ) → e.spare + c ≤ f.spare + d → (k : Bytes) (b : Bool) → same key k ≡ b → room_for xs k + (if b then c else 0) ≤ room_for (slice_set xs at f) k + (if b then d else 0)
  kept_case c d le k true is =
      let t = same_equal key k is in
      subst (λ (n : Bytes). room_for xs n + c ≤ room_for (slice_set xs at f) n + d) t (rw (room_here, room_new) le)
  kept_case c d le k false is =
      let other = subst (λ (n : Bytes). same n k ≡ false) (sym s.key_is) is in
      rw (room_other k xs at e f s.is (k_is ∙ sym s.key_is) other) (omega arith)

  pub kept_room : (c d : ℕ) → e.spare + c ≤ f.spare + d → (k : Bytes) → room_for xs k + (if same key k then c else 0) ≤ room_for (slice_set xs at f) k + (if same key k then d else 0)
  kept_room c d le k = kept_case c d le k (same key k) refl

  -- no room is lost
  pub kept_all : e.spare ≤ f.spare → (k : Bytes) → room_for xs k ≤ room_for (slice_set xs at f) k
  kept_all le k = let h = kept_room 0 0 (omega arith) k in let z = no_if (same key k) in omega (arith, h, z)

  pub kept_put : (r : Option Object) → f.spare + (if is_some r then 0 else 1) ≡ e.spare → (k : Bytes) → room_for xs k ≤ room_for (slice_set xs at f) k + (if same key k && is_none r then 1 else 0)
  kept_put r is k =
      let h = kept_room 0 (if is_none r then 1 else 0) (put_le e.spare f.spare _ _ is (one_of_two r)) k in
      rw (both_if (same key k) (is_none r)) (without (room_for xs k) (room_for (slice_set xs at f) k) _ _ h (no_if (same key k)))
    where
      put_le : (n m a b : ℕ) → m + a ≡ n → a ≡ b → n + 0 ≤ m + b
      put_le n m a b p q = omega arith

      without : (n m z d : ℕ) → n + z ≤ m + d → z ≡ 0 → n ≤ m + d
      without n m z d p q = omega arith

  pub kept_taken : (c : Bool) → f.spare ≡ e.spare + (if c then 1 else 0) → (k : Bytes) → room_for xs k + (if same key k && c then 1 else 0) ≤ room_for (slice_set xs at f) k
  kept_taken c is k =
      let h = kept_room (if c then 1 else 0) 0 (taken_le e.spare f.spare _ is) k in
      rw (both_if (same key k) c) (without (room_for xs k) (room_for (slice_set xs at f) k) _ _ h (no_if (same key k)))
    where
      taken_le : (n m a : ℕ) → m ≡ n + a → n + a ≤ m + 0
      taken_le n m a p = omega arith

      without : (n m a z : ℕ) → n + a ≤ m + z → z ≡ 0 → n + a ≤ m
      without n m a z p q = omega arith

  pub kept_one : f.spare ≡ e.spare + 1 → (k : Bytes) → room_for xs k + (if same key k then 1 else 0) ≤ room_for (slice_set xs at f) k
  kept_one is k =
      let h = kept_room 1 0 (one_le e.spare f.spare is) k in
      without (room_for xs k) (room_for (slice_set xs at f) k) _ _ h (no_if (same key k))
    where
      one_le : (n m : ℕ) → m ≡ n + 1 → n + 1 ≤ m + 0
      one_le n m p = omega arith

      without : (n m a z : ℕ) → n + a ≤ m + z → z ≡ 0 → n + a ≤ m
      without n m a z p q = omega arith

room_past : (key : Bytes) (xs ys : List Entry) → list_all (λ e. before e.key key) xs ≡ true → room_for (xs ++ ys) key ≡ room_for ys key
room_past key [] ys all = refl
room_past key (x ∷ xs) ys all =
    let p = both_of (before x.key key) (list_all (λ e. before e.key key) xs) all in
    rw (other_before x.key key p.0) (room_past key xs ys p.1)

room_none : (key : Bytes) (xs : List Entry) → list_all (λ e. before key e.key) xs ≡ true → room_for xs key ≡ 0
room_none key [] all = refl
room_none key (x ∷ xs) all =
    let p = both_of (before key x.key) (list_all (λ e. before key e.key) xs) all in
    rw (other_behind x.key key p.0) (room_none key xs p.1)

room_between : (k : Bytes) (xs : List Entry) (f : Entry) (ys : List Entry) → same f.key k ≡ false → room_for (xs ++ f ∷ ys) k ≡ room_for (xs ++ ys) k
room_between k [] f ys other = rw other refl
room_between k (x ∷ xs) f ys other = rw (room_between k xs f ys other) refl

module _ (key : Bytes) (xs : List Entry) (at : ℕ) (s : Lacks key xs at) where
  pub no_room : room_for xs key ≡ 0
  no_room = ap (λ (l : List Entry). room_for l key) (halves xs at) ∙ room_past key (take at xs) (drop at xs) s.front_all ∙ room_none key (drop at xs) s.back_all

  pub room_added : (f : Entry) → f.key ≡ key → room_for (insert xs at f) key ≡ f.spare
  room_added f k = room_past key (take at xs) (f ∷ drop at xs) s.front_all ∙ rw (k, same_refl key) refl

  added_case : (f : Entry) → f.key ≡ key → (k : Bytes) (b : Bool) → same key k ≡ b → room_for xs k ≤ room_for (insert xs at f) k
  added_case f t k true is =
      let none : room_for xs k ≡ 0 = subst (λ (n : Bytes). room_for xs n ≡ 0) (same_equal key k is) no_room in
      omega (arith, none)
  added_case f t k false is =
      let other = subst (λ (n : Bytes). same n k ≡ false) (sym t) is in
      let e : room_for (insert xs at f) k ≡ room_for xs k = room_between k (take at xs) f (drop at xs) other ∙ ap (λ (l : List Entry). room_for l k) (sym (halves xs at)) in
      omega (arith, e)

  pub kept_added : (f : Entry) → f.key ≡ key → (k : Bytes) → room_for xs k ≤ room_for (insert xs at f) k
  kept_added f t k = added_case f t k (same key k) refl

-- an object that may be put where its key stands, and where it does not
pub room_in : (o : Object) (xs : List Entry) (at : ℕ) (e : Entry) → Stands o.key xs at e → has_room xs o ≡ true → fits (held_of e) o.id ≡ true
room_in o xs at e s h =
    let a = subst (λ (n : ℕ). (nat_le 1 n || list_any (is_at o.key o.id) (objects_in xs)) ≡ true) (room_here o.key xs at e e s s.key_is) h in
    subst (λ (b : Bool). (nat_le 1 e.spare || b) ≡ true) (any_in o.key xs at e s o.id) a

pub room_not : (o : Object) (xs : List Entry) (at : ℕ) → Lacks o.key xs at → has_room xs o ≡ true → ⊥
room_not o xs at s h =
    let a = subst (λ (n : ℕ). (nat_le 1 n || list_any (is_at o.key o.id) (objects_in xs)) ≡ true) (no_room o.key xs at s) h in
    let b : false ≡ true = subst (λ (b : Bool). b ≡ true) (any_not o.key xs at s o.id) a in
    absurd (cc)
