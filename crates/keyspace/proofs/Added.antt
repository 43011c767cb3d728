-- What there is after a key was added, or was not for want of memory.
use Rattle.std.proofs.Common.{◌≡◌, ◌≤◌, ℕ, true, refl, sym, subst, ◌∙◌, List, [], Ok, Err, arith}
use Rattle.std.specs.Prelude.{Result, OnOk, OnErr}
use Rattle.byte_text.specs.Names.{Bytes}
use Rattle.world_data.specs.declared.objects.Object.{Object}
use Rattle.keyspace.specs.Entries.{Entry, objects_in, room_for}
use Rattle.keyspace.specs.KeyOrder.{is_entry, are_entries, IsAdded}
use Rattle.keyspace.proofs.Keys.{Lacks, added_entries, added_objects}
use Rattle.keyspace.proofs.Rooms.{room_added, kept_added}

-- an entry with no object
empty_entry : (e : Entry) (os : List Object) → e.objects ≡ os → os ≡ [] → is_entry e ≡ true
empty_entry e os is none = rw (is ∙ none) refl

module _ {A E : Type 0} (key : Bytes) (xs ys : List Entry) (at : ℕ) (s : Lacks key xs at) where
  pub after_adding : (r : Result A E) → are_entries xs ≡ true → OnOk r (IsAdded key xs at ys) → OnErr r (ys ≡ xs) → are_entries ys ≡ true
  after_adding (Ok v) sh ok err = rw ok.made (added_entries key xs at s ok.one ok.key_is (empty_entry ok.one _ refl ok.none))
  after_adding (Err e) sh ok err = rw err sh

  pub added_objects_too : (r : Result A E) → OnOk r (IsAdded key xs at ys) → OnErr r (ys ≡ xs) → objects_in ys ≡ objects_in xs
  added_objects_too (Ok v) ok err = rw ok.made (added_objects key xs at s ok.one ok.none)
  added_objects_too (Err e) ok err = rw err refl

  pub added_room : (r : Result A E) → OnOk r (IsAdded key xs at ys) → OnOk r (1 ≤ room_for ys key)
  added_room (Ok v) ok = rw ok.made (subst (λ (n : ℕ). 1 ≤ n) (sym (room_added key xs at s ok.one ok.key_is)) ok.room)
  added_room (Err e) ok = tt

  pub added_kept : (r : Result A E) → OnOk r (IsAdded key xs at ys) → OnErr r (ys ≡ xs) → (k : Bytes) → room_for xs k ≤ room_for ys k
  added_kept (Ok v) ok err k = rw ok.made (kept_added key xs at s ok.one ok.key_is k)
  added_kept (Err e) ok err k = rw err (itself (room_for xs k))
    where
      itself : (n : ℕ) → n ≤ n
      itself n = omega arith
