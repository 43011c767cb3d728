use Rattle.std.proofs.Common.{◌≡◌, ◌+◌, ◌≤◌, ℕ, true, refl, sym, subst, ◌∙◌, List, length, arith}
use Rattle.std.specs.List.{slice_set}
use Rattle.keyspace.specs.Entries.{Entry, objects_in, has_room}
use Rattle.keyspace.proofs.Keys.{stands, lacks, set_entries, entry_here}
use Rattle.keyspace.proofs.Lookups.{found_in, put_there, length_changed}
use Rattle.keyspace.proofs.Rooms.{room_in, room_not, kept_put}
use Rattle.keyspace.proofs.Counts.{put_entry, length_put_entry, count_put}
use Rattle.keyspace.proofs.KeyLists.{same_keys}
use Rattle.keyspace.specs.FirstDue.{IsKnown}
use Rattle.keyspace.proofs.Known.{known_put}
use Rattle.keyspace.proofs.keyspaces.Keyspace.put.Goals as goal

pub put-old-requires : goal.put-old-requires
put-old-requires g c =
    let o = c.args.object in
    let xs = c.self.inside.collections.items in
    let e = c.index_mut.result.now in
    let held = rw c.as_slice.ensures.value at c.in-Ok.ensures.held in
    let s = stands o.key xs c.in-Ok.at e c.self.invariant.0 held c.index_mut.ensures.value in
    room_in o xs c.in-Ok.at e s (subst (λ (l : List Entry). has_room l o ≡ true) (sym c.self.view_is) c.requires.room)

pub invariant_of-self : goal.invariant_of-self
invariant_of-self g c =
    let o = c.args.object in
    let xs = c.self.inside.collections.items in
    let at = c.in-Ok.at in
    let e = c.index_mut.result.now in
    let f = c.put-old.new.self in
    let held = rw c.as_slice.ensures.value at c.in-Ok.ensures.held in
    let s = stands o.key xs at e c.self.invariant.0 held c.index_mut.ensures.value in
    let h = entry_here o.key xs at e s in
    let here = put_entry e f h c.put-old.ensures.key o (sym s.key_is) c.put-old.ensures.objects in
    let more = length_put_entry e f h o c.put-old.result c.put-old.ensures.objects c.put-old.ensures.replaced in
    let count = count_put c.self.inside.count c.from.result (length (objects_in (slice_set xs at f))) (length (objects_in xs)) (length e.objects) (length f.objects) c.put-old.result c.is_none.result c.self.invariant.1.0 c.from.ensures c.is_none.ensures (length_changed o.key xs at e s f) more in
    let known = subst (λ (k : ℕ × ℕ). IsKnown (slice_set xs at f) k) (sym c.noted-self-inside.ensures) (known_put xs c.self.inside.known at e f o s.is c.put-old.ensures.objects c.self.invariant.1.1) in
    (set_entries o.key xs at e s f held.within (c.put-old.ensures.key ∙ s.key_is) here, (count, known))

pub unreachable-requires : goal.unreachable-requires
unreachable-requires g c =
    let o = c.args.object in
    let xs = c.self.inside.collections.items in
    let free = rw c.as_slice.ensures.value at c.in-Err.ensures.free in
    room_not o xs c.in-Err.field-0 (lacks o.key xs c.in-Err.field-0 c.self.invariant.0 free) (subst (λ (l : List Entry). has_room l o ≡ true) (sym c.self.view_is) c.requires.room)

pub returns-clause-objects : goal.returns-clause-objects
returns-clause-objects g c =
    let o = c.args.object in
    let xs = c.self.inside.collections.items in
    let at = c.in-Ok.at in
    let e = c.index_mut.result.now in
    let held = rw c.as_slice.ensures.value at c.in-Ok.ensures.held in
    let s = stands o.key xs at e c.self.invariant.0 held c.index_mut.ensures.value in
    rw (← c.self.view_is) (put_there o.key xs at e s o c.put-old.new.self refl c.put-old.ensures.objects)

pub returns-clause-replaced : goal.returns-clause-replaced
returns-clause-replaced g c =
    let o = c.args.object in
    let xs = c.self.inside.collections.items in
    let e = c.index_mut.result.now in
    let held = rw c.as_slice.ensures.value at c.in-Ok.ensures.held in
    let s = stands o.key xs c.in-Ok.at e c.self.invariant.0 held c.index_mut.ensures.value in
    rw (← c.self.view_is) (c.put-old.ensures.replaced ∙ sym (found_in o.key xs c.in-Ok.at e s o.id))

pub returns-clause-len : goal.returns-clause-len
returns-clause-len g c =
    let o = c.args.object in
    let xs = c.self.inside.collections.items in
    let at = c.in-Ok.at in
    let e = c.index_mut.result.now in
    let f = c.put-old.new.self in
    let held = rw c.as_slice.ensures.value at c.in-Ok.ensures.held in
    let s = stands o.key xs at e c.self.invariant.0 held c.index_mut.ensures.value in
    let h = entry_here o.key xs at e s in
    let more = length_put_entry e f h o c.put-old.result c.put-old.ensures.objects c.put-old.ensures.replaced in
    rw (← c.self.view_is) (at_most_one (length (objects_in (slice_set xs at f))) (length (objects_in xs)) (length e.objects) (length f.objects) _ (length_changed o.key xs at e s f) more)
  where
    at_most_one : (n m e f t : ℕ) → n + e ≡ m + f → f + t ≡ e + 1 → n ≤ m + 1
    at_most_one n m e f t p q = omega arith

pub returns-clause-kept : goal.returns-clause-kept
returns-clause-kept g c =
    let o = c.args.object in
    let xs = c.self.inside.collections.items in
    let e = c.index_mut.result.now in
    let held = rw c.as_slice.ensures.value at c.in-Ok.ensures.held in
    let s = stands o.key xs c.in-Ok.at e c.self.invariant.0 held c.index_mut.ensures.value in
    rw (← c.self.view_is) (kept_put o.key xs c.in-Ok.at e c.put-old.new.self s (c.put-old.ensures.key ∙ s.key_is) c.put-old.result c.put-old.ensures.spare)

pub returns-clause-keys : goal.returns-clause-keys
returns-clause-keys g c =
    let o = c.args.object in
    let xs = c.self.inside.collections.items in
    let e = c.index_mut.result.now in
    let held = rw c.as_slice.ensures.value at c.in-Ok.ensures.held in
    let s = stands o.key xs c.in-Ok.at e c.self.invariant.0 held c.index_mut.ensures.value in
    rw (← c.self.view_is) (same_keys o.key xs c.in-Ok.at e s c.put-old.new.self (c.put-old.ensures.key ∙ s.key_is))
