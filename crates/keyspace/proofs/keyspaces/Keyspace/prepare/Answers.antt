use Rattle.std.proofs.Common.{◌≤◌, ℕ, ap, sym, subst, ◌∙◌, length}
use Rattle.std.specs.Prelude.{OnOk}
use Rattle.keyspace.proofs.Keys.{stands, lacks, set_entries, entry_here}
use Rattle.keyspace.proofs.Lookups.{same_objects}
use Rattle.keyspace.proofs.Rooms.{room_new, kept_all}
use Rattle.keyspace.proofs.Counts.{same_entry}
use Rattle.keyspace.proofs.Added.{after_adding, added_objects_too, added_room, added_kept}
use Rattle.keyspace.proofs.KeyLists.{same_keys, keys_there, keys_added, keys_kept, on_ok, on_err}
use Rattle.keyspace.proofs.Known.{known_added, known_same}
use Rattle.keyspace.proofs.keyspaces.Keyspace.prepare.Goals as goal

pub invariant_of-self : goal.invariant_of-self
invariant_of-self c =
    let key = c.args.key.now in
    let xs = c.self.inside.collections.items in
    let at = c.in-Ok.at in
    let e = c.index_mut.result.now in
    let f = c.prepare.new.self in
    let held = rw c.as_slice.ensures.value at c.in-Ok.ensures.held in
    let s = stands key xs at e c.self.invariant.0 held c.index_mut.ensures.value in
    let here = same_entry e f (entry_here key xs at e s) c.prepare.ensures.key c.prepare.ensures.objects in
    (set_entries key xs at e s f held.within (c.prepare.ensures.key ∙ s.key_is) here, (c.self.invariant.1.0 ∙ ap length (sym (same_objects key xs at e s f c.prepare.ensures.objects)), known_same xs c.self.inside.known at e f s.is c.prepare.ensures.objects c.self.invariant.1.1))

pub returns-in-Ok-clause-objects : goal.returns-in-Ok-clause-objects
returns-in-Ok-clause-objects c =
    let key = c.args.key.now in
    let xs = c.self.inside.collections.items in
    let e = c.index_mut.result.now in
    let held = rw c.as_slice.ensures.value at c.in-Ok.ensures.held in
    let s = stands key xs c.in-Ok.at e c.self.invariant.0 held c.index_mut.ensures.value in
    rw (← c.self.view_is) (same_objects key xs c.in-Ok.at e s c.prepare.new.self c.prepare.ensures.objects)

pub returns-in-Ok-clause-room : goal.returns-in-Ok-clause-room
returns-in-Ok-clause-room c =
    let key = c.args.key.now in
    let xs = c.self.inside.collections.items in
    let e = c.index_mut.result.now in
    let held = rw c.as_slice.ensures.value at c.in-Ok.ensures.held in
    let s = stands key xs c.in-Ok.at e c.self.invariant.0 held c.index_mut.ensures.value in
    subst (λ (n : ℕ). OnOk c.prepare.result (1 ≤ n)) (sym (room_new key xs c.in-Ok.at e c.prepare.new.self s (c.prepare.ensures.key ∙ s.key_is))) c.prepare.ensures.room

pub returns-in-Ok-clause-kept : goal.returns-in-Ok-clause-kept
returns-in-Ok-clause-kept c =
    let key = c.args.key.now in
    let xs = c.self.inside.collections.items in
    let e = c.index_mut.result.now in
    let held = rw c.as_slice.ensures.value at c.in-Ok.ensures.held in
    let s = stands key xs c.in-Ok.at e c.self.invariant.0 held c.index_mut.ensures.value in
    rw (← c.self.view_is) (kept_all key xs c.in-Ok.at e c.prepare.new.self s (c.prepare.ensures.key ∙ s.key_is) c.prepare.ensures.kept)

pub invariant_of-self-in-Err : goal.invariant_of-self-in-Err
invariant_of-self-in-Err c =
    let key = c.args.key.now in
    let xs = c.self.inside.collections.items in
    let at = c.in-Err.at in
    let free = rw c.as_slice.ensures.value at c.in-Err.ensures.free in
    let s = lacks key xs at c.self.invariant.0 free in
    let objects = added_objects_too key xs c.add.new.collections.items at s c.add.result c.add.ensures.ok c.add.ensures.err in
    (after_adding key xs c.add.new.collections.items at s c.add.result c.self.invariant.0 c.add.ensures.ok c.add.ensures.err, (c.self.invariant.1.0 ∙ ap length (sym objects), known_added key xs c.add.new.collections.items c.self.inside.known at c.add.result c.add.ensures.ok c.add.ensures.err c.self.invariant.1.1))

pub returns-in-Err-clause-objects : goal.returns-in-Err-clause-objects
returns-in-Err-clause-objects c =
    let key = c.args.key.now in
    let xs = c.self.inside.collections.items in
    let at = c.in-Err.at in
    let free = rw c.as_slice.ensures.value at c.in-Err.ensures.free in
    rw (← c.self.view_is) (added_objects_too key xs c.add.new.collections.items at (lacks key xs at c.self.invariant.0 free) c.add.result c.add.ensures.ok c.add.ensures.err)

pub returns-in-Err-clause-room : goal.returns-in-Err-clause-room
returns-in-Err-clause-room c =
    let key = c.args.key.now in
    let xs = c.self.inside.collections.items in
    let at = c.in-Err.at in
    let free = rw c.as_slice.ensures.value at c.in-Err.ensures.free in
    added_room key xs c.add.new.collections.items at (lacks key xs at c.self.invariant.0 free) c.add.result c.add.ensures.ok

pub returns-in-Err-clause-kept : goal.returns-in-Err-clause-kept
returns-in-Err-clause-kept c =
    let key = c.args.key.now in
    let xs = c.self.inside.collections.items in
    let at = c.in-Err.at in
    let free = rw c.as_slice.ensures.value at c.in-Err.ensures.free in
    rw (← c.self.view_is) (added_kept key xs c.add.new.collections.items at (lacks key xs at c.self.invariant.0 free) c.add.result c.add.ensures.ok c.add.ensures.err)

pub returns-in-Ok-clause-keys : goal.returns-in-Ok-clause-keys
returns-in-Ok-clause-keys c =
    let key = c.args.key.now in
    let xs = c.self.inside.collections.items in
    let at = c.in-Ok.at in
    let e = c.index_mut.result.now in
    let held = rw c.as_slice.ensures.value at c.in-Ok.ensures.held in
    let s = stands key xs at e c.self.invariant.0 held c.index_mut.ensures.value in
    rw (← c.self.view_is) (on_ok c.prepare.result (keys_there key xs at e s c.prepare.new.self held.within (c.prepare.ensures.key ∙ s.key_is)))

pub returns-in-Ok-clause-keys_stay : goal.returns-in-Ok-clause-keys_stay
returns-in-Ok-clause-keys_stay c =
    let key = c.args.key.now in
    let xs = c.self.inside.collections.items in
    let at = c.in-Ok.at in
    let e = c.index_mut.result.now in
    let held = rw c.as_slice.ensures.value at c.in-Ok.ensures.held in
    let s = stands key xs at e c.self.invariant.0 held c.index_mut.ensures.value in
    rw (← c.self.view_is) (on_err c.prepare.result (same_keys key xs at e s c.prepare.new.self (c.prepare.ensures.key ∙ s.key_is)))

pub returns-in-Err-clause-keys : goal.returns-in-Err-clause-keys
returns-in-Err-clause-keys c =
    let key = c.args.key.now in
    let xs = c.self.inside.collections.items in
    let at = c.in-Err.at in
    let free = rw c.as_slice.ensures.value at c.in-Err.ensures.free in
    rw (← c.self.view_is) (keys_added key xs at (lacks key xs at c.self.invariant.0 free) c.add.new.collections.items c.add.result c.add.ensures.ok)

pub returns-in-Err-clause-keys_stay : goal.returns-in-Err-clause-keys_stay
returns-in-Err-clause-keys_stay c = rw (← c.self.view_is) (keys_kept c.self.inside.collections.items c.add.new.collections.items c.add.result c.add.ensures.err)
