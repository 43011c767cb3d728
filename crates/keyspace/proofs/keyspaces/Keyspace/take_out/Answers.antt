use Rattle.std.proofs.Common.{not, sym, ◌∙◌, length}
use Rattle.std.specs.Prelude.{is_some}
use Rattle.std.specs.List.{slice_set}
use Rattle.keyspace.specs.Entries.{objects_in}
use Rattle.keyspace.proofs.Keys.{stands, lacks, set_entries, entry_here}
use Rattle.keyspace.proofs.Lookups.{found_in, found_not, left_in, all_left, length_changed, at_most_all}
use Rattle.keyspace.proofs.Rooms.{kept_taken}
use Rattle.keyspace.proofs.Counts.{left_entry, length_left_entry, count_left, count_covers, from_some}
use Rattle.keyspace.proofs.KeyLists.{same_keys}
use Rattle.collection.specs.Objects.{has_id}
use Rattle.keyspace.proofs.Known.{known_left}
use Rattle.keyspace.proofs.keyspaces.Keyspace.take_out.Goals as goal

pub overflow_sub-self : goal.overflow_sub-self
overflow_sub-self g c =
    let key = c.args.key.now in
    let xs = c.self.inside.collections.items in
    let e = c.index_mut.result.now in
    let held = rw c.as_slice.ensures.value at c.in-Ok.ensures.held in
    let s = stands key xs c.in-Ok.at e c.self.invariant.0 held c.index_mut.ensures.value in
    let less = length_left_entry e c.take_out-taken.new.self (entry_here key xs c.in-Ok.at e s) c.args.id.now c.take_out-taken.result c.take_out-taken.ensures.objects c.take_out-taken.ensures.taken in
    count_covers c.self.inside.count c.from.result (length (objects_in xs)) (length e.objects) _ c.take_out-taken.result c.self.invariant.1.0 (from_some c.from.result c.is_some.result c.take_out-taken.result c.from.ensures c.is_some.ensures) (at_most_all key xs c.in-Ok.at e s) less

pub invariant_of-self : goal.invariant_of-self
invariant_of-self g c =
    let key = c.args.key.now in
    let xs = c.self.inside.collections.items in
    let at = c.in-Ok.at in
    let e = c.index_mut.result.now in
    let f = c.take_out-taken.new.self in
    let held = rw c.as_slice.ensures.value at c.in-Ok.ensures.held in
    let s = stands key xs at e c.self.invariant.0 held c.index_mut.ensures.value in
    let h = entry_here key xs at e s in
    let here = left_entry e f h c.take_out-taken.ensures.key c.args.id.now c.take_out-taken.ensures.objects in
    let less = length_left_entry e f h c.args.id.now c.take_out-taken.result c.take_out-taken.ensures.objects c.take_out-taken.ensures.taken in
    let count = count_left c.self.inside.count c.from.result (length (objects_in (slice_set xs at f))) (length (objects_in xs)) (length e.objects) (length f.objects) c.take_out-taken.result c.self.invariant.1.0 (from_some c.from.result c.is_some.result c.take_out-taken.result c.from.ensures c.is_some.ensures) (length_changed key xs at e s f) less in
    (set_entries key xs at e s f held.within (c.take_out-taken.ensures.key ∙ s.key_is) here, (count, known_left xs c.self.inside.known at e f (λ o. not (has_id c.args.id.now o)) s.is c.take_out-taken.ensures.objects c.self.invariant.1.1))

pub returns-in-Ok-clause-objects : goal.returns-in-Ok-clause-objects
returns-in-Ok-clause-objects g c =
    let key = c.args.key.now in
    let xs = c.self.inside.collections.items in
    let e = c.index_mut.result.now in
    let held = rw c.as_slice.ensures.value at c.in-Ok.ensures.held in
    let s = stands key xs c.in-Ok.at e c.self.invariant.0 held c.index_mut.ensures.value in
    rw (← c.self.view_is) (left_in key xs c.in-Ok.at e s c.args.id.now c.take_out-taken.new.self c.take_out-taken.ensures.objects)

pub returns-in-Ok-clause-taken : goal.returns-in-Ok-clause-taken
returns-in-Ok-clause-taken g c =
    let key = c.args.key.now in
    let xs = c.self.inside.collections.items in
    let e = c.index_mut.result.now in
    let held = rw c.as_slice.ensures.value at c.in-Ok.ensures.held in
    let s = stands key xs c.in-Ok.at e c.self.invariant.0 held c.index_mut.ensures.value in
    rw (← c.self.view_is) (c.take_out-taken.ensures.taken ∙ sym (found_in key xs c.in-Ok.at e s c.args.id.now))

pub returns-in-Ok-clause-kept : goal.returns-in-Ok-clause-kept
returns-in-Ok-clause-kept g c =
    let key = c.args.key.now in
    let xs = c.self.inside.collections.items in
    let e = c.index_mut.result.now in
    let held = rw c.as_slice.ensures.value at c.in-Ok.ensures.held in
    let s = stands key xs c.in-Ok.at e c.self.invariant.0 held c.index_mut.ensures.value in
    rw (← c.self.view_is) (kept_taken key xs c.in-Ok.at e c.take_out-taken.new.self s (c.take_out-taken.ensures.key ∙ s.key_is) (is_some c.take_out-taken.result) c.take_out-taken.ensures.spare)

pub returns-in-Err-clause-objects : goal.returns-in-Err-clause-objects
returns-in-Err-clause-objects g c =
    let key = c.args.key.now in
    let xs = c.self.inside.collections.items in
    let free = rw c.as_slice.ensures.value at c.in-Err.ensures.free in
    rw (← c.self.view_is) (all_left key xs c.in-Err.field-0 (lacks key xs c.in-Err.field-0 c.self.invariant.0 free) c.args.id.now)

pub returns-in-Err-clause-taken : goal.returns-in-Err-clause-taken
returns-in-Err-clause-taken g c =
    let key = c.args.key.now in
    let xs = c.self.inside.collections.items in
    let free = rw c.as_slice.ensures.value at c.in-Err.ensures.free in
    rw (← c.self.view_is) (sym (found_not key xs c.in-Err.field-0 (lacks key xs c.in-Err.field-0 c.self.invariant.0 free) c.args.id.now))

pub returns-in-Ok-clause-keys : goal.returns-in-Ok-clause-keys
returns-in-Ok-clause-keys g c =
    let key = c.args.key.now in
    let xs = c.self.inside.collections.items in
    let e = c.index_mut.result.now in
    let held = rw c.as_slice.ensures.value at c.in-Ok.ensures.held in
    let s = stands key xs c.in-Ok.at e c.self.invariant.0 held c.index_mut.ensures.value in
    rw (← c.self.view_is) (same_keys key xs c.in-Ok.at e s c.take_out-taken.new.self (c.take_out-taken.ensures.key ∙ s.key_is))
