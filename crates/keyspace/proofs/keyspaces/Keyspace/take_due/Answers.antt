use Rattle.std.proofs.Common.{◌≡◌, ◌+◌, ◌-◌, ◌≤◌, ℕ, subst, length, arith}
use Rattle.std.specs.Prelude.{if◌then◌else◌}
use Rattle.std.specs.List.{slice_set}
use Rattle.byte_text.specs.Names.{Bytes, same}
use Rattle.keyspace.specs.Entries.{objects_in, room_for}
use Rattle.keyspace.proofs.Keys.{set_entries, entry_here}
use Rattle.keyspace.proofs.Orders.{entries_sorted}
use Rattle.keyspace.proofs.Rooms.{kept_one}
use Rattle.keyspace.proofs.Counts.{removed_entry}
use Rattle.keyspace.specs.FirstDue.{is_no_sooner}
use Rattle.keyspace.proofs.Dues.{least_each, least_found, no_sooner}
use Rattle.keyspace.proofs.Firsts.{none_due, nothing_due_yet, nothing_due_ever, soonest_within, read_here, stood, of_its_key, around, expires_first, found_first, left_first, one_fewer}
use Rattle.keyspace.proofs.KeyLists.{same_keys}
use Rattle.keyspace.proofs.Known.{known_found, known_never, known_removed}
use Rattle.keyspace.proofs.keyspaces.Keyspace.take_due.Goals as goal

pub returns-then-due-now-clause-none : goal.returns-then-due-now-clause-none
returns-then-due-now-clause-none g c =
    let xs = c.self.inside.collections.items in
    let s = rw c.as_slice.ensures.value at c.in-Some.ensures in
    rw (← c.self.view_is) (nothing_due_yet c.args.now c.in-Some.due (objects_in xs) c.if-due-now.true (least_found xs c.in-Some.at c.in-Some.due s))

pub returns-in-None-clause-none : goal.returns-in-None-clause-none
returns-in-None-clause-none g c =
    let none = rw c.as_slice.ensures.value at c.in-None.ensures in
    rw (← c.self.view_is) (nothing_due_ever c.args.now (objects_in c.self.inside.collections.items) none)

pub soonest-requires : goal.soonest-requires
soonest-requires g c = rw c.as_slice.ensures.value c.self.invariant.1.1

pub returns-then-now-self-clause-none : goal.returns-then-now-self-clause-none
returns-then-now-self-clause-none g c =
    let xs = c.self.inside.collections.items in
    let due = c.self.inside.known.1 in
    let all = least_each (is_no_sooner due) (no_sooner due) xs c.self.invariant.1.1.all in
    rw (← c.self.view_is) (none_due c.args.now due (objects_in xs) c.if-now-self.true all)

pub invariant_of-self : goal.invariant_of-self
invariant_of-self g c =
    let xs = c.self.inside.collections.items in
    let s = rw c.as_slice.ensures.value at c.in-Some.ensures in
    (c.self.invariant.0, (c.self.invariant.1.0, known_found xs c.in-Some.at c.in-Some.due s))

pub invariant_of-self-in-None : goal.invariant_of-self-in-None
invariant_of-self-in-None g c =
    let none = rw c.as_slice.ensures.value at c.in-None.ensures in
    (c.self.invariant.0, (c.self.invariant.1.0, known_never c.self.inside.collections.items _ none))

pub invariant_of-self-in-Some : goal.invariant_of-self-in-Some
invariant_of-self-in-Some g c =
    let xs = c.self.inside.collections.items in
    let at = c.in-Some.at in
    let due = c.in-Some.due in
    let e = c.index_mut.result.now in
    let f = c.take_first-object.new.self in
    let o = c.take_first-object.result in
    let took = c.take_first-object.ensures.took in
    let s = rw c.as_slice.ensures.value at c.in-Some.ensures in
    let sh = c.self.invariant.0 in
    let there = stood xs at due s e sh c.index_mut.ensures.value in
    let here = removed_entry e f (entry_here e.key xs at e there) c.take_first-object.ensures.key took.at took.left in
    let all = around xs at due e f o s (read_here xs at due s e c.index_mut.ensures.value) took in
    let fewer = one_fewer due (objects_in xs) (objects_in (slice_set xs at f)) o all (entries_sorted xs sh) in
    let known = known_removed xs (at, due) at e f took.at there.is took.left (known_found xs at due s) in
    (set_entries e.key xs at e there f (soonest_within xs at due s) c.take_first-object.ensures.key here, (count_less c.self.inside.count (length (objects_in xs)) (length (objects_in (slice_set xs at f))) c.self.invariant.1.0 fewer, known))
  where
    count_less : (count m n : ℕ) → count ≡ m → n + 1 ≡ m → count - 1 ≡ n
    count_less count m n p q = omega arith

pub returns-else-due-now-clause-first : goal.returns-else-due-now-clause-first
returns-else-due-now-clause-first g c =
    let xs = c.self.inside.collections.items in
    let at = c.in-Some.at in
    let due = c.in-Some.due in
    let e = c.index_mut.result.now in
    let f = c.take_first-object.new.self in
    let o = c.take_first-object.result in
    let s = rw c.as_slice.ensures.value at c.in-Some.ensures in
    let all = around xs at due e f o s (read_here xs at due s e c.index_mut.ensures.value) c.take_first-object.ensures.took in
    rw (← c.self.view_is) (expires_first due (objects_in xs) (objects_in (slice_set xs at f)) o all (entries_sorted xs c.self.invariant.0) c.args.now c.if-due-now.false)

pub returns-else-due-now-clause-taken : goal.returns-else-due-now-clause-taken
returns-else-due-now-clause-taken g c =
    let xs = c.self.inside.collections.items in
    let at = c.in-Some.at in
    let due = c.in-Some.due in
    let e = c.index_mut.result.now in
    let f = c.take_first-object.new.self in
    let o = c.take_first-object.result in
    let s = rw c.as_slice.ensures.value at c.in-Some.ensures in
    let all = around xs at due e f o s (read_here xs at due s e c.index_mut.ensures.value) c.take_first-object.ensures.took in
    rw (← c.self.view_is) (found_first due (objects_in xs) (objects_in (slice_set xs at f)) o all (entries_sorted xs c.self.invariant.0))

pub returns-else-due-now-clause-objects : goal.returns-else-due-now-clause-objects
returns-else-due-now-clause-objects g c =
    let xs = c.self.inside.collections.items in
    let at = c.in-Some.at in
    let due = c.in-Some.due in
    let e = c.index_mut.result.now in
    let f = c.take_first-object.new.self in
    let o = c.take_first-object.result in
    let s = rw c.as_slice.ensures.value at c.in-Some.ensures in
    let all = around xs at due e f o s (read_here xs at due s e c.index_mut.ensures.value) c.take_first-object.ensures.took in
    rw (← c.self.view_is) (left_first due (objects_in xs) (objects_in (slice_set xs at f)) o all (entries_sorted xs c.self.invariant.0))

pub returns-else-due-now-clause-kept : goal.returns-else-due-now-clause-kept
returns-else-due-now-clause-kept g c =
    let xs = c.self.inside.collections.items in
    let at = c.in-Some.at in
    let due = c.in-Some.due in
    let e = c.index_mut.result.now in
    let f = c.take_first-object.new.self in
    let o = c.take_first-object.result in
    let s = rw c.as_slice.ensures.value at c.in-Some.ensures in
    let there = stood xs at due s e c.self.invariant.0 c.index_mut.ensures.value in
    let k = of_its_key e due f.objects o (entry_here e.key xs at e there) c.take_first-object.ensures.took in
    let kept = kept_one e.key xs at e f there c.take_first-object.ensures.key c.take_first-object.ensures.spare in
    rw (← c.self.view_is) (subst (λ (n : Bytes). (k : Bytes) → room_for xs k + (if same n k then 1 else 0) ≤ room_for (slice_set xs at f) k) k kept)

pub returns-else-due-now-clause-keys : goal.returns-else-due-now-clause-keys
returns-else-due-now-clause-keys g c =
    let xs = c.self.inside.collections.items in
    let at = c.in-Some.at in
    let due = c.in-Some.due in
    let e = c.index_mut.result.now in
    let s = rw c.as_slice.ensures.value at c.in-Some.ensures in
    let there = stood xs at due s e c.self.invariant.0 c.index_mut.ensures.value in
    rw (← c.self.view_is) (same_keys e.key xs at e there c.take_first-object.new.self c.take_first-object.ensures.key)
