use Rattle.std.proofs.Common.{◌≡◌, ◌+◌, ◌-◌, ◌≤◌, ℕ, true, ap, sym, subst, ◌∙◌, List, length, arith}
use Rattle.std.specs.List.{remove}
use Rattle.collection.specs.Objects.{Held}
use Rattle.keyspace.specs.Entries.{Entry, objects_in, keys_of}
use Rattle.keyspace.specs.KeyOrder.{are_entries}
use Rattle.keyspace.proofs.Keys.{stands, lacks, left_entries}
use Rattle.keyspace.proofs.Lookups.{others_in, others_stay, length_taken, at_most_all}
use Rattle.keyspace.proofs.KeyLists.{is_other, other_stays, key_left_out, none_left_out}
use Rattle.keyspace.proofs.Held.{keys_dropped}
use Rattle.keyspace.specs.FirstDue.{IsKnown}
use Rattle.keyspace.proofs.Known.{known_without}
use Rattle.keyspace.proofs.keyspaces.Keyspace.drop_key.Goals as goal

pub overflow_sub-self : goal.overflow_sub-self
overflow_sub-self c =
    let key = c.args.key.now in
    let xs = c.self.inside.collections.items in
    let e = c.remove-keyed.result in
    let held = rw c.as_slice.ensures.value at c.in-Ok.ensures.held in
    let s = stands key xs c.in-Ok.at e c.self.invariant.0 held c.remove-keyed.ensures.value in
    let most : length e.objects ≤ length (objects_in xs) = at_most_all key xs c.in-Ok.at e s in
    let count : c.self.inside.count ≡ length (objects_in xs) = c.self.invariant.1.0 in
    let own : c.len.result ≡ length e.objects = c.len.ensures.count ∙ ap (λ (h : Held). length h.objects) c.objects.ensures in
    omega (arith, most, count, own)

pub invariant_of-self : goal.invariant_of-self
invariant_of-self c =
    let key = c.args.key.now in
    let xs = c.self.inside.collections.items in
    let e = c.remove-keyed.result in
    let held = rw c.as_slice.ensures.value at c.in-Ok.ensures.held in
    let s = stands key xs c.in-Ok.at e c.self.invariant.0 held c.remove-keyed.ensures.value in
    let own : c.len.result ≡ length e.objects = c.len.ensures.count ∙ ap (λ (h : Held). length h.objects) c.objects.ensures in
    let less = length_taken key xs c.in-Ok.at e s in
    let count = left_count c.self.inside.count c.len.result (length (objects_in (remove xs c.in-Ok.at))) (length (objects_in xs)) (length e.objects) c.self.invariant.1.0 own less in
    (subst (λ (l : List Entry). are_entries l ≡ true) (sym c.remove-keyed.ensures.items) (left_entries key xs c.in-Ok.at e s), (count ∙ ap (λ (l : List Entry). length (objects_in l)) (sym c.remove-keyed.ensures.items), subst (λ (l : List Entry). IsKnown l (0, c.self.inside.known.1)) (sym c.remove-keyed.ensures.items) (known_without xs c.self.inside.known c.in-Ok.at c.self.invariant.1.1)))
  where
    left_count : (count r n m e : ℕ) → count ≡ m → r ≡ e → n + e ≡ m → count - r ≡ n
    left_count count r n m e p q t = omega arith

pub returns-in-Ok-clause-objects : goal.returns-in-Ok-clause-objects
returns-in-Ok-clause-objects c =
    let key = c.args.key.now in
    let xs = c.self.inside.collections.items in
    let e = c.remove-keyed.result in
    let held = rw c.as_slice.ensures.value at c.in-Ok.ensures.held in
    let s = stands key xs c.in-Ok.at e c.self.invariant.0 held c.remove-keyed.ensures.value in
    rw (← c.self.view_is) (ap objects_in c.remove-keyed.ensures.items ∙ others_in key xs c.in-Ok.at e s)

pub returns-in-Err-clause-objects : goal.returns-in-Err-clause-objects
returns-in-Err-clause-objects c =
    let key = c.args.key.now in
    let xs = c.self.inside.collections.items in
    let free = rw c.as_slice.ensures.value at c.in-Err.ensures.free in
    rw (← c.self.view_is) (others_stay key xs c.in-Err.field-0 (lacks key xs c.in-Err.field-0 c.self.invariant.0 free))

pub returns-in-Ok-clause-others : goal.returns-in-Ok-clause-others
returns-in-Ok-clause-others c =
    let key = c.args.key.now in
    let xs = c.self.inside.collections.items in
    let e = c.remove-keyed.result in
    let held = rw c.as_slice.ensures.value at c.in-Ok.ensures.held in
    let s = stands key xs c.in-Ok.at e c.self.invariant.0 held c.remove-keyed.ensures.value in
    rw (← c.self.view_is) (c.remove-keyed.ensures.items ∙ sym (key_left_out key xs c.in-Ok.at e s))

pub returns-in-Err-clause-others : goal.returns-in-Err-clause-others
returns-in-Err-clause-others c =
    let key = c.args.key.now in
    let xs = c.self.inside.collections.items in
    let free = rw c.as_slice.ensures.value at c.in-Err.ensures.free in
    let s = lacks key xs c.in-Err.field-0 c.self.invariant.0 free in
    rw (← c.self.view_is) (sym (none_left_out key (is_other key) (other_stays key) xs c.in-Err.field-0 s))

pub returns-in-Ok-clause-keys : goal.returns-in-Ok-clause-keys
returns-in-Ok-clause-keys c =
    let key = c.args.key.now in
    let xs = c.self.inside.collections.items in
    let e = c.remove-keyed.result in
    let held = rw c.as_slice.ensures.value at c.in-Ok.ensures.held in
    let s = stands key xs c.in-Ok.at e c.self.invariant.0 held c.remove-keyed.ensures.value in
    rw (← c.self.view_is) (ap keys_of (c.remove-keyed.ensures.items ∙ sym (key_left_out key xs c.in-Ok.at e s)) ∙ keys_dropped key xs)

pub returns-in-Err-clause-keys : goal.returns-in-Err-clause-keys
returns-in-Err-clause-keys c =
    let key = c.args.key.now in
    let xs = c.self.inside.collections.items in
    let free = rw c.as_slice.ensures.value at c.in-Err.ensures.free in
    let s = lacks key xs c.in-Err.field-0 c.self.invariant.0 free in
    rw (← c.self.view_is) (ap keys_of (sym (none_left_out key (is_other key) (other_stays key) xs c.in-Err.field-0 s)) ∙ keys_dropped key xs)
