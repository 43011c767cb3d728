use Rattle.std.proofs.Common.{◌≡◌, true, ap, sym, subst, ◌∙◌, List, length}
use Rattle.collection.specs.Objects.{Held}
use Rattle.keyspace.specs.Entries.{Entry, objects_in, keys_of}
use Rattle.keyspace.specs.KeyOrder.{are_entries}
use Rattle.keyspace.proofs.Keys.{stands, lacks, left_entries}
use Rattle.keyspace.proofs.KeyLists.{is_needed, other_needed, gone_objects, given_up, needed, none_left_out}
use Rattle.keyspace.proofs.Held.{keys_given_up, keys_needed, keys_not_there}
use Rattle.keyspace.specs.FirstDue.{IsKnown}
use Rattle.keyspace.proofs.Known.{known_without}
use Rattle.keyspace.proofs.keyspaces.Keyspace.give_up.Goals as goal

pub invariant_of-self : goal.invariant_of-self
invariant_of-self c =
    let key = c.args.key.now in
    let xs = c.self.inside.collections.items in
    let e = c.index.result.now in
    let held = rw c.as_slice.ensures.value at c.in-Ok.ensures.held in
    let s = stands key xs c.in-Ok.at e c.self.invariant.0 held c.index.ensures in
    let own : length e.objects ≡ 0 = sym (c.len.ensures.count ∙ ap (λ (h : Held). length h.objects) c.objects.ensures) ∙ c.if-len-eq0.true in
    (subst (λ (l : List Entry). are_entries l ≡ true) (sym c.remove.ensures.items) (left_entries key xs c.in-Ok.at e s), (c.self.invariant.1.0 ∙ ap length (sym (gone_objects key xs c.in-Ok.at e s own)) ∙ ap (λ (l : List Entry). length (objects_in l)) (sym c.remove.ensures.items), subst (λ (l : List Entry). IsKnown l (0, c.self.inside.known.1)) (sym c.remove.ensures.items) (known_without xs c.self.inside.known c.in-Ok.at c.self.invariant.1.1)))

pub returns-then-len-eq0-clause-objects : goal.returns-then-len-eq0-clause-objects
returns-then-len-eq0-clause-objects c =
    let key = c.args.key.now in
    let xs = c.self.inside.collections.items in
    let e = c.index.result.now in
    let held = rw c.as_slice.ensures.value at c.in-Ok.ensures.held in
    let s = stands key xs c.in-Ok.at e c.self.invariant.0 held c.index.ensures in
    let own : length e.objects ≡ 0 = sym (c.len.ensures.count ∙ ap (λ (h : Held). length h.objects) c.objects.ensures) ∙ c.if-len-eq0.true in
    rw (← c.self.view_is) (ap objects_in c.remove.ensures.items ∙ gone_objects key xs c.in-Ok.at e s own)

pub returns-then-len-eq0-clause-given_up : goal.returns-then-len-eq0-clause-given_up
returns-then-len-eq0-clause-given_up c =
    let key = c.args.key.now in
    let xs = c.self.inside.collections.items in
    let e = c.index.result.now in
    let held = rw c.as_slice.ensures.value at c.in-Ok.ensures.held in
    let s = stands key xs c.in-Ok.at e c.self.invariant.0 held c.index.ensures in
    let own : length e.objects ≡ 0 = sym (c.len.ensures.count ∙ ap (λ (h : Held). length h.objects) c.objects.ensures) ∙ c.if-len-eq0.true in
    rw (← c.self.view_is) (c.remove.ensures.items ∙ sym (given_up key xs c.in-Ok.at e s own))

pub returns-else-len-eq0-clause-given_up : goal.returns-else-len-eq0-clause-given_up
returns-else-len-eq0-clause-given_up c =
    let key = c.args.key.now in
    let xs = c.self.inside.collections.items in
    let e = c.index.result.now in
    let held = rw c.as_slice.ensures.value at c.in-Ok.ensures.held in
    let s = stands key xs c.in-Ok.at e c.self.invariant.0 held c.index.ensures in
    rw (← c.self.view_is) (sym (needed key xs c.in-Ok.at e s (λ (z : length e.objects ≡ 0). c.if-len-eq0.false (c.len.ensures.count ∙ ap (λ (h : Held). length h.objects) c.objects.ensures ∙ z))))

pub returns-in-Err-clause-given_up : goal.returns-in-Err-clause-given_up
returns-in-Err-clause-given_up c =
    let key = c.args.key.now in
    let xs = c.self.inside.collections.items in
    let free = rw c.as_slice.ensures.value at c.in-Err.ensures.free in
    let s = lacks key xs c.in-Err.field-0 c.self.invariant.0 free in
    rw (← c.self.view_is) (sym (none_left_out key (is_needed key) (other_needed key) xs c.in-Err.field-0 s))

pub returns-then-len-eq0-clause-keys : goal.returns-then-len-eq0-clause-keys
returns-then-len-eq0-clause-keys c =
    let key = c.args.key.now in
    let xs = c.self.inside.collections.items in
    let e = c.index.result.now in
    let held = rw c.as_slice.ensures.value at c.in-Ok.ensures.held in
    let s = stands key xs c.in-Ok.at e c.self.invariant.0 held c.index.ensures in
    let own : length e.objects ≡ 0 = sym (c.len.ensures.count ∙ ap (λ (h : Held). length h.objects) c.objects.ensures) ∙ c.if-len-eq0.true in
    rw (← c.self.view_is) (ap keys_of (c.remove.ensures.items ∙ sym (given_up key xs c.in-Ok.at e s own)) ∙ keys_given_up key xs c.in-Ok.at e s own)

pub returns-else-len-eq0-clause-keys : goal.returns-else-len-eq0-clause-keys
returns-else-len-eq0-clause-keys c =
    let key = c.args.key.now in
    let xs = c.self.inside.collections.items in
    let e = c.index.result.now in
    let held = rw c.as_slice.ensures.value at c.in-Ok.ensures.held in
    let s = stands key xs c.in-Ok.at e c.self.invariant.0 held c.index.ensures in
    let some = λ (z : length e.objects ≡ 0). c.if-len-eq0.false (c.len.ensures.count ∙ ap (λ (h : Held). length h.objects) c.objects.ensures ∙ z) in
    rw (← c.self.view_is) (ap keys_of (sym (needed key xs c.in-Ok.at e s some)) ∙ keys_needed key xs c.in-Ok.at e s some)

pub returns-in-Err-clause-keys : goal.returns-in-Err-clause-keys
returns-in-Err-clause-keys c =
    let key = c.args.key.now in
    let xs = c.self.inside.collections.items in
    let free = rw c.as_slice.ensures.value at c.in-Err.ensures.free in
    rw (← c.self.view_is) (keys_not_there key xs c.in-Err.field-0 (lacks key xs c.in-Err.field-0 c.self.invariant.0 free))
