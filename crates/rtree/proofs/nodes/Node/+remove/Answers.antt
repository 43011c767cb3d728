use Rattle.std.proofs.Common.{rules, ◌≡◌, ℕ, ◌+◌, ◌-◌, ◌≤◌, ◌<◌, ◌++◌, ◌∷◌, Option, Some, None, List, All, length, take, drop, get_or, slice_set, vec_capacity, refl, arith, ap, sym, ◌∙◌, subst}
use Rattle.std.specs.List.{Contains, remove}
use Rattle.std.proofs.lemmas.List.{set-get_or}
use Rattle.std.proofs.lemmas.List.Elements.{All-get_or}
use Rattle.rtree.specs.declared.nodes.Slot.{Slot}
use Rattle.rtree.specs.Pairs.{Pair, IsInside, IsWith, IsOrdered}
use Rattle.rtree.specs.Subtrees.{Subtree, entries_at, nodes_of}
use Rattle.rtree.specs.Slots.{slot_entries, all_entries, all_nodes, subtree, IsSlot, IsThin, IsPlaceFor}
use Rattle.rtree.proofs.Slots.{height_low, nodes-append}
use Rattle.rtree.proofs.Places.{leaf_slot, split_at}
use Rattle.rtree.proofs.Lists.{all-without}
use Rattle.rtree.proofs.Losses.{absent_before}
use Rattle.rtree.proofs.Inserts.{made_slot}
use Rattle.rtree.proofs.Children.{child_of, whole_nodes}
use Rattle.rtree.proofs.Shrinks.{absent, leaf_absent, leaf_found, leaf_shrinks, leaf_less, inner_there, inner_shrinks, inner_thin, summed_slot}
use Rattle.rtree.proofs.nodes.Node.+remove.Goals as goal

nodes_within : (at : ℕ) (slots : List Slot) (s : Slot) → at < length slots → s ≡ get_or slots at s → nodes_of s.below ≤ all_nodes slots
nodes_within at slots s within read =
    let a = take at slots in
    let c = drop (at + 1) slots in
    let whole : a ++ (s ∷ c) ≡ slots = ap (λ t. a ++ (t ∷ c)) read ∙ sym (split_at slots at s within) in
    omega (arith, nodes-append a (s ∷ c), ap all_nodes whole)

-- a slot that is put back leaves the slots as they were
same_slots : (slots : List Slot) (at : ℕ) (s : Slot) (n m : Subtree) → s ≡ get_or slots at s → s.below ≡ Some n → m ≡ n → slice_set slots at (record { first = s.first; bounds = s.bounds; below = Some m }) ≡ slots
same_slots slots at s n m read below same =
    let over : Option Subtree → Slot = λ b. record { first = s.first; bounds = s.bounds; below = b } in
    ap (λ b. slice_set slots at (over b)) (ap Some same ∙ sym below) ∙ (ap (slice_set slots at) read ∙ set-get_or slots at s)

pub returns-then-place-eq0-clause-removed : goal.returns-then-place-eq0-clause-removed
returns-then-place-eq0-clause-removed g t0 c =
    let h = c.self.inside.height in
    let items = c.self.inside.slots.items in
    let e = c.args.entry.now in
    let k = c.place_for-place.result in
    let place = subst (λ xs. IsPlaceFor xs e k) c.as_slice.ensures.value c.place_for-place.ensures in
    let wide : length items ≡ c.args.self.now.width = ap (λ (v : Subtree). v.width) c.self.view_is in
    let tall : h ≡ c.args.self.now.height = ap (λ (v : Subtree). v.height) c.self.view_is in
    let nodes : all_nodes items + 1 ≡ c.args.self.now.nodes = ap (λ (v : Subtree). v.nodes) c.self.view_is in
    let d : Slot = record { first = e; bounds = e.bounds; below = None } in
    (subst (λ (v : Subtree). Contains v.entries e → ⊥) c.self.view_is (absent_before h _ items e k d c.self.invariant place c.if-place-eq0.true), refl)

pub returns-then-place-eq0-clause-cost : goal.returns-then-place-eq0-clause-cost
returns-then-place-eq0-clause-cost g t0 c =
    let h = c.self.inside.height in
    let items = c.self.inside.slots.items in
    let e = c.args.entry.now in
    let k = c.place_for-place.result in
    let place = subst (λ xs. IsPlaceFor xs e k) c.as_slice.ensures.value c.place_for-place.ensures in
    let wide : length items ≡ c.args.self.now.width = ap (λ (v : Subtree). v.width) c.self.view_is in
    let tall : h ≡ c.args.self.now.height = ap (λ (v : Subtree). v.height) c.self.view_is in
    let nodes : all_nodes items + 1 ≡ c.args.self.now.nodes = ap (λ (v : Subtree). v.nodes) c.self.view_is in
    let low = height_low h items c.self.invariant.each (omega (arith, wide, c.requires.least)) in
    omega (arith, low.0, tall, c.tick.ensures)

pub returns-then-is_before-clause-removed : goal.returns-then-is_before-clause-removed
returns-then-is_before-clause-removed g t0 c =
    let h = c.self.inside.height in
    let items = c.self.inside.slots.items in
    let e = c.args.entry.now in
    let k = c.place_for-place.result in
    let place = subst (λ xs. IsPlaceFor xs e k) c.as_slice.ensures.value c.place_for-place.ensures in
    let wide : length items ≡ c.args.self.now.width = ap (λ (v : Subtree). v.width) c.self.view_is in
    let tall : h ≡ c.args.self.now.height = ap (λ (v : Subtree). v.height) c.self.view_is in
    let nodes : all_nodes items + 1 ≡ c.args.self.now.nodes = ap (λ (v : Subtree). v.nodes) c.self.view_is in
    let at = c.place_for-place.result - 1 in
    let next : k ≡ at + 1 = omega (arith, c.if-place-eq0.false) in
    let within : at < length items = omega (arith, place.within, next) in
    let s = c.index.result.now in
    let read = c.index.ensures in
    let slot = subst (IsSlot h) (sym read) (All-get_or (IsSlot h) items at s within c.self.invariant.each) in
    let none = leaf_slot s (subst (λ n. IsSlot n s) c.if-self-eq1.true slot) in
    (subst (λ (v : Subtree). Contains v.entries e → ⊥) c.self.view_is (absent h _ items e k at s c.self.invariant place next read (leaf_absent s e none (sym c.is_before.ensures ∙ c.if-is_before.true))), refl)

pub invariant_of-self : goal.invariant_of-self
invariant_of-self g t0 c =
    let h = c.self.inside.height in
    let items = c.self.inside.slots.items in
    let e = c.args.entry.now in
    let k = c.place_for-place.result in
    let place = subst (λ xs. IsPlaceFor xs e k) c.as_slice.ensures.value c.place_for-place.ensures in
    let wide : length items ≡ c.args.self.now.width = ap (λ (v : Subtree). v.width) c.self.view_is in
    let tall : h ≡ c.args.self.now.height = ap (λ (v : Subtree). v.height) c.self.view_is in
    let nodes : all_nodes items + 1 ≡ c.args.self.now.nodes = ap (λ (v : Subtree). v.nodes) c.self.view_is in
    let at = c.place_for-place.result - 1 in
    let next : k ≡ at + 1 = omega (arith, c.if-place-eq0.false) in
    let within : at < length items = omega (arith, place.within, next) in
    let s = c.index.result.now in
    let read = c.index.ensures in
    let slot = subst (IsSlot h) (sym read) (All-get_or (IsSlot h) items at s within c.self.invariant.each) in
    let none = leaf_slot s (subst (λ n. IsSlot n s) c.if-self-eq1.true slot) in
    let first = leaf_found items e k at s place next read (sym c.is_before.ensures ∙ c.if-is_before.false) in
    rw (c.remove.ensures.items) (leaf_shrinks h _ (vec_capacity c.remove.new.self) items e at s c.self.invariant within read none first (omega (arith, c.self.invariant.roomy, c.remove.ensures.capacity))).node

pub returns-then-self-eq1-clause-removed : goal.returns-then-self-eq1-clause-removed
returns-then-self-eq1-clause-removed g t0 c =
    let h = c.self.inside.height in
    let items = c.self.inside.slots.items in
    let e = c.args.entry.now in
    let k = c.place_for-place.result in
    let place = subst (λ xs. IsPlaceFor xs e k) c.as_slice.ensures.value c.place_for-place.ensures in
    let wide : length items ≡ c.args.self.now.width = ap (λ (v : Subtree). v.width) c.self.view_is in
    let tall : h ≡ c.args.self.now.height = ap (λ (v : Subtree). v.height) c.self.view_is in
    let nodes : all_nodes items + 1 ≡ c.args.self.now.nodes = ap (λ (v : Subtree). v.nodes) c.self.view_is in
    let at = c.place_for-place.result - 1 in
    let next : k ≡ at + 1 = omega (arith, c.if-place-eq0.false) in
    let within : at < length items = omega (arith, place.within, next) in
    let s = c.index.result.now in
    let read = c.index.ensures in
    let slot = subst (IsSlot h) (sym read) (All-get_or (IsSlot h) items at s within c.self.invariant.each) in
    let none = leaf_slot s (subst (λ n. IsSlot n s) c.if-self-eq1.true slot) in
    let first = leaf_found items e k at s place next read (sym c.is_before.ensures ∙ c.if-is_before.false) in
    let all = (leaf_shrinks h _ 17 items e at s c.self.invariant within read none first (omega arith)).there in
    rw (c.remove.ensures.items) (subst (λ (v : Subtree). IsWith e (all_entries (remove items at)) v.entries) c.self.view_is all)

pub returns-then-self-eq1-clause-lists : goal.returns-then-self-eq1-clause-lists
returns-then-self-eq1-clause-lists g t0 c =
    let h = c.self.inside.height in
    let items = c.self.inside.slots.items in
    let e = c.args.entry.now in
    let k = c.place_for-place.result in
    let place = subst (λ xs. IsPlaceFor xs e k) c.as_slice.ensures.value c.place_for-place.ensures in
    let wide : length items ≡ c.args.self.now.width = ap (λ (v : Subtree). v.width) c.self.view_is in
    let tall : h ≡ c.args.self.now.height = ap (λ (v : Subtree). v.height) c.self.view_is in
    let nodes : all_nodes items + 1 ≡ c.args.self.now.nodes = ap (λ (v : Subtree). v.nodes) c.self.view_is in
    let at = c.place_for-place.result - 1 in
    let next : k ≡ at + 1 = omega (arith, c.if-place-eq0.false) in
    let within : at < length items = omega (arith, place.within, next) in
    let s = c.index.result.now in
    let read = c.index.ensures in
    let slot = subst (IsSlot h) (sym read) (All-get_or (IsSlot h) items at s within c.self.invariant.each) in
    let none = leaf_slot s (subst (λ n. IsSlot n s) c.if-self-eq1.true slot) in
    let same : all_nodes c.remove.new.self.items ≡ all_nodes items = ap all_nodes c.remove.ensures.items ∙ leaf_less items at s within read none in
    omega (arith, same, nodes)

pub remove-requires-2 : goal.remove-requires-2
remove-requires-2 g t0 c =
    let h = c.self.inside.height in
    let items = c.self.inside.slots.items in
    let e = c.args.entry.now in
    let k = c.place_for-place.result in
    let place = subst (λ xs. IsPlaceFor xs e k) c.as_slice.ensures.value c.place_for-place.ensures in
    let wide : length items ≡ c.args.self.now.width = ap (λ (v : Subtree). v.width) c.self.view_is in
    let tall : h ≡ c.args.self.now.height = ap (λ (v : Subtree). v.height) c.self.view_is in
    let nodes : all_nodes items + 1 ≡ c.args.self.now.nodes = ap (λ (v : Subtree). v.nodes) c.self.view_is in
    let at = c.place_for-place.result - 1 in
    let next : k ≡ at + 1 = omega (arith, c.if-place-eq0.false) in
    let within : at < length items = omega (arith, place.within, next) in
    let s = c.index_mut-slot.result.now in
    let read = c.index_mut-slot.ensures.value in
    let n = c.in-Some.child.now in
    let below : s.below ≡ Some n = sym c.in-Some.ensures.value in
    let child = child_of h _ at items s n c.self.invariant within read below in
    let own : nodes_of s.below ≡ n.nodes = ap nodes_of below in
    let some = nodes_within at items s within read in
    let lower : n.height < c.args.self.now.height = omega (arith, child.height, tall) in
    let least : 1 ≤ n.width = omega (arith, child.full.least) in
    let two : 1 < n.height → 2 ≤ n.width = λ _. omega (arith, child.full.least) in
    let most : n.width ≤ 16 = child.full.most in
    let room : c.args.pool.now.spare + n.nodes ≤ c.args.pool.now.room = omega (arith, c.requires.room, own, some, nodes) in
    search rules

pub returns-then-not-remove-clause-removed : goal.returns-then-not-remove-clause-removed
returns-then-not-remove-clause-removed g t0 c =
    let h = c.self.inside.height in
    let items = c.self.inside.slots.items in
    let e = c.args.entry.now in
    let k = c.place_for-place.result in
    let place = subst (λ xs. IsPlaceFor xs e k) c.as_slice.ensures.value c.place_for-place.ensures in
    let wide : length items ≡ c.args.self.now.width = ap (λ (v : Subtree). v.width) c.self.view_is in
    let tall : h ≡ c.args.self.now.height = ap (λ (v : Subtree). v.height) c.self.view_is in
    let nodes : all_nodes items + 1 ≡ c.args.self.now.nodes = ap (λ (v : Subtree). v.nodes) c.self.view_is in
    let at = c.place_for-place.result - 1 in
    let next : k ≡ at + 1 = omega (arith, c.if-place-eq0.false) in
    let within : at < length items = omega (arith, place.within, next) in
    let s = c.index_mut-slot.result.now in
    let read = c.index_mut-slot.ensures.value in
    let n = c.in-Some.child.now in
    let below : s.below ≡ Some n = sym c.in-Some.ensures.value in
    let child = child_of h _ at items s n c.self.invariant within read below in
    let own : nodes_of s.below ≡ n.nodes = ap nodes_of below in
    let some = nodes_within at items s within read in
    let gone = c.if-not-remove.ensures.removed in
    let there : slot_entries s ≡ n.entries = ap (entries_at s.first) below in
    let none = subst (λ es. Contains es e → ⊥) (sym there) gone.0 in
    (subst (λ (v : Subtree). Contains v.entries e → ⊥) c.self.view_is (absent h _ items e k at s c.self.invariant place next read none), ap (subtree h) (same_slots items at s n c.remove-2.new.self read below gone.1) ∙ c.self.view_is)

pub summary_without-first-requires-clause-held : goal.summary_without-first-requires-clause-held
summary_without-first-requires-clause-held g t0 c =
    let h = c.self.inside.height in
    let items = c.self.inside.slots.items in
    let e = c.args.entry.now in
    let k = c.place_for-place.result in
    let place = subst (λ xs. IsPlaceFor xs e k) c.as_slice.ensures.value c.place_for-place.ensures in
    let next : k ≡ c.place_for-place.result - 1 + 1 = omega (arith, c.if-place-eq0.false) in
    let at = c.place_for-place.result - 1 in
    let within : at < length items = omega (arith, place.within, next) in
    let s = c.index_mut-slot.result.now in
    let read = c.index_mut-slot.ensures.value in
    let n = c.in-Some.child.now in
    let below : s.below ≡ Some n = sym c.in-Some.ensures.value in
    let slot = subst (IsSlot h) (sym read) (All-get_or (IsSlot h) items at s within c.self.invariant.each) in
    let there : slot_entries s ≡ n.entries = ap (entries_at s.first) below in
    let w : IsWith e c.remove-2.new.self.entries n.entries = c.if-not-remove.ensures.removed in
    let P : Pair → Type 0 = λ p. IsInside s.bounds p.bounds in
    all-without P e c.remove-2.new.self.entries n.entries w (subst (All P) there slot.summed.covers)

pub invariant_of-self-then-width-ge-LEAST : goal.invariant_of-self-then-width-ge-LEAST
invariant_of-self-then-width-ge-LEAST g t0 c =
    let h = c.self.inside.height in
    let items = c.self.inside.slots.items in
    let e = c.args.entry.now in
    let k = c.place_for-place.result in
    let place = subst (λ xs. IsPlaceFor xs e k) c.as_slice.ensures.value c.place_for-place.ensures in
    let wide : length items ≡ c.args.self.now.width = ap (λ (v : Subtree). v.width) c.self.view_is in
    let tall : h ≡ c.args.self.now.height = ap (λ (v : Subtree). v.height) c.self.view_is in
    let nodes : all_nodes items + 1 ≡ c.args.self.now.nodes = ap (λ (v : Subtree). v.nodes) c.self.view_is in
    let at = c.place_for-place.result - 1 in
    let next : k ≡ at + 1 = omega (arith, c.if-place-eq0.false) in
    let within : at < length items = omega (arith, place.within, next) in
    let s = c.index_mut-slot.result.now in
    let read = c.index_mut-slot.ensures.value in
    let n = c.in-Some.child.now in
    let below : s.below ≡ Some n = sym c.in-Some.ensures.value in
    let child = child_of h _ at items s n c.self.invariant within read below in
    let own : nodes_of s.below ≡ n.nodes = ap nodes_of below in
    let some = nodes_within at items s within read in
    let m = c.remove-2.new.self in
    let first = c.summary_without-first.result.0 in
    let box = c.summary_without-first.result.1 in
    let t : Slot = record { first = first; bounds = box; below = Some m } in
    let level : m.height + 1 ≡ h = omega (arith, child.height, c.remove-2.ensures.height) in
    let w : IsWith e m.entries n.entries = c.if-not-remove.ensures.removed in
    let slot = made_slot h m first box level c.summary_without-first.ensures.begins c.summary_without-first.ensures.covers (c.summary_without-first.ensures.full (omega (arith, c.width-width.ensures, c.if-width-ge-LEAST.true)) (omega (arith, c.remove-2.ensures.no_wider, child.full.most))) in
    (inner_shrinks h _ (vec_capacity c.self.inside.slots) items e at s t n c.self.invariant within read below w slot c.self.invariant.roomy).node

pub returns-then-width-ge-LEAST-clause-removed : goal.returns-then-width-ge-LEAST-clause-removed
returns-then-width-ge-LEAST-clause-removed g t0 c =
    let h = c.self.inside.height in
    let items = c.self.inside.slots.items in
    let e = c.args.entry.now in
    let k = c.place_for-place.result in
    let place = subst (λ xs. IsPlaceFor xs e k) c.as_slice.ensures.value c.place_for-place.ensures in
    let wide : length items ≡ c.args.self.now.width = ap (λ (v : Subtree). v.width) c.self.view_is in
    let tall : h ≡ c.args.self.now.height = ap (λ (v : Subtree). v.height) c.self.view_is in
    let nodes : all_nodes items + 1 ≡ c.args.self.now.nodes = ap (λ (v : Subtree). v.nodes) c.self.view_is in
    let at = c.place_for-place.result - 1 in
    let next : k ≡ at + 1 = omega (arith, c.if-place-eq0.false) in
    let within : at < length items = omega (arith, place.within, next) in
    let s = c.index_mut-slot.result.now in
    let read = c.index_mut-slot.ensures.value in
    let n = c.in-Some.child.now in
    let below : s.below ≡ Some n = sym c.in-Some.ensures.value in
    let child = child_of h _ at items s n c.self.invariant within read below in
    let own : nodes_of s.below ≡ n.nodes = ap nodes_of below in
    let some = nodes_within at items s within read in
    let m = c.remove-2.new.self in
    let first = c.summary_without-first.result.0 in
    let box = c.summary_without-first.result.1 in
    let t : Slot = record { first = first; bounds = box; below = Some m } in
    let level : m.height + 1 ≡ h = omega (arith, child.height, c.remove-2.ensures.height) in
    let w : IsWith e m.entries n.entries = c.if-not-remove.ensures.removed in
    subst (λ (v : Subtree). IsWith e (all_entries (slice_set items at t)) v.entries) c.self.view_is (inner_there items e at s t n within read below w)

pub returns-then-width-ge-LEAST-clause-lists : goal.returns-then-width-ge-LEAST-clause-lists
returns-then-width-ge-LEAST-clause-lists g t0 c =
    let h = c.self.inside.height in
    let items = c.self.inside.slots.items in
    let e = c.args.entry.now in
    let k = c.place_for-place.result in
    let place = subst (λ xs. IsPlaceFor xs e k) c.as_slice.ensures.value c.place_for-place.ensures in
    let wide : length items ≡ c.args.self.now.width = ap (λ (v : Subtree). v.width) c.self.view_is in
    let tall : h ≡ c.args.self.now.height = ap (λ (v : Subtree). v.height) c.self.view_is in
    let nodes : all_nodes items + 1 ≡ c.args.self.now.nodes = ap (λ (v : Subtree). v.nodes) c.self.view_is in
    let at = c.place_for-place.result - 1 in
    let next : k ≡ at + 1 = omega (arith, c.if-place-eq0.false) in
    let within : at < length items = omega (arith, place.within, next) in
    let s = c.index_mut-slot.result.now in
    let read = c.index_mut-slot.ensures.value in
    let n = c.in-Some.child.now in
    let below : s.below ≡ Some n = sym c.in-Some.ensures.value in
    let child = child_of h _ at items s n c.self.invariant within read below in
    let own : nodes_of s.below ≡ n.nodes = ap nodes_of below in
    let some = nodes_within at items s within read in
    let m = c.remove-2.new.self in
    let first = c.summary_without-first.result.0 in
    let box = c.summary_without-first.result.1 in
    let t : Slot = record { first = first; bounds = box; below = Some m } in
    let level : m.height + 1 ≡ h = omega (arith, child.height, c.remove-2.ensures.height) in
    let w : IsWith e m.entries n.entries = c.if-not-remove.ensures.removed in
    omega (arith, whole_nodes at items s t within read, own, nodes, c.remove-2.ensures.lists)

pub mend-requires-clause-thin : goal.mend-requires-clause-thin
mend-requires-clause-thin g t0 c =
    let h = c.self.inside.height in
    let items = c.self.inside.slots.items in
    let e = c.args.entry.now in
    let k = c.place_for-place.result in
    let place = subst (λ xs. IsPlaceFor xs e k) c.as_slice.ensures.value c.place_for-place.ensures in
    let wide : length items ≡ c.args.self.now.width = ap (λ (v : Subtree). v.width) c.self.view_is in
    let tall : h ≡ c.args.self.now.height = ap (λ (v : Subtree). v.height) c.self.view_is in
    let nodes : all_nodes items + 1 ≡ c.args.self.now.nodes = ap (λ (v : Subtree). v.nodes) c.self.view_is in
    let at = c.place_for-place.result - 1 in
    let next : k ≡ at + 1 = omega (arith, c.if-place-eq0.false) in
    let within : at < length items = omega (arith, place.within, next) in
    let s = c.index_mut-slot.result.now in
    let read = c.index_mut-slot.ensures.value in
    let n = c.in-Some.child.now in
    let below : s.below ≡ Some n = sym c.in-Some.ensures.value in
    let child = child_of h _ at items s n c.self.invariant within read below in
    let own : nodes_of s.below ≡ n.nodes = ap nodes_of below in
    let some = nodes_within at items s within read in
    let m = c.remove-2.new.self in
    let first = c.summary_without-first.result.0 in
    let box = c.summary_without-first.result.1 in
    let t : Slot = record { first = first; bounds = box; below = Some m } in
    let level : m.height + 1 ≡ h = omega (arith, child.height, c.remove-2.ensures.height) in
    let w : IsWith e m.entries n.entries = c.if-not-remove.ensures.removed in
    let slim : m.width ≡ 7 = omega (arith, c.width-width.ensures, c.if-width-ge-LEAST.false, c.remove-2.ensures.width, child.full.least) in
    let slot : IsThin h t = record { summed = summed_slot h m first box level c.summary_without-first.ensures.begins c.summary_without-first.ensures.covers; thin = slim } in
    let above : 2 ≤ h = omega (arith, child.height, child.full.high) in
    let two : 2 ≤ length items = omega (arith, wide, c.requires.two (omega (arith, tall, above))) in
    let sick = inner_thin h _ items e at s t n c.self.invariant within read below w slot above two in
    (h, sick)

pub mend-requires-clause-room : goal.mend-requires-clause-room
mend-requires-clause-room g t0 c =
    let h = c.self.inside.height in
    let items = c.self.inside.slots.items in
    let e = c.args.entry.now in
    let k = c.place_for-place.result in
    let place = subst (λ xs. IsPlaceFor xs e k) c.as_slice.ensures.value c.place_for-place.ensures in
    let wide : length items ≡ c.args.self.now.width = ap (λ (v : Subtree). v.width) c.self.view_is in
    let tall : h ≡ c.args.self.now.height = ap (λ (v : Subtree). v.height) c.self.view_is in
    let nodes : all_nodes items + 1 ≡ c.args.self.now.nodes = ap (λ (v : Subtree). v.nodes) c.self.view_is in
    let at = c.place_for-place.result - 1 in
    let next : k ≡ at + 1 = omega (arith, c.if-place-eq0.false) in
    let within : at < length items = omega (arith, place.within, next) in
    let s = c.index_mut-slot.result.now in
    let read = c.index_mut-slot.ensures.value in
    let n = c.in-Some.child.now in
    let below : s.below ≡ Some n = sym c.in-Some.ensures.value in
    let child = child_of h _ at items s n c.self.invariant within read below in
    let own : nodes_of s.below ≡ n.nodes = ap nodes_of below in
    let some = nodes_within at items s within read in
    omega (arith, own, some, nodes, c.requires.room, c.remove-2.ensures.lists, c.remove-2.ensures.room)

pub invariant_of-self-2 : goal.invariant_of-self-2
invariant_of-self-2 g t0 c =
    let h = c.self.inside.height in
    let items = c.self.inside.slots.items in
    let e = c.args.entry.now in
    let k = c.place_for-place.result in
    let place = subst (λ xs. IsPlaceFor xs e k) c.as_slice.ensures.value c.place_for-place.ensures in
    let wide : length items ≡ c.args.self.now.width = ap (λ (v : Subtree). v.width) c.self.view_is in
    let tall : h ≡ c.args.self.now.height = ap (λ (v : Subtree). v.height) c.self.view_is in
    let nodes : all_nodes items + 1 ≡ c.args.self.now.nodes = ap (λ (v : Subtree). v.nodes) c.self.view_is in
    let at = c.place_for-place.result - 1 in
    let next : k ≡ at + 1 = omega (arith, c.if-place-eq0.false) in
    let within : at < length items = omega (arith, place.within, next) in
    let s = c.index_mut-slot.result.now in
    let read = c.index_mut-slot.ensures.value in
    let n = c.in-Some.child.now in
    let below : s.below ≡ Some n = sym c.in-Some.ensures.value in
    let child = child_of h _ at items s n c.self.invariant within read below in
    let own : nodes_of s.below ≡ n.nodes = ap nodes_of below in
    let some = nodes_within at items s within read in
    let m = c.remove-2.new.self in
    let first = c.summary_without-first.result.0 in
    let box = c.summary_without-first.result.1 in
    let t : Slot = record { first = first; bounds = box; below = Some m } in
    let level : m.height + 1 ≡ h = omega (arith, child.height, c.remove-2.ensures.height) in
    let w : IsWith e m.entries n.entries = c.if-not-remove.ensures.removed in
    let slim : m.width ≡ 7 = omega (arith, c.width-width.ensures, c.if-width-ge-LEAST.false, c.remove-2.ensures.width, child.full.least) in
    let slot : IsThin h t = record { summed = summed_slot h m first box level c.summary_without-first.ensures.begins c.summary_without-first.ensures.covers; thin = slim } in
    let above : 2 ≤ h = omega (arith, child.height, child.full.high) in
    let two : 2 ≤ length items = omega (arith, wide, c.requires.two (omega (arith, tall, above))) in
    let sick = inner_thin h _ items e at s t n c.self.invariant within read below w slot above two in
    record {
      each = c.mend.ensures.slots h sick;
      ordered = subst IsOrdered (sym c.mend.ensures.entries) sick.ordered;
      roomy = omega (arith, c.self.invariant.roomy, c.mend.ensures.capacity);
    }

pub returns-clause-removed : goal.returns-clause-removed
returns-clause-removed g t0 c =
    let h = c.self.inside.height in
    let items = c.self.inside.slots.items in
    let e = c.args.entry.now in
    let k = c.place_for-place.result in
    let place = subst (λ xs. IsPlaceFor xs e k) c.as_slice.ensures.value c.place_for-place.ensures in
    let wide : length items ≡ c.args.self.now.width = ap (λ (v : Subtree). v.width) c.self.view_is in
    let tall : h ≡ c.args.self.now.height = ap (λ (v : Subtree). v.height) c.self.view_is in
    let nodes : all_nodes items + 1 ≡ c.args.self.now.nodes = ap (λ (v : Subtree). v.nodes) c.self.view_is in
    let at = c.place_for-place.result - 1 in
    let next : k ≡ at + 1 = omega (arith, c.if-place-eq0.false) in
    let within : at < length items = omega (arith, place.within, next) in
    let s = c.index_mut-slot.result.now in
    let read = c.index_mut-slot.ensures.value in
    let n = c.in-Some.child.now in
    let below : s.below ≡ Some n = sym c.in-Some.ensures.value in
    let child = child_of h _ at items s n c.self.invariant within read below in
    let own : nodes_of s.below ≡ n.nodes = ap nodes_of below in
    let some = nodes_within at items s within read in
    let m = c.remove-2.new.self in
    let first = c.summary_without-first.result.0 in
    let box = c.summary_without-first.result.1 in
    let t : Slot = record { first = first; bounds = box; below = Some m } in
    let level : m.height + 1 ≡ h = omega (arith, child.height, c.remove-2.ensures.height) in
    let w : IsWith e m.entries n.entries = c.if-not-remove.ensures.removed in
    let all = subst (λ es. IsWith e es (all_entries items)) (sym c.mend.ensures.entries) (inner_there items e at s t n within read below w) in
    subst (λ (v : Subtree). IsWith e (all_entries c.mend.new.slots.items) v.entries) c.self.view_is all

pub returns-clause-lists : goal.returns-clause-lists
returns-clause-lists g t0 c =
    let h = c.self.inside.height in
    let items = c.self.inside.slots.items in
    let e = c.args.entry.now in
    let k = c.place_for-place.result in
    let place = subst (λ xs. IsPlaceFor xs e k) c.as_slice.ensures.value c.place_for-place.ensures in
    let wide : length items ≡ c.args.self.now.width = ap (λ (v : Subtree). v.width) c.self.view_is in
    let tall : h ≡ c.args.self.now.height = ap (λ (v : Subtree). v.height) c.self.view_is in
    let nodes : all_nodes items + 1 ≡ c.args.self.now.nodes = ap (λ (v : Subtree). v.nodes) c.self.view_is in
    let at = c.place_for-place.result - 1 in
    let next : k ≡ at + 1 = omega (arith, c.if-place-eq0.false) in
    let within : at < length items = omega (arith, place.within, next) in
    let s = c.index_mut-slot.result.now in
    let read = c.index_mut-slot.ensures.value in
    let n = c.in-Some.child.now in
    let below : s.below ≡ Some n = sym c.in-Some.ensures.value in
    let child = child_of h _ at items s n c.self.invariant within read below in
    let own : nodes_of s.below ≡ n.nodes = ap nodes_of below in
    let some = nodes_within at items s within read in
    let m = c.remove-2.new.self in
    let first = c.summary_without-first.result.0 in
    let box = c.summary_without-first.result.1 in
    let t : Slot = record { first = first; bounds = box; below = Some m } in
    let level : m.height + 1 ≡ h = omega (arith, child.height, c.remove-2.ensures.height) in
    let w : IsWith e m.entries n.entries = c.if-not-remove.ensures.removed in
    omega (arith, whole_nodes at items s t within read, own, nodes, c.remove-2.ensures.lists, c.mend.ensures.lists)
