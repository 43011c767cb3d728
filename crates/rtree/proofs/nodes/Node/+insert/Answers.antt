use Rattle.std.proofs.Common.{rules, ◌*◌, ◌≡◌, ℕ, ◌+◌, ◌≤◌, ◌<◌, ◌++◌, ◌∷◌, Some, length, drop, vec_capacity, slice_set, min, length-set, arith, ap, sym, ◌∙◌, subst, All, append-nil}
use Rattle.std.proofs.lemmas.List.Elements.{All-get_or}
use Rattle.planar_geom.specs.Points.{Bounds, box_round_both}
use Rattle.rtree.specs.declared.nodes.Slot.{Slot}
use Rattle.rtree.specs.Pairs.{Pair, IsInside, IsPut, IsOrdered}
use Rattle.rtree.specs.Subtrees.{Subtree, entries_at, nodes_of, IsFull}
use Rattle.rtree.specs.Slots.{slot_entries, all_entries, all_nodes, IsSlot, IsPlaceFor}
use Rattle.rtree.proofs.Slots.{full_of, root_of}
use Rattle.rtree.proofs.Inserts.{leaf_grows, leaf_nodes, made_slot, widened_slot, spare_left}
use Rattle.rtree.proofs.Children.{Child, child_of, few_others, whole_grows, whole_nodes, split_grows, split_nodes}
use Rattle.rtree.proofs.nodes.Node.+insert.Goals as goal

pub invariant_of-self : goal.invariant_of-self
invariant_of-self g t c =
    let items = c.self.inside.slots.items in
    let place = subst (λ xs. IsPlaceFor xs c.args.entry c.place_for-place.result) c.as_slice.ensures.value c.place_for-place.ensures in
    let all = leaf_grows c.self.inside.height _ (vec_capacity c.put.new.list) items c.args.entry c.place_for-place.result c.of.result c.self.invariant place c.if-self-eq1.true c.of.ensures.slot c.of.ensures.first c.of.ensures.below (omega (arith, c.self.invariant.roomy)) in
    rw (c.put.ensures.items) all.node

pub halve-requires-clause-spare : goal.halve-requires-clause-spare
halve-requires-clause-spare g t c =
    let items = c.self.inside.slots.items in
    let place = subst (λ xs. IsPlaceFor xs c.args.entry c.place_for-place.result) c.as_slice.ensures.value c.place_for-place.ensures in
    let all = leaf_grows c.self.inside.height _ 17 items c.args.entry c.place_for-place.result c.of.result c.self.invariant place c.if-self-eq1.true c.of.ensures.slot c.of.ensures.first c.of.ensures.below (omega arith) in
    let put = subst (λ xs. IsPut c.args.entry (all_entries items) (all_entries xs)) (sym c.put.ensures.items) all.put in
    let each = subst (All (IsSlot c.self.inside.height)) (sym c.put.ensures.items) all.node.each in
    let same : all_nodes c.put.new.list.items ≡ all_nodes items = ap all_nodes c.put.ensures.items ∙ leaf_nodes items c.place_for-place.result c.of.result c.of.ensures.below in
    let nodes : all_nodes items + 1 ≡ c.args.self.now.nodes = ap (λ (v : Subtree). v.nodes) c.self.view_is in
    let size : length (all_entries items) ≡ length c.args.self.now.entries = ap (λ (v : Subtree). length v.entries) c.self.view_is in
    λ wide. spare_left c.self.inside.height c.args.pool.now.spare c.args.pool.now.spare c.args.entry items c.put.new.list.items each put wide (omega arith) (omega (arith, c.requires.spare))

pub returns-then-self-eq1-clause-entries : goal.returns-then-self-eq1-clause-entries
returns-then-self-eq1-clause-entries g t c =
    let items = c.self.inside.slots.items in
    let place = subst (λ xs. IsPlaceFor xs c.args.entry c.place_for-place.result) c.as_slice.ensures.value c.place_for-place.ensures in
    let all = leaf_grows c.self.inside.height _ 17 items c.args.entry c.place_for-place.result c.of.result c.self.invariant place c.if-self-eq1.true c.of.ensures.slot c.of.ensures.first c.of.ensures.below (omega arith) in
    let put = subst (λ xs. IsPut c.args.entry (all_entries items) (all_entries xs)) (sym c.put.ensures.items) all.put in
    let put' = subst (λ (v : Subtree). IsPut c.args.entry v.entries (all_entries c.put.new.list.items)) c.self.view_is put in
    subst (λ es. IsPut c.args.entry c.args.self.now.entries es) (sym c.halve.ensures.entries) put'

pub returns-then-self-eq1-clause-lists : goal.returns-then-self-eq1-clause-lists
returns-then-self-eq1-clause-lists g t c =
    let items = c.self.inside.slots.items in
    let nodes : all_nodes items + 1 ≡ c.args.self.now.nodes = ap (λ (v : Subtree). v.nodes) c.self.view_is in
    let same : all_nodes c.put.new.list.items ≡ all_nodes items = ap all_nodes c.put.ensures.items ∙ leaf_nodes items c.place_for-place.result c.of.result c.of.ensures.below in
    omega (arith, c.halve.ensures.lists)

-- the slot over the child with the pair more
abbrev made : Pair → Bounds → Subtree → Slot
made first box n = record { first = first; bounds = box; below = Some n }

child_slot : (h : ℕ) (n m : Subtree) (first : Pair) (box : Bounds) → Child h n → m.height ≡ n.height → min 8 n.width ≤ m.width → m.width ≤ 16 → m.entries ≡ first ∷ drop 1 m.entries → All (λ p. IsInside box p.bounds) m.entries → (8 ≤ m.width → m.width ≤ 16 → IsFull m) → IsSlot h (made first box m)
child_slot h n m first box child height width most begins covers full =
    made_slot h m first box (omega (arith, child.height)) begins covers (full (omega (arith, child.full.least)) most)

pub insert-requires : goal.insert-requires
insert-requires g t c =
    let h = c.self.inside.height in
    let items = c.self.inside.slots.items in
    let at = c.saturating_sub-at.result in
    let s = c.index_mut-slot.result.now in
    let n = c.in_ok-child.child.now in
    let wide : length items ≡ c.args.self.now.width = ap (λ (v : Subtree). v.width) c.self.view_is in
    let tall : h ≡ c.args.self.now.height = ap (λ (v : Subtree). v.height) c.self.view_is in
    let nodes : all_nodes items + 1 ≡ c.args.self.now.nodes = ap (λ (v : Subtree). v.nodes) c.self.view_is in
    let size : length (all_entries items) ≡ length c.args.self.now.entries = ap (λ (v : Subtree). length v.entries) c.self.view_is in
    let place = subst (λ xs. IsPlaceFor xs c.args.entry c.place_for-place.result) c.as_slice.ensures.value c.place_for-place.ensures in
    let within : at < length items = omega (arith, c.requires.least, place.within, c.saturating_sub-at.ensures) in
    let below : s.below ≡ Some n = sym c.in_ok-child.ensures.value in
    let child = child_of h _ at items s n c.self.invariant within c.index_mut-slot.ensures.value below in
    let others = few_others h _ at items s n c.self.invariant within c.index_mut-slot.ensures.value below in
    let lower : n.height < c.args.self.now.height = omega (arith, child.height, tall) in
    let least : 1 ≤ n.width = omega (arith, child.full.least) in
    let most : n.width ≤ 16 = child.full.most in
    let spare : length n.entries + 3 ≤ 7 * (c.args.pool.now.spare + n.nodes) + min n.width 8 = omega (arith, child.full.least, others, c.requires.spare) in
    search rules

pub invariant_of-self-in_default : goal.invariant_of-self-in_default
invariant_of-self-in_default g t c =
    let h = c.self.inside.height in
    let items = c.self.inside.slots.items in
    let e = c.args.entry in
    let k = c.place_for-place.result in
    let at = c.saturating_sub-at.result in
    let s = c.index_mut-slot.result.now in
    let n = c.in_ok-child.child.now in
    let m = c.insert.new.self in
    let first = c.earlier-slot.result in
    let box = c.with_box-slot.result in
    let wide : length items ≡ c.args.self.now.width = ap (λ (v : Subtree). v.width) c.self.view_is in
    let place = subst (λ xs. IsPlaceFor xs e k) c.as_slice.ensures.value c.place_for-place.ensures in
    let within : at < length items = omega (arith, c.requires.least, place.within, c.saturating_sub-at.ensures) in
    let below : s.below ≡ Some n = sym c.in_ok-child.ensures.value in
    let child = child_of h _ at items s n c.self.invariant within c.index_mut-slot.ensures.value below in
    let own_slot = subst (IsSlot h) (sym c.index_mut-slot.ensures.value) (All-get_or (IsSlot h) items at s within c.self.invariant.each) in
    let full = c.insert.ensures.full (omega (arith, child.full.least, c.insert.ensures.width)) c.in_default.ensures.halved in
    let put = subst (IsPut e n.entries) (append-nil m.entries) c.in_default.ensures.entries in
    let slot = widened_slot h s n m e first box own_slot below c.insert.ensures.height put full c.bounds.ensures.is_box c.earlier-slot.ensures (c.with_box-slot.ensures ∙ ap (box_round_both s.bounds) c.bounds.ensures.value) in
    (whole_grows h _ (vec_capacity c.self.inside.slots) at k items e s (made first box m) n c.self.invariant place c.saturating_sub-at.ensures within c.index_mut-slot.ensures.value below slot put c.self.invariant.roomy).node

pub returns-in_default-clause-entries : goal.returns-in_default-clause-entries
returns-in_default-clause-entries g t c =
    let h = c.self.inside.height in
    let items = c.self.inside.slots.items in
    let e = c.args.entry in
    let k = c.place_for-place.result in
    let at = c.saturating_sub-at.result in
    let s = c.index_mut-slot.result.now in
    let n = c.in_ok-child.child.now in
    let m = c.insert.new.self in
    let first = c.earlier-slot.result in
    let box = c.with_box-slot.result in
    let wide : length items ≡ c.args.self.now.width = ap (λ (v : Subtree). v.width) c.self.view_is in
    let place = subst (λ xs. IsPlaceFor xs e k) c.as_slice.ensures.value c.place_for-place.ensures in
    let within : at < length items = omega (arith, c.requires.least, place.within, c.saturating_sub-at.ensures) in
    let below : s.below ≡ Some n = sym c.in_ok-child.ensures.value in
    let child = child_of h _ at items s n c.self.invariant within c.index_mut-slot.ensures.value below in
    let own_slot = subst (IsSlot h) (sym c.index_mut-slot.ensures.value) (All-get_or (IsSlot h) items at s within c.self.invariant.each) in
    let full = c.insert.ensures.full (omega (arith, child.full.least, c.insert.ensures.width)) c.in_default.ensures.halved in
    let put = subst (IsPut e n.entries) (append-nil m.entries) c.in_default.ensures.entries in
    let slot = widened_slot h s n m e first box own_slot below c.insert.ensures.height put full c.bounds.ensures.is_box c.earlier-slot.ensures (c.with_box-slot.ensures ∙ ap (box_round_both s.bounds) c.bounds.ensures.value) in
    let all = whole_grows h _ 17 at k items e s (made first box m) n c.self.invariant place c.saturating_sub-at.ensures within c.index_mut-slot.ensures.value below slot put (omega arith) in
    let put' = subst (λ (v : Subtree). IsPut e v.entries (all_entries (slice_set items at (made first box m)))) c.self.view_is all.put in
    (subst (IsPut e c.args.self.now.entries) (sym (append-nil (all_entries (slice_set items at (made first box m))))) put')

pub returns-in_default-clause-lists : goal.returns-in_default-clause-lists
returns-in_default-clause-lists g t c =
    let h = c.self.inside.height in
    let items = c.self.inside.slots.items in
    let e = c.args.entry in
    let k = c.place_for-place.result in
    let at = c.saturating_sub-at.result in
    let s = c.index_mut-slot.result.now in
    let n = c.in_ok-child.child.now in
    let m = c.insert.new.self in
    let first = c.earlier-slot.result in
    let box = c.with_box-slot.result in
    let wide : length items ≡ c.args.self.now.width = ap (λ (v : Subtree). v.width) c.self.view_is in
    let place = subst (λ xs. IsPlaceFor xs e k) c.as_slice.ensures.value c.place_for-place.ensures in
    let within : at < length items = omega (arith, c.requires.least, place.within, c.saturating_sub-at.ensures) in
    let below : s.below ≡ Some n = sym c.in_ok-child.ensures.value in
    let child = child_of h _ at items s n c.self.invariant within c.index_mut-slot.ensures.value below in
    let nodes : all_nodes items + 1 ≡ c.args.self.now.nodes = ap (λ (v : Subtree). v.nodes) c.self.view_is in
    let own : nodes_of s.below ≡ n.nodes = ap nodes_of below in
    let sum = whole_nodes at items s (made first box m) within c.index_mut-slot.ensures.value in
    (omega (arith, sum, own, nodes, c.in_default.ensures.lists))

pub returns-in_default-clause-ordered : goal.returns-in_default-clause-ordered
returns-in_default-clause-ordered g t c =
    let h = c.self.inside.height in
    let items = c.self.inside.slots.items in
    let e = c.args.entry in
    let k = c.place_for-place.result in
    let at = c.saturating_sub-at.result in
    let s = c.index_mut-slot.result.now in
    let n = c.in_ok-child.child.now in
    let m = c.insert.new.self in
    let first = c.earlier-slot.result in
    let box = c.with_box-slot.result in
    let wide : length items ≡ c.args.self.now.width = ap (λ (v : Subtree). v.width) c.self.view_is in
    let place = subst (λ xs. IsPlaceFor xs e k) c.as_slice.ensures.value c.place_for-place.ensures in
    let within : at < length items = omega (arith, c.requires.least, place.within, c.saturating_sub-at.ensures) in
    let below : s.below ≡ Some n = sym c.in_ok-child.ensures.value in
    let child = child_of h _ at items s n c.self.invariant within c.index_mut-slot.ensures.value below in
    let own_slot = subst (IsSlot h) (sym c.index_mut-slot.ensures.value) (All-get_or (IsSlot h) items at s within c.self.invariant.each) in
    let full = c.insert.ensures.full (omega (arith, child.full.least, c.insert.ensures.width)) c.in_default.ensures.halved in
    let put = subst (IsPut e n.entries) (append-nil m.entries) c.in_default.ensures.entries in
    let slot = widened_slot h s n m e first box own_slot below c.insert.ensures.height put full c.bounds.ensures.is_box c.earlier-slot.ensures (c.with_box-slot.ensures ∙ ap (box_round_both s.bounds) c.bounds.ensures.value) in
    let all = whole_grows h _ 17 at k items e s (made first box m) n c.self.invariant place c.saturating_sub-at.ensures within c.index_mut-slot.ensures.value below slot put (omega arith) in
    (subst IsOrdered (sym (append-nil (all_entries (slice_set items at (made first box m))))) all.node.ordered)

pub returns-in_default-clause-root : goal.returns-in_default-clause-root
returns-in_default-clause-root g t c =
    let h = c.self.inside.height in
    let items = c.self.inside.slots.items in
    let e = c.args.entry in
    let k = c.place_for-place.result in
    let at = c.saturating_sub-at.result in
    let s = c.index_mut-slot.result.now in
    let n = c.in_ok-child.child.now in
    let m = c.insert.new.self in
    let first = c.earlier-slot.result in
    let box = c.with_box-slot.result in
    let wide : length items ≡ c.args.self.now.width = ap (λ (v : Subtree). v.width) c.self.view_is in
    let place = subst (λ xs. IsPlaceFor xs e k) c.as_slice.ensures.value c.place_for-place.ensures in
    let within : at < length items = omega (arith, c.requires.least, place.within, c.saturating_sub-at.ensures) in
    let below : s.below ≡ Some n = sym c.in_ok-child.ensures.value in
    let child = child_of h _ at items s n c.self.invariant within c.index_mut-slot.ensures.value below in
    let own_slot = subst (IsSlot h) (sym c.index_mut-slot.ensures.value) (All-get_or (IsSlot h) items at s within c.self.invariant.each) in
    let full = c.insert.ensures.full (omega (arith, child.full.least, c.insert.ensures.width)) c.in_default.ensures.halved in
    let put = subst (IsPut e n.entries) (append-nil m.entries) c.in_default.ensures.entries in
    let slot = widened_slot h s n m e first box own_slot below c.insert.ensures.height put full c.bounds.ensures.is_box c.earlier-slot.ensures (c.with_box-slot.ensures ∙ ap (box_round_both s.bounds) c.bounds.ensures.value) in
    let all = whole_grows h _ 17 at k items e s (made first box m) n c.self.invariant place c.saturating_sub-at.ensures within c.index_mut-slot.ensures.value below slot put (omega arith) in
    let long : length (slice_set items at (made first box m)) ≡ length items = length-set items at (made first box m) in
    λ least two. root_of h (slice_set items at (made first box m)) all.node.each least two (omega (arith, long, wide, c.requires.most))

pub returns-in_default-clause-full : goal.returns-in_default-clause-full
returns-in_default-clause-full g t c =
    let h = c.self.inside.height in
    let items = c.self.inside.slots.items in
    let e = c.args.entry in
    let k = c.place_for-place.result in
    let at = c.saturating_sub-at.result in
    let s = c.index_mut-slot.result.now in
    let n = c.in_ok-child.child.now in
    let m = c.insert.new.self in
    let first = c.earlier-slot.result in
    let box = c.with_box-slot.result in
    let wide : length items ≡ c.args.self.now.width = ap (λ (v : Subtree). v.width) c.self.view_is in
    let place = subst (λ xs. IsPlaceFor xs e k) c.as_slice.ensures.value c.place_for-place.ensures in
    let within : at < length items = omega (arith, c.requires.least, place.within, c.saturating_sub-at.ensures) in
    let below : s.below ≡ Some n = sym c.in_ok-child.ensures.value in
    let child = child_of h _ at items s n c.self.invariant within c.index_mut-slot.ensures.value below in
    let own_slot = subst (IsSlot h) (sym c.index_mut-slot.ensures.value) (All-get_or (IsSlot h) items at s within c.self.invariant.each) in
    let full = c.insert.ensures.full (omega (arith, child.full.least, c.insert.ensures.width)) c.in_default.ensures.halved in
    let put = subst (IsPut e n.entries) (append-nil m.entries) c.in_default.ensures.entries in
    let slot = widened_slot h s n m e first box own_slot below c.insert.ensures.height put full c.bounds.ensures.is_box c.earlier-slot.ensures (c.with_box-slot.ensures ∙ ap (box_round_both s.bounds) c.bounds.ensures.value) in
    let all = whole_grows h _ 17 at k items e s (made first box m) n c.self.invariant place c.saturating_sub-at.ensures within c.index_mut-slot.ensures.value below slot put (omega arith) in
    let long : length (slice_set items at (made first box m)) ≡ length items = length-set items at (made first box m) in
    λ least most. full_of h (slice_set items at (made first box m)) all.node.each least most

pub invariant_of-self-2 : goal.invariant_of-self-2
invariant_of-self-2 g t c =
    let h = c.self.inside.height in
    let items = c.self.inside.slots.items in
    let e = c.args.entry in
    let k = c.place_for-place.result in
    let at = c.saturating_sub-at.result in
    let s = c.index_mut-slot.result.now in
    let n = c.in_ok-child.child.now in
    let m = c.insert.new.self in
    let first = c.summary-least.result.0 in
    let box = c.summary-least.result.1 in
    let wide : length items ≡ c.args.self.now.width = ap (λ (v : Subtree). v.width) c.self.view_is in
    let place = subst (λ xs. IsPlaceFor xs e k) c.as_slice.ensures.value c.place_for-place.ensures in
    let within : at < length items = omega (arith, c.requires.least, place.within, c.saturating_sub-at.ensures) in
    let below : s.below ≡ Some n = sym c.in_ok-child.ensures.value in
    let child = child_of h _ at items s n c.self.invariant within c.index_mut-slot.ensures.value below in
    let halved = c.in-Some.ensures.halved in
    let u = c.in-Some.upper in
    let us = c.into_slot.result in
    let slot = child_slot h n m first box child c.insert.ensures.height c.insert.ensures.width halved.2 c.summary-least.ensures.begins c.summary-least.ensures.covers c.summary-least.ensures.full in
    let level : u.height + 1 ≡ h = omega (arith, halved.0, c.insert.ensures.height, child.height) in
    let slot' = subst (λ l. IsSlot l us) level c.into_slot.ensures.slot in
    let upper : slot_entries us ≡ u.entries = ap (entries_at us.first) c.into_slot.ensures.below in
    let put = subst (λ es. IsPut e n.entries (m.entries ++ es)) (sym upper) c.in-Some.ensures.entries in
    let all = split_grows h _ (vec_capacity c.put-2.new.list) at k items e s (made first box m) us n c.self.invariant place c.saturating_sub-at.ensures within c.index_mut-slot.ensures.value below slot slot' put (omega (arith, c.self.invariant.roomy)) in
    rw (c.put-2.ensures.items) all.node

pub halve-requires-2-clause-spare : goal.halve-requires-2-clause-spare
halve-requires-2-clause-spare g t c =
    let h = c.self.inside.height in
    let items = c.self.inside.slots.items in
    let e = c.args.entry in
    let k = c.place_for-place.result in
    let at = c.saturating_sub-at.result in
    let s = c.index_mut-slot.result.now in
    let n = c.in_ok-child.child.now in
    let m = c.insert.new.self in
    let first = c.summary-least.result.0 in
    let box = c.summary-least.result.1 in
    let wide : length items ≡ c.args.self.now.width = ap (λ (v : Subtree). v.width) c.self.view_is in
    let place = subst (λ xs. IsPlaceFor xs e k) c.as_slice.ensures.value c.place_for-place.ensures in
    let within : at < length items = omega (arith, c.requires.least, place.within, c.saturating_sub-at.ensures) in
    let below : s.below ≡ Some n = sym c.in_ok-child.ensures.value in
    let child = child_of h _ at items s n c.self.invariant within c.index_mut-slot.ensures.value below in
    let halved = c.in-Some.ensures.halved in
    let u = c.in-Some.upper in
    let us = c.into_slot.result in
    let slot = child_slot h n m first box child c.insert.ensures.height c.insert.ensures.width halved.2 c.summary-least.ensures.begins c.summary-least.ensures.covers c.summary-least.ensures.full in
    let level : u.height + 1 ≡ h = omega (arith, halved.0, c.insert.ensures.height, child.height) in
    let slot' = subst (λ l. IsSlot l us) level c.into_slot.ensures.slot in
    let upper : slot_entries us ≡ u.entries = ap (entries_at us.first) c.into_slot.ensures.below in
    let put = subst (λ es. IsPut e n.entries (m.entries ++ es)) (sym upper) c.in-Some.ensures.entries in
    let all = split_grows h _ 17 at k items e s (made first box m) us n c.self.invariant place c.saturating_sub-at.ensures within c.index_mut-slot.ensures.value below slot slot' put (omega arith) in
    let put2 = subst (λ xs. IsPut e (all_entries items) (all_entries xs)) (sym c.put-2.ensures.items) all.put in
    let each2 = subst (All (IsSlot h)) (sym c.put-2.ensures.items) all.node.each in
    let nodes : all_nodes items + 1 ≡ c.args.self.now.nodes = ap (λ (v : Subtree). v.nodes) c.self.view_is in
    let size : length (all_entries items) ≡ length c.args.self.now.entries = ap (λ (v : Subtree). length v.entries) c.self.view_is in
    let own : nodes_of s.below ≡ n.nodes = ap nodes_of below in
    let higher : nodes_of us.below ≡ u.nodes = ap nodes_of c.into_slot.ensures.below in
    let sum = split_nodes at items s (made first box m) us within c.index_mut-slot.ensures.value in
    let after : all_nodes c.put-2.new.list.items + nodes_of s.below ≡ all_nodes items + (m.nodes + nodes_of us.below) = ap (λ xs. all_nodes xs + nodes_of s.below) c.put-2.ensures.items ∙ sum in
    let lists : c.insert.new.pool.spare + all_nodes c.put-2.new.list.items ≡ c.args.pool.now.spare + all_nodes items = omega (arith, after, own, higher, c.in-Some.ensures.lists) in
    λ full. spare_left h c.args.pool.now.spare c.insert.new.pool.spare e items c.put-2.new.list.items each2 put2 full lists (omega (arith, nodes, size, c.requires.spare))

pub returns-clause-entries : goal.returns-clause-entries
returns-clause-entries g t c =
    let h = c.self.inside.height in
    let items = c.self.inside.slots.items in
    let e = c.args.entry in
    let k = c.place_for-place.result in
    let at = c.saturating_sub-at.result in
    let s = c.index_mut-slot.result.now in
    let n = c.in_ok-child.child.now in
    let m = c.insert.new.self in
    let first = c.summary-least.result.0 in
    let box = c.summary-least.result.1 in
    let wide : length items ≡ c.args.self.now.width = ap (λ (v : Subtree). v.width) c.self.view_is in
    let place = subst (λ xs. IsPlaceFor xs e k) c.as_slice.ensures.value c.place_for-place.ensures in
    let within : at < length items = omega (arith, c.requires.least, place.within, c.saturating_sub-at.ensures) in
    let below : s.below ≡ Some n = sym c.in_ok-child.ensures.value in
    let child = child_of h _ at items s n c.self.invariant within c.index_mut-slot.ensures.value below in
    let halved = c.in-Some.ensures.halved in
    let u = c.in-Some.upper in
    let us = c.into_slot.result in
    let slot = child_slot h n m first box child c.insert.ensures.height c.insert.ensures.width halved.2 c.summary-least.ensures.begins c.summary-least.ensures.covers c.summary-least.ensures.full in
    let level : u.height + 1 ≡ h = omega (arith, halved.0, c.insert.ensures.height, child.height) in
    let slot' = subst (λ l. IsSlot l us) level c.into_slot.ensures.slot in
    let upper : slot_entries us ≡ u.entries = ap (entries_at us.first) c.into_slot.ensures.below in
    let put = subst (λ es. IsPut e n.entries (m.entries ++ es)) (sym upper) c.in-Some.ensures.entries in
    let all = split_grows h _ 17 at k items e s (made first box m) us n c.self.invariant place c.saturating_sub-at.ensures within c.index_mut-slot.ensures.value below slot slot' put (omega arith) in
    let put2 = subst (λ xs. IsPut e (all_entries items) (all_entries xs)) (sym c.put-2.ensures.items) all.put in
    let put3 = subst (λ (v : Subtree). IsPut e v.entries (all_entries c.put-2.new.list.items)) c.self.view_is put2 in
    subst (IsPut e c.args.self.now.entries) (sym c.halve-2.ensures.entries) put3

pub returns-clause-lists : goal.returns-clause-lists
returns-clause-lists g t c =
    let h = c.self.inside.height in
    let items = c.self.inside.slots.items in
    let e = c.args.entry in
    let k = c.place_for-place.result in
    let at = c.saturating_sub-at.result in
    let s = c.index_mut-slot.result.now in
    let n = c.in_ok-child.child.now in
    let m = c.insert.new.self in
    let first = c.summary-least.result.0 in
    let box = c.summary-least.result.1 in
    let wide : length items ≡ c.args.self.now.width = ap (λ (v : Subtree). v.width) c.self.view_is in
    let place = subst (λ xs. IsPlaceFor xs e k) c.as_slice.ensures.value c.place_for-place.ensures in
    let within : at < length items = omega (arith, c.requires.least, place.within, c.saturating_sub-at.ensures) in
    let below : s.below ≡ Some n = sym c.in_ok-child.ensures.value in
    let child = child_of h _ at items s n c.self.invariant within c.index_mut-slot.ensures.value below in
    let us = c.into_slot.result in
    let nodes : all_nodes items + 1 ≡ c.args.self.now.nodes = ap (λ (v : Subtree). v.nodes) c.self.view_is in
    let own : nodes_of s.below ≡ n.nodes = ap nodes_of below in
    let upper : nodes_of us.below ≡ c.in-Some.upper.nodes = ap nodes_of c.into_slot.ensures.below in
    let sum = split_nodes at items s (made first box m) us within c.index_mut-slot.ensures.value in
    let after : all_nodes c.put-2.new.list.items + nodes_of s.below ≡ all_nodes items + (m.nodes + nodes_of us.below) = ap (λ xs. all_nodes xs + nodes_of s.below) c.put-2.ensures.items ∙ sum in
    omega (arith, after, own, upper, nodes, c.in-Some.ensures.lists, c.halve-2.ensures.lists)
