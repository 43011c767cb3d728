-- What becomes of the slots of a node into which a pair is put.
use Rattle.std.proofs.Common.{◌≡◌, ℕ, zero, suc, ◌+◌, ◌-◌, ◌≤◌, ◌<◌, ◌*◌, sym, ap, ◌∙◌, subst, Some, None, List, [], ◌∷◌, ◌++◌, length, take, drop, get_or, set, arith, append_assoc, append-nil, add-one, All}
use Rattle.std.specs.List.{insert}
use Rattle.std.proofs.lemmas.List.{take-append-drop, take_more_set, drop-set-lt, set_split, get_or_default}
use Rattle.std.proofs.lemmas.List.Elements.{All-nil, All-cons, All-append, All-weaker, All-get_or}
use Rattle.planar_geom.specs.Points.{Bounds, IsBox, box_round_both}
use Rattle.rtree.specs.declared.nodes.Slot.{Slot}
use Rattle.rtree.specs.Pairs.{Pair, earlier, IsBefore, IsAtMost, IsInside, IsPut}
use Rattle.rtree.specs.Subtrees.{Subtree, entries_at, height_of, nodes_of, IsFull}
use Rattle.rtree.specs.Slots.{slot_entries, all_entries, all_nodes, IsSlot, IsNode, IsPlaceFor}
use Rattle.rtree.proofs.Lists.{all-right, all-with, put_begins, length-with}
use Rattle.rtree.proofs.Insides.{inside-itself, inside-first, inside-second}
use Rattle.rtree.proofs.Slots.{few_all, entries_more, entries_parts, nodes_parts, nodes-append}
use Rattle.rtree.proofs.Places.{split_at, low_part, high_part, grown-entries, grown-node, nodes-middle, put_alone, leaf_slot}

-- the slots of a node with a pair more
pub record Grows (h : ℕ) (p : Pair) (old new : List Slot) (room : ℕ) : Type 0 where
  pub node : IsNode h new room
  pub put : IsPut p (all_entries old) (all_entries new)

pub leaf_low : (room : ℕ) (slots : List Slot) (p : Pair) (k : ℕ) (d : Slot) → IsNode 1 slots room → IsPlaceFor slots p k → All (λ q. IsAtMost q p) (all_entries (take k slots))
leaf_low room slots p zero d node place = All-nil (λ q. IsAtMost q p)
leaf_low room slots p (suc j) d node place =
    let P : Pair → Type 0 = λ q. IsAtMost q p in
    let i = suc j - 1 in
    let within : i < length slots = omega (arith, place.within) in
    let s = get_or slots i d in
    let none = leaf_slot s (All-get_or (IsSlot 1) slots i d within node.each) in
    let one : All P (slot_entries s) = subst (All P) (sym (ap (entries_at s.first) none)) (All-cons P s.first [] (place.before d (omega arith)) (All-nil P)) in
    let both = All-append P (all_entries (take i slots)) (slot_entries s) (low_part 1 room slots p (suc j) d node place) one in
    let next : i + 1 ≡ suc j = omega arith in
    subst (λ n. All P (all_entries (take n slots))) next (subst (All P) (sym (entries_more slots i s within (get_or_default slots i d s within))) both)

-- an entry is put into a leaf
pub leaf_grows : (h room room' : ℕ) (slots : List Slot) (p : Pair) (k : ℕ) (s : Slot) → IsNode h slots room → IsPlaceFor slots p k → h ≡ 1 → IsSlot 1 s → s.first ≡ p → s.below ≡ None → 17 ≤ room' → Grows h p slots (insert slots k s) room'
leaf_grows h room room' slots p k s node place leaf slot first none roomy =
    let a = take k slots in
    let c = drop k slots in
    let node1 : IsNode 1 slots room = subst (λ n. IsNode n slots room) leaf node in
    let low = leaf_low room slots p k s node1 place in
    let high = high_part h room slots p k s node place in
    let own : all_entries (s ∷ []) ≡ p ∷ [] = append-nil (slot_entries s) ∙ (ap (entries_at s.first) none ∙ ap (λ q. q ∷ []) first) in
    let alone : IsPut p [] (all_entries (s ∷ [])) = subst (IsPut p []) (sym own) (put_alone p) in
    let put = grown-entries p a [] (s ∷ []) c alone low high in
    let whole : a ++ c ≡ slots = take-append-drop k slots in
    let old = subst (λ xs. IsNode h xs room) (sym whole) node in
    let slot' : IsSlot h s = subst (λ n. IsSlot n s) (sym leaf) slot in
    record {
      node = grown-node h room room' p a [] (s ∷ []) c old (All-cons (IsSlot h) s [] slot' (All-nil (IsSlot h))) put roomy;
      put = subst (λ xs. IsPut p (all_entries xs) (all_entries (a ++ (s ∷ c)))) whole put;
    }

pub leaf_nodes : (slots : List Slot) (k : ℕ) (s : Slot) → s.below ≡ None → all_nodes (insert slots k s) ≡ all_nodes slots
leaf_nodes slots k s none =
    let own : nodes_of s.below ≡ 0 = ap nodes_of none in
    nodes-append (take k slots) (s ∷ drop k slots) ∙ omega (arith, own, nodes_parts k slots)

-- what stands behind the child into which a pair goes
pub high_after : (h room : ℕ) (slots : List Slot) (p : Pair) (k : ℕ) (d : Slot) → IsNode h slots room → IsPlaceFor slots p k → All (IsBefore p) (all_entries (drop (k - 1 + 1) slots))
high_after h room slots p zero d node place =
    all-right (IsBefore p) (all_entries (take 1 slots)) (all_entries (drop 1 slots)) (subst (All (IsBefore p)) (sym (entries_parts 1 slots)) (high_part h room slots p zero d node place))
high_after h room slots p (suc j) d node place =
    let next : suc j ≡ suc j - 1 + 1 = omega arith in
    subst (λ n. All (IsBefore p) (all_entries (drop n slots))) next (high_part h room slots p (suc j) d node place)

-- a child is replaced by one or two with a pair more
pub inner_grows : (h room room' : ℕ) (slots new : List Slot) (p : Pair) (k at : ℕ) (s : Slot) → IsNode h slots room → IsPlaceFor slots p k → at ≡ k - 1 → at < length slots → s ≡ get_or slots at s → All (IsSlot h) new → IsPut p (slot_entries s) (all_entries new) → 17 ≤ room' → Grows h p slots (take at slots ++ (new ++ drop (at + 1) slots)) room'
inner_grows h room room' slots new p k at s node place at_is within read each into roomy =
    let a = take at slots in
    let c = drop (at + 1) slots in
    let low = subst (λ n. All (λ q. IsAtMost q p) (all_entries (take n slots))) (sym at_is) (low_part h room slots p k s node place) in
    let high = subst (λ n. All (IsBefore p) (all_entries (drop (n + 1) slots))) (sym at_is) (high_after h room slots p k s node place) in
    let whole : a ++ (s ∷ c) ≡ slots = ap (λ t. a ++ (t ∷ c)) read ∙ sym (split_at slots at s within) in
    let into' : IsPut p (all_entries (s ∷ [])) (all_entries new) = subst (λ es. IsPut p es (all_entries new)) (sym (append-nil (slot_entries s))) into in
    let put = grown-entries p a (s ∷ []) new c into' low high in
    let old = subst (λ xs. IsNode h xs room) (sym whole) node in
    record {
      node = grown-node h room room' p a (s ∷ []) new c old each put roomy;
      put = subst (λ xs. IsPut p (all_entries xs) (all_entries (a ++ (new ++ c)))) whole put;
    }

pub inner_nodes : (slots new : List Slot) (at : ℕ) (s : Slot) → at < length slots → s ≡ get_or slots at s → all_nodes (take at slots ++ (new ++ drop (at + 1) slots)) + nodes_of s.below ≡ all_nodes slots + all_nodes new
inner_nodes slots new at s within read =
    let a = take at slots in
    let c = drop (at + 1) slots in
    let whole : a ++ (s ∷ c) ≡ slots = ap (λ t. a ++ (t ∷ c)) read ∙ sym (split_at slots at s within) in
    let old : all_nodes slots ≡ all_nodes a + (nodes_of s.below + all_nodes c) = sym (ap all_nodes whole) ∙ nodes-append a (s ∷ c) in
    omega (arith, old, nodes-middle a new c)

-- the slot over a node with its first entry and a box that holds all is one
pub made_slot : (h : ℕ) (n : Subtree) (first : Pair) (box : Bounds) → n.height + 1 ≡ h → n.entries ≡ first ∷ drop 1 n.entries → All (λ p. IsInside box p.bounds) n.entries → IsFull n → IsSlot h (record { first = first; bounds = box; below = Some n })
made_slot h n first box height begins covers full = record {
  summed = record { height_is = height; begins = begins; covers = covers; exact = λ none. absurd cc };
  full = full;
}

-- the slot over a node with a pair more, with the earlier first entry and a box round that of the pair too
pub widened_slot : (h : ℕ) (s : Slot) (n m : Subtree) (e first : Pair) (box : Bounds) → IsSlot h s → s.below ≡ Some n → m.height ≡ n.height → IsPut e n.entries m.entries → IsFull m → IsBox e.bounds → first ≡ earlier e s.first → box ≡ box_round_both s.bounds e.bounds → IsSlot h (record { first = first; bounds = box; below = Some m })
widened_slot h s n m e first box slot below height put full is_box first_is box_is =
    let b = box_round_both s.bounds e.bounds in
    let P : Pair → Type 0 = λ p. IsInside b p.bounds in
    let old : slot_entries s ≡ n.entries = ap (entries_at s.first) below in
    let put' : IsPut e (slot_entries s) m.entries = subst (λ es. IsPut e es m.entries) (sym old) put in
    let level : height_of s.below ≡ n.height = ap height_of below in
    let before : All P (slot_entries s) = All-weaker (λ p. IsInside s.bounds p.bounds) P (λ p k. inside-first s.bounds e.bounds p.bounds k) (slot_entries s) slot.summed.covers in
    let begins = put_begins e s.first (slot_entries s) m.entries put' slot.summed.begins in
    let covers : All P m.entries = all-with P e (slot_entries s) m.entries put'.there (inside-second s.bounds e.bounds e.bounds (inside-itself e.bounds is_box)) before in
    made_slot h m first box
    (omega (arith, level, height, slot.summed.height_is))
    (subst (λ f. m.entries ≡ f ∷ drop 1 m.entries) (sym first_is) begins)
    (subst (λ x. All (λ p. IsInside x p.bounds) m.entries) (sym box_is) covers)
    full

-- the slots with one replaced, and with another behind it
pub set_one : (slots : List Slot) (at : ℕ) (t : Slot) → at < length slots → set slots at t ≡ take at slots ++ ((t ∷ []) ++ drop (at + 1) slots)
set_one slots at t within = set_split slots at t within ∙ ap (λ n. take at slots ++ (t ∷ drop n slots)) (sym (add-one at))

pub set_two : (slots : List Slot) (at : ℕ) (t u : Slot) → at < length slots → insert (set slots at t) (at + 1) u ≡ take at slots ++ ((t ∷ u ∷ []) ++ drop (at + 1) slots)
set_two slots at t u within =
    ap (λ xs. xs ++ (u ∷ drop (at + 1) (set slots at t))) (take_more_set slots at t within) ∙ (ap (λ xs. (take at slots ++ (t ∷ [])) ++ (u ∷ xs)) (drop-set-lt (at + 1) slots at t (omega arith)) ∙ append_assoc (take at slots) (t ∷ []) (u ∷ drop (at + 1) slots))

-- where a pair more makes a node too wide, a list is left for its upper half
pub spare_left : (h spare spare' : ℕ) (p : Pair) (old new : List Slot) → All (IsSlot h) new → IsPut p (all_entries old) (all_entries new) → 17 ≤ length new → spare' + all_nodes new ≡ spare + all_nodes old → length (all_entries old) + 3 ≤ 7 * (spare + (all_nodes old + 1)) + 8 → 1 ≤ spare'
spare_left h spare spare' p old new each put wide lists enough =
    omega (arith, few_all h new each, length-with p (all_entries old) (all_entries new) put.there)
