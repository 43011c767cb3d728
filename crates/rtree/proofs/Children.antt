-- A child with a pair more, in place of the child, alone or with its upper half.
use Rattle.std.proofs.Common.{◌≡◌, ℕ, ◌+◌, ◌-◌, ◌≤◌, ◌<◌, ◌*◌, sym, ap, ◌∙◌, subst, Some, IfSome, List, [], ◌∷◌, ◌++◌, length, take, drop, get_or, set, arith, append-nil, length-append, length-take-le, length-drop}
use Rattle.std.specs.List.{insert}
use Rattle.std.proofs.lemmas.List.Elements.{All-nil, All-cons, All-get_or, All-take, All-drop}
use Rattle.rtree.specs.declared.nodes.Slot.{Slot}
use Rattle.rtree.specs.Pairs.{Pair, IsPut}
use Rattle.rtree.specs.Subtrees.{Subtree, entries_at, height_of, nodes_of, IsFull}
use Rattle.rtree.specs.Slots.{slot_entries, all_entries, all_nodes, IsSlot, IsNode, IsPlaceFor}
use Rattle.rtree.proofs.Slots.{few_all, entries-append, nodes-append}
use Rattle.rtree.proofs.Places.{split_at}
use Rattle.rtree.proofs.Inserts.{Grows, inner_grows, inner_nodes, set_one, set_two}

-- the node below a slot of a node
pub record Child (h : ℕ) (n : Subtree) : Type 0 where
  pub full : IsFull n
  pub height : n.height + 1 ≡ h

pub child_of : (h room at : ℕ) (slots : List Slot) (s : Slot) (n : Subtree) → IsNode h slots room → at < length slots → s ≡ get_or slots at s → s.below ≡ Some n → Child h n
child_of h room at slots s n node within read below =
    let slot = subst (IsSlot h) (sym read) (All-get_or (IsSlot h) slots at s within node.each) in
    record {
      full = subst (λ b. IfSome b IsFull) below slot.full;
      height = sym (ap (λ b. height_of b + 1) below) ∙ slot.summed.height_is;
    }

-- the entries of the other children are at least seven for each of their nodes, and one for each child
pub few_others : (h room at : ℕ) (slots : List Slot) (s : Slot) (n : Subtree) → IsNode h slots room → at < length slots → s ≡ get_or slots at s → s.below ≡ Some n → length n.entries + (7 * all_nodes slots + length slots) ≤ length (all_entries slots) + (7 * n.nodes + 1)
few_others h room at slots s n node within read below =
    let a = take at slots in
    let c = drop (at + 1) slots in
    let whole : a ++ (s ∷ c) ≡ slots = ap (λ t. a ++ (t ∷ c)) read ∙ sym (split_at slots at s within) in
    let entries : all_entries slots ≡ all_entries a ++ (slot_entries s ++ all_entries c) = sym (ap all_entries whole) ∙ entries-append a (s ∷ c) in
    let sum : length (all_entries slots) ≡ length (all_entries a) + (length (slot_entries s) + length (all_entries c)) = ap length entries ∙ (length-append (all_entries a) (slot_entries s ++ all_entries c) ∙ ap (λ k. length (all_entries a) + k) (length-append (slot_entries s) (all_entries c))) in
    let nodes : all_nodes slots ≡ all_nodes a + (nodes_of s.below + all_nodes c) = sym (ap all_nodes whole) ∙ nodes-append a (s ∷ c) in
    let own : nodes_of s.below ≡ n.nodes = ap nodes_of below in
    let size : length (slot_entries s) ≡ length n.entries = ap (λ b. length (entries_at s.first b)) below in
    let front : length a ≡ at = length-take-le at slots (omega arith) in
    let back : length c ≡ length slots - (at + 1) = length-drop (at + 1) slots in
    omega (arith, few_all h a (All-take (IsSlot h) at slots node.each), few_all h c (All-drop (IsSlot h) (at + 1) slots node.each))

pub whole_grows : (h room room' at k : ℕ) (slots : List Slot) (p : Pair) (s t : Slot) (n : Subtree) → IsNode h slots room → IsPlaceFor slots p k → at ≡ k - 1 → at < length slots → s ≡ get_or slots at s → s.below ≡ Some n → IsSlot h t → IsPut p n.entries (slot_entries t) → 17 ≤ room' → Grows h p slots (set slots at t) room'
whole_grows h room room' at k slots p s t n node place at_is within read below slot put roomy =
    let old : slot_entries s ≡ n.entries = ap (entries_at s.first) below in
    let put' : IsPut p (slot_entries s) (all_entries (t ∷ [])) = subst (λ es. IsPut p es (all_entries (t ∷ []))) (sym old) (subst (IsPut p n.entries) (sym (append-nil (slot_entries t))) put) in
    subst (λ xs. Grows h p slots xs room') (sym (set_one slots at t within)) (inner_grows h room room' slots (t ∷ []) p k at s node place at_is within read (All-cons (IsSlot h) t [] slot (All-nil (IsSlot h))) put' roomy)

pub whole_nodes : (at : ℕ) (slots : List Slot) (s t : Slot) → at < length slots → s ≡ get_or slots at s → all_nodes (set slots at t) + nodes_of s.below ≡ all_nodes slots + nodes_of t.below
whole_nodes at slots s t within read = omega (arith, ap all_nodes (set_one slots at t within), inner_nodes slots (t ∷ []) at s within read)

pub split_grows : (h room room' at k : ℕ) (slots : List Slot) (p : Pair) (s t u : Slot) (n : Subtree) → IsNode h slots room → IsPlaceFor slots p k → at ≡ k - 1 → at < length slots → s ≡ get_or slots at s → s.below ≡ Some n → IsSlot h t → IsSlot h u → IsPut p n.entries (slot_entries t ++ slot_entries u) → 17 ≤ room' → Grows h p slots (insert (set slots at t) (at + 1) u) room'
split_grows h room room' at k slots p s t u n node place at_is within read below slot slot' put roomy =
    let old : slot_entries s ≡ n.entries = ap (entries_at s.first) below in
    let both : slot_entries t ++ slot_entries u ≡ all_entries (t ∷ u ∷ []) = ap (λ es. slot_entries t ++ es) (sym (append-nil (slot_entries u))) in
    let put' : IsPut p (slot_entries s) (all_entries (t ∷ u ∷ [])) = subst (λ es. IsPut p es (all_entries (t ∷ u ∷ []))) (sym old) (subst (IsPut p n.entries) both put) in
    subst (λ xs. Grows h p slots xs room') (sym (set_two slots at t u within)) (inner_grows h room room' slots (t ∷ u ∷ []) p k at s node place at_is within read (All-cons (IsSlot h) t (u ∷ []) slot (All-cons (IsSlot h) u [] slot' (All-nil (IsSlot h)))) put' roomy)

pub split_nodes : (at : ℕ) (slots : List Slot) (s t u : Slot) → at < length slots → s ≡ get_or slots at s → all_nodes (insert (set slots at t) (at + 1) u) + nodes_of s.below ≡ all_nodes slots + (nodes_of t.below + nodes_of u.below)
split_nodes at slots s t u within read = omega (arith, ap all_nodes (set_two slots at t u within), inner_nodes slots (t ∷ u ∷ []) at s within read)
