-- What becomes of the slots of a node out of which a pair is taken.
use Rattle.std.proofs.Common.{◌≡◌, ℕ, ◌+◌, ◌-◌, ◌≤◌, ◌<◌, true, false, refl, sym, ap, ◌∙◌, subst, Some, None, List, [], ◌∷◌, ◌++◌, length, take, drop, get_or, set, arith, append-nil, add-one, length-set, get_or-set_same, get_or-set_other, All}
use Rattle.std.specs.List.{remove, Contains}
use Rattle.std.specs.Ordering.{is_lt}
use Rattle.std.proofs.lemmas.List.Elements.{All-nil, All-cons, All-get_or, All-set, All-contains}
use Rattle.planar_geom.specs.Points.{Bounds}
use Rattle.rtree.specs.declared.nodes.Slot.{Slot}
use Rattle.rtree.specs.Pairs.{Pair, pair_cmp, IsBefore, IsAtMost, IsInside, IsWith}
use Rattle.rtree.specs.Subtrees.{Subtree, entries_at, nodes_of}
use Rattle.rtree.specs.Slots.{slot_entries, all_entries, all_nodes, IsSlot, IsSummed, IsNode, IsPlaceFor, IsThin, IsThinAt}
use Rattle.rtree.proofs.Order.{at_most-refl, at_most-antisymm, before-not_at_most}
use Rattle.rtree.proofs.Lists.{with-ordered}
use Rattle.rtree.proofs.Slots.{nodes-append}
use Rattle.rtree.proofs.Places.{split_at}
use Rattle.rtree.proofs.Losses.{shrunk-entries, shrunk-node, absent_around}
use Rattle.rtree.proofs.Inserts.{set_one}

-- the slots of a node with a pair less
pub record Shrinks (h : ℕ) (p : Pair) (old new : List Slot) (room : ℕ) : Type 0 where
  pub node : IsNode h new room
  pub there : IsWith p (all_entries new) (all_entries old)

-- where the slot that may have a pair has none, no slot has it
pub absent : (h room : ℕ) (slots : List Slot) (p : Pair) (k at : ℕ) (s : Slot) → IsNode h slots room → IsPlaceFor slots p k → k ≡ at + 1 → s ≡ get_or slots at s → (Contains (slot_entries s) p → ⊥) → Contains (all_entries slots) p → ⊥
absent h room slots p k at s node place next read none =
    absent_around h room slots p at k s node place next (subst (λ t. Contains (slot_entries t) p → ⊥) read none)

-- an entry before the pair is not the pair
pub leaf_absent : (s : Slot) (p : Pair) → s.below ≡ None → is_lt (pair_cmp s.first p) ≡ true → Contains (slot_entries s) p → ⊥
leaf_absent s p none before there =
    let P : Pair → Type 0 = λ q. IsBefore q p in
    let all : All P (slot_entries s) = subst (All P) (sym (ap (entries_at s.first) none)) (All-cons P s.first [] (record { less = before }) (All-nil P)) in
    before-not_at_most p p (All-contains P (slot_entries s) p all there) (at_most-refl p)

pub leaf_found : (slots : List Slot) (p : Pair) (k at : ℕ) (s : Slot) → IsPlaceFor slots p k → k ≡ at + 1 → s ≡ get_or slots at s → is_lt (pair_cmp s.first p) ≡ false → s.first ≡ p
leaf_found slots p k at s place next read test =
    let same : k - 1 ≡ at = omega arith in
    let low : IsAtMost s.first p = subst (λ t. IsAtMost t.first p) (sym read) (subst (λ n. IsAtMost (get_or slots n s).first p) same (place.before s (omega arith))) in
    at_most-antisymm s.first p low (record { not_less = test })

pub leaf_shrinks : (h room room' : ℕ) (slots : List Slot) (p : Pair) (at : ℕ) (s : Slot) → IsNode h slots room → at < length slots → s ≡ get_or slots at s → s.below ≡ None → s.first ≡ p → 17 ≤ room' → Shrinks h p slots (remove slots at) room'
leaf_shrinks h room room' slots p at s node within read none first roomy =
    let a = take at slots in
    let c = drop (at + 1) slots in
    let whole : a ++ (s ∷ c) ≡ slots = ap (λ t. a ++ (t ∷ c)) read ∙ sym (split_at slots at s within) in
    let own : all_entries (s ∷ []) ≡ p ∷ [] = append-nil (slot_entries s) ∙ (ap (entries_at s.first) none ∙ ap (λ q. q ∷ []) first) in
    let one : IsWith p [] (all_entries (s ∷ [])) = subst (IsWith p []) (sym own) (record { front = []; back = []; without = refl; with = refl }) in
    let w = shrunk-entries p a (s ∷ []) [] c one in
    let old = subst (λ xs. IsNode h xs room) (sym whole) node in
    let all : Shrinks h p slots (a ++ c) room' = record {
      node = shrunk-node h room room' p a (s ∷ []) [] c old (All-nil (IsSlot h)) w roomy;
      there = subst (λ xs. IsWith p (all_entries (a ++ c)) (all_entries xs)) whole w;
    } in
    subst (λ n. Shrinks h p slots (a ++ drop n slots) room') (add-one at) all

pub leaf_less : (slots : List Slot) (at : ℕ) (s : Slot) → at < length slots → s ≡ get_or slots at s → s.below ≡ None → all_nodes (remove slots at) ≡ all_nodes slots
leaf_less slots at s within read none =
    let a = take at slots in
    let c = drop (at + 1) slots in
    let whole : a ++ (s ∷ c) ≡ slots = ap (λ t. a ++ (t ∷ c)) read ∙ sym (split_at slots at s within) in
    let own : nodes_of s.below ≡ 0 = ap nodes_of none in
    let same : all_nodes (a ++ c) ≡ all_nodes slots = omega (arith, nodes-append a c, nodes-append a (s ∷ c), ap all_nodes whole, own) in
    subst (λ n. all_nodes (a ++ drop n slots) ≡ all_nodes slots) (add-one at) same

-- the entries where a child is replaced by one with a pair less
pub inner_there : (slots : List Slot) (p : Pair) (at : ℕ) (s t : Slot) (n : Subtree) → at < length slots → s ≡ get_or slots at s → s.below ≡ Some n → IsWith p (slot_entries t) n.entries → IsWith p (all_entries (set slots at t)) (all_entries slots)
inner_there slots p at s t n within read below w =
    let a = take at slots in
    let c = drop (at + 1) slots in
    let whole : a ++ (s ∷ c) ≡ slots = ap (λ u. a ++ (u ∷ c)) read ∙ sym (split_at slots at s within) in
    let old : all_entries (s ∷ []) ≡ n.entries = append-nil (slot_entries s) ∙ ap (entries_at s.first) below in
    let new : all_entries (t ∷ []) ≡ slot_entries t = append-nil (slot_entries t) in
    let one : IsWith p (all_entries (t ∷ [])) (all_entries (s ∷ [])) = subst (λ es. IsWith p es (all_entries (s ∷ []))) (sym new) (subst (IsWith p (slot_entries t)) (sym old) w) in
    let all = shrunk-entries p a (s ∷ []) (t ∷ []) c one in
    subst (λ xs. IsWith p (all_entries xs) (all_entries slots)) (sym (set_one slots at t within)) (subst (λ xs. IsWith p (all_entries (a ++ (t ∷ c))) (all_entries xs)) whole all)

pub inner_shrinks : (h room room' : ℕ) (slots : List Slot) (p : Pair) (at : ℕ) (s t : Slot) (n : Subtree) → IsNode h slots room → at < length slots → s ≡ get_or slots at s → s.below ≡ Some n → IsWith p (slot_entries t) n.entries → IsSlot h t → 17 ≤ room' → Shrinks h p slots (set slots at t) room'
inner_shrinks h room room' slots p at s t n node within read below w slot roomy =
    let there = inner_there slots p at s t n within read below w in
    record {
      node = record { each = All-set (IsSlot h) slots at t slot node.each; ordered = with-ordered p (all_entries (set slots at t)) (all_entries slots) there node.ordered; roomy = roomy };
      there = there;
    }

pub inner_thin : (h room : ℕ) (slots : List Slot) (p : Pair) (at : ℕ) (s t : Slot) (n : Subtree) → IsNode h slots room → at < length slots → s ≡ get_or slots at s → s.below ≡ Some n → IsWith p (slot_entries t) n.entries → IsThin h t → 2 ≤ h → 2 ≤ length slots → IsThinAt h (set slots at t) at
inner_thin h room slots p at s t n node within read below w thin above two =
    let there = inner_there slots p at s t n within read below w in
    let len : length (set slots at t) ≡ length slots = length-set slots at t in
    record {
      above = above;
      two = omega (arith, len);
      within = omega (arith, len);
      thin = λ d. subst (IsThin h) (sym (get_or-set_same slots at t d within)) thin;
      others = λ k d low other. subst (IsSlot h) (sym (get_or-set_other slots at k t d other)) (All-get_or (IsSlot h) slots k d (omega (arith, len, low)) node.each);
      ordered = with-ordered p (all_entries (set slots at t)) (all_entries slots) there node.ordered;
    }

-- the slot over a node with its first entry and a box that holds all
pub summed_slot : (h : ℕ) (m : Subtree) (first : Pair) (box : Bounds) → m.height + 1 ≡ h → m.entries ≡ first ∷ drop 1 m.entries → All (λ p. IsInside box p.bounds) m.entries → IsSummed h (record { first = first; bounds = box; below = Some m })
summed_slot h m first box height begins covers = record { height_is = height; begins = begins; covers = covers; exact = λ none. absurd cc }
