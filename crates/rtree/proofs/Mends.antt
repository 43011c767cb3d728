-- Two neighbours of which one has lost a slot too many.
use Rattle.std.proofs.Common.{◌≡◌, ℕ, ◌+◌, ◌≤◌, ◌<◌, sym, ap, ◌∙◌, ◌⊎◌, inl, inr, subst, Option, Some, None, IfSome, List, [], ◌∷◌, ◌++◌, length, take, drop, get_or, arith, append-nil}
use Rattle.std.proofs.lemmas.List.{drop_more, take-append-drop}
use Rattle.rtree.specs.declared.nodes.Slot.{Slot}
use Rattle.rtree.specs.Pairs.{IsOrdered}
use Rattle.rtree.specs.Subtrees.{Subtree, entries_at, height_of, nodes_of, width_of, IsFull}
use Rattle.rtree.specs.Slots.{slot_entries, all_entries, all_nodes, IsSlot, IsSummed, IsThin, IsThinAt, IsThinPair}
use Rattle.rtree.proofs.Lists.{ordered-left, ordered-right}
use Rattle.rtree.proofs.Slots.{entries-append}

-- the nodes of two thin neighbours
pub record Neighbours (h : ℕ) (low high : Slot) (n m : Subtree) : Type 0 where
  pub level : n.height ≡ m.height
  pub below : n.height + 1 ≡ h
  pub least : 7 ≤ n.width
  pub most : n.width ≤ 16
  pub other_least : 7 ≤ m.width
  pub other_most : m.width ≤ 16
  pub ordered : IsOrdered (n.entries ++ m.entries)
  pub entries : n.entries ++ m.entries ≡ all_entries (low ∷ high ∷ [])
  pub nodes : all_nodes (low ∷ high ∷ []) ≡ n.nodes + m.nodes

pub neighbours : (h : ℕ) (low high : Slot) (n m : Subtree) → IsThinPair h low high → low.below ≡ Some n → high.below ≡ Some m → Neighbours h low high n m
neighbours h low high n m pair is_low is_high =
    let one : slot_entries low ≡ n.entries = ap (entries_at low.first) is_low in
    let two : slot_entries high ++ [] ≡ m.entries = append-nil (slot_entries high) ∙ ap (entries_at high.first) is_high in
    let both : all_entries (low ∷ high ∷ []) ≡ n.entries ++ m.entries = ap (λ es. es ++ (slot_entries high ++ [])) one ∙ ap (λ es. n.entries ++ es) two in
    let h1 : height_of low.below ≡ n.height = ap height_of is_low in
    let h2 : height_of high.below ≡ m.height = ap height_of is_high in
    let w1 : width_of low.below ≡ n.width = ap width_of is_low in
    let w2 : width_of high.below ≡ m.width = ap width_of is_high in
    let n1 : nodes_of low.below ≡ n.nodes = ap nodes_of is_low in
    let n2 : nodes_of high.below ≡ m.nodes = ap nodes_of is_high in
    record {
      level = omega (arith, h1, h2, pair.low_summed.height_is, pair.high_summed.height_is);
      below = omega (arith, h1, pair.low_summed.height_is);
      least = omega (arith, w1, pair.low_least);
      most = omega (arith, w1, pair.low_most);
      other_least = omega (arith, w2, pair.high_least);
      other_most = omega (arith, w2, pair.high_most);
      ordered = subst IsOrdered both pair.ordered;
      entries = sym both;
      nodes = omega (arith, n1, n2);
    }

-- above leaves there is a node below a slot
pub not_none : (h : ℕ) (s : Slot) → IsSummed h s → 2 ≤ h → s.below ≡ None → ⊥
not_none h s summed above none =
    let low : height_of s.below ≡ 0 = ap height_of none in
    absurd (omega (arith, low, summed.height_is))

wide_of : (b : Option Subtree) → IfSome b IsFull → 2 ≤ height_of b + 1 → (8 ≤ width_of b) × (width_of b ≤ 16)
wide_of None full above = absurd (omega arith)
wide_of (Some n) full above = (full.least, full.most)

thin_of : (b : Option Subtree) → IfSome b (λ n. n.width ≡ 7) → 2 ≤ height_of b + 1 → width_of b ≡ 7
thin_of None thin above = absurd (omega arith)
thin_of (Some n) thin above = thin

wide : (h : ℕ) (s : Slot) → IsSlot h s → 2 ≤ h → (8 ≤ width_of s.below) × (width_of s.below ≤ 16)
wide h s slot above = wide_of s.below slot.full (omega (arith, slot.summed.height_is))

narrow : (h : ℕ) (s : Slot) → IsThin h s → 2 ≤ h → width_of s.below ≡ 7
narrow h s thin above = thin_of s.below thin.thin (omega (arith, thin.summed.height_is))

pub pair_split : (slots : List Slot) (left : ℕ) (d : Slot) → left + 1 < length slots → slots ≡ take left slots ++ (get_or slots left d ∷ get_or slots (left + 1) d ∷ drop (left + 1 + 1) slots)
pair_split slots left d within =
    sym (take-append-drop left slots) ∙ ap (λ xs. take left slots ++ xs) (drop_more slots left d (omega arith) ∙ ap (λ xs. get_or slots left d ∷ xs) (drop_more slots (left + 1) d within))

middle : (a c : List Slot) (low high : Slot) → all_entries (a ++ (low ∷ high ∷ c)) ≡ all_entries a ++ (all_entries (low ∷ high ∷ []) ++ all_entries c)
middle a c low high = entries-append a (low ∷ high ∷ c) ∙ ap (λ es. all_entries a ++ es) (entries-append (low ∷ high ∷ []) c)

-- the place of the first of the two, and the other slots
pub thin_pair : (h at left : ℕ) (slots : List Slot) (d : Slot) → IsThinAt h slots at → (left ≡ at) ⊎ (left + 1 ≡ at) → left + 1 < length slots → IsThinPair h (get_or slots left d) (get_or slots (left + 1) d)
thin_pair h at left slots d thin place within =
    let low = get_or slots left d in
    let high = get_or slots (left + 1) d in
    let whole = subst IsOrdered (ap all_entries (pair_split slots left d within) ∙ middle (take left slots) (drop (left + 1 + 1) slots) low high) thin.ordered in
    let order = ordered-left (all_entries (low ∷ high ∷ [])) (all_entries (drop (left + 1 + 1) slots)) (ordered-right (all_entries (take left slots)) (all_entries (low ∷ high ∷ []) ++ all_entries (drop (left + 1 + 1) slots)) whole) in
    elim place [
      | inl e ↦
          let one = subst (λ k. IsThin h (get_or slots k d)) (sym e) (thin.thin d) in
          let two = thin.others (left + 1) d within (omega (arith, e)) in
          let w = narrow h low one thin.above in
          let v = wide h high two thin.above in
          record { above = thin.above; low_summed = one.summed; high_summed = two.summed; low_least = omega (arith, w); low_most = omega (arith, w); high_least = omega (arith, v.0); high_most = v.1; ordered = order }
      | inr e ↦
          let one = thin.others left d (omega arith) (omega (arith, e)) in
          let two = subst (λ k. IsThin h (get_or slots k d)) (sym e) (thin.thin d) in
          let w = narrow h high two thin.above in
          let v = wide h low one thin.above in
          record { above = thin.above; low_summed = one.summed; high_summed = two.summed; low_least = omega (arith, v.0); low_most = v.1; high_least = omega (arith, w); high_most = omega (arith, w); ordered = order }
    ]
