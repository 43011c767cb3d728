-- What becomes of a node that loses a pair, and where no such pair stands.
use Rattle.std.proofs.Common.{◌≡◌, ℕ, ◌+◌, ◌-◌, ◌≤◌, ◌<◌, sym, ap, ◌∙◌, subst, List, ◌∷◌, ◌++◌, length, take, drop, get_or, arith, All}
use Rattle.std.specs.List.{Contains}
use Rattle.std.proofs.lemmas.List.Elements.{All-get_or, All-append, All-contains}
use Rattle.rtree.specs.declared.nodes.Slot.{Slot}
use Rattle.rtree.specs.Pairs.{Pair, IsBefore, IsAtMost, IsOrdered, IsWith}
use Rattle.rtree.specs.Slots.{slot_entries, all_entries, IsSlot, IsNode, IsPlaceFor}
use Rattle.rtree.proofs.Order.{at_most-refl, before-not_at_most}
use Rattle.rtree.proofs.Lists.{all-left, all-right, with-between, with-ordered, not_around}
use Rattle.rtree.proofs.Slots.{entries-append}
use Rattle.rtree.proofs.Places.{entries_split, high_part}

pub shrunk-entries : (p : Pair) (a m n c : List Slot) → IsWith p (all_entries n) (all_entries m) → IsWith p (all_entries (a ++ (n ++ c))) (all_entries (a ++ (m ++ c)))
shrunk-entries p a m n c w =
    let e : (x : List Slot) → all_entries (a ++ (x ++ c)) ≡ all_entries a ++ (all_entries x ++ all_entries c) = λ x. entries-append a (x ++ c) ∙ ap (λ es. all_entries a ++ es) (entries-append x c) in
    subst (λ es. IsWith p es (all_entries (a ++ (m ++ c)))) (sym (e n)) (subst (λ es. IsWith p (all_entries a ++ (all_entries n ++ all_entries c)) es) (sym (e m)) (with-between p (all_entries a) (all_entries n) (all_entries m) (all_entries c) w))

pub shrunk-node : (h room room' : ℕ) (p : Pair) (a m n c : List Slot) → IsNode h (a ++ (m ++ c)) room → All (IsSlot h) n → IsWith p (all_entries (a ++ (n ++ c))) (all_entries (a ++ (m ++ c))) → 17 ≤ room' → IsNode h (a ++ (n ++ c)) room'
shrunk-node h room room' p a m n c node each w roomy = record {
  each = All-append (IsSlot h) a (n ++ c) (all-left (IsSlot h) a (m ++ c) node.each) (All-append (IsSlot h) n c each (all-right (IsSlot h) m c (all-right (IsSlot h) a (m ++ c) node.each)));
  ordered = with-ordered p (all_entries (a ++ (n ++ c))) (all_entries (a ++ (m ++ c))) w node.ordered;
  roomy = roomy;
}

-- where every slot begins behind a pair, no slot has it
pub absent_before : (h room : ℕ) (slots : List Slot) (p : Pair) (k : ℕ) (d : Slot) → IsNode h slots room → IsPlaceFor slots p k → k ≡ 0 → Contains (all_entries slots) p → ⊥
absent_before h room slots p k d node place none there =
    let above = subst (λ n. All (IsBefore p) (all_entries (drop n slots))) none (high_part h room slots p k d node place) in
    before-not_at_most p p (All-contains (IsBefore p) (all_entries slots) p above there) (at_most-refl p)

-- where the last slot that begins at most with a pair does not have it, no slot has it
pub absent_around : (h room : ℕ) (slots : List Slot) (p : Pair) (i k : ℕ) (d : Slot) → IsNode h slots room → IsPlaceFor slots p k → k ≡ i + 1 → (Contains (slot_entries (get_or slots i d)) p → ⊥) → Contains (all_entries slots) p → ⊥
absent_around h room slots p i k d node place next none there =
    let within : i < length slots = omega (arith, place.within) in
    let s = get_or slots i d in
    let begins = (All-get_or (IsSlot h) slots i d within node.each).summed.begins in
    let a = all_entries (take i slots) in
    let b = drop 1 (slot_entries s) in
    let c = all_entries (drop (i + 1) slots) in
    let e : all_entries slots ≡ a ++ ((s.first ∷ b) ++ c) = entries_split slots i d within ∙ ap (λ es. a ++ (es ++ c)) begins in
    let before : (j : ℕ) → j ≡ i → IsAtMost (get_or slots j d).first p → IsAtMost s.first p = λ j same h'. subst (λ n. IsAtMost (get_or slots n d).first p) same h' in
    let low = before (k - 1) (omega arith) (place.before d (omega arith)) in
    let above = subst (λ n. All (IsBefore p) (all_entries (drop n slots))) next (high_part h room slots p k d node place) in
    not_around p s.first a b c (subst IsOrdered e node.ordered) low above (subst (λ es. Contains es p → ⊥) begins none) (subst (λ es. Contains es p) e there)
