-- Slots before and behind the place of a pair, and what becomes of a node where some slots are replaced.
use Rattle.std.proofs.Common.{◌≡◌, ℕ, zero, suc, ◌+◌, ◌-◌, ◌≤◌, ◌<◌, refl, sym, ap, ◌∙◌, subst, inl, inr, Option, Some, None, IfSome, List, [], ◌∷◌, ◌++◌, length, take, drop, get_or, arith, All}
use Rattle.std.proofs.lemmas.Bool.{cases_lt}
use Rattle.std.proofs.lemmas.List.{drop_more, take-append-drop, drop_all}
use Rattle.std.proofs.lemmas.List.Elements.{All-nil, All-cons, All-weaker, All-get_or, All-append}
use Rattle.rtree.specs.declared.nodes.Slot.{Slot}
use Rattle.rtree.specs.Pairs.{Pair, IsBefore, IsAtMost, IsOrdered, IsPut}
use Rattle.rtree.specs.Subtrees.{Subtree, height_of, IsFull}
use Rattle.rtree.specs.Slots.{slot_entries, all_entries, all_nodes, IsSlot, IsNode, IsPlaceFor}
use Rattle.rtree.proofs.Order.{at_most-refl, at_most-trans, before-at_most, before-trans}
use Rattle.rtree.proofs.Lists.{all-left, all-right, ordered-right, ordered-before, put-between, put-ordered}
use Rattle.rtree.proofs.Slots.{entries-append, nodes-append}

-- the slots before, the slot at a place, and those behind
pub split_at : (slots : List Slot) (i : ℕ) (d : Slot) → i < length slots → slots ≡ take i slots ++ (get_or slots i d ∷ drop (i + 1) slots)
split_at slots i d within = sym (take-append-drop i slots) ∙ ap (λ xs. take i slots ++ xs) (drop_more slots i d within)

pub entries_split : (slots : List Slot) (i : ℕ) (d : Slot) → i < length slots → all_entries slots ≡ all_entries (take i slots) ++ (slot_entries (get_or slots i d) ++ all_entries (drop (i + 1) slots))
entries_split slots i d within = ap all_entries (split_at slots i d within) ∙ entries-append (take i slots) (get_or slots i d ∷ drop (i + 1) slots)

-- the entries before a slot are at most its first
before_first : (h room : ℕ) (slots : List Slot) (i : ℕ) (d : Slot) → IsNode h slots room → i < length slots → All (λ q. IsAtMost q (get_or slots i d).first) (all_entries (take i slots))
before_first h room slots i d node within =
    let s = get_or slots i d in
    let begins = (All-get_or (IsSlot h) slots i d within node.each).summed.begins in
    let e : all_entries slots ≡ all_entries (take i slots) ++ (s.first ∷ (drop 1 (slot_entries s) ++ all_entries (drop (i + 1) slots))) = entries_split slots i d within ∙ ap (λ es. all_entries (take i slots) ++ (es ++ all_entries (drop (i + 1) slots))) begins in
    ordered-before (all_entries (take i slots)) s.first (drop 1 (slot_entries s) ++ all_entries (drop (i + 1) slots)) (subst IsOrdered e node.ordered)

-- those of a slot and behind it are at least its first
from_first : (h room : ℕ) (slots : List Slot) (i : ℕ) (d : Slot) → IsNode h slots room → i < length slots → All (IsAtMost (get_or slots i d).first) (all_entries (drop i slots))
from_first h room slots i d node within =
    let s = get_or slots i d in
    let begins = (All-get_or (IsSlot h) slots i d within node.each).summed.begins in
    let rest = drop 1 (slot_entries s) ++ all_entries (drop (i + 1) slots) in
    let e : all_entries slots ≡ all_entries (take i slots) ++ (s.first ∷ rest) = entries_split slots i d within ∙ ap (λ es. all_entries (take i slots) ++ (es ++ all_entries (drop (i + 1) slots))) begins in
    let behind : all_entries (drop i slots) ≡ s.first ∷ rest = ap all_entries (drop_more slots i d within) ∙ ap (λ es. es ++ all_entries (drop (i + 1) slots)) begins in
    let order = ordered-right (all_entries (take i slots)) (s.first ∷ rest) (subst IsOrdered e node.ordered) in
    subst (All (IsAtMost s.first)) (sym behind) (All-cons (IsAtMost s.first) s.first rest (at_most-refl s.first) order.0)

-- the place of a pair: what is before the slot before it, and what is behind it
pub low_part : (h room : ℕ) (slots : List Slot) (p : Pair) (k : ℕ) (d : Slot) → IsNode h slots room → IsPlaceFor slots p k → All (λ q. IsAtMost q p) (all_entries (take (k - 1) slots))
low_part h room slots p zero d node place = All-nil (λ q. IsAtMost q p)
low_part h room slots p (suc j) d node place =
    let i = suc j - 1 in
    let within : i < length slots = omega (arith, place.within) in
    All-weaker (λ q. IsAtMost q (get_or slots i d).first) (λ q. IsAtMost q p) (λ q l. at_most-trans q (get_or slots i d).first p l (place.before d (omega arith))) (all_entries (take i slots)) (before_first h room slots i d node within)

high_within : (h room : ℕ) (slots : List Slot) (p : Pair) (k : ℕ) (d : Slot) → IsNode h slots room → IsPlaceFor slots p k → k < length slots → All (IsBefore p) (all_entries (drop k slots))
high_within h room slots p k d node place within =
    All-weaker (IsAtMost (get_or slots k d).first) (IsBefore p) (λ q l. before-trans p (get_or slots k d).first q (place.behind d within) l) (all_entries (drop k slots)) (from_first h room slots k d node within)

high_past : (slots : List Slot) (p : Pair) (k : ℕ) → length slots ≤ k → All (IsBefore p) (all_entries (drop k slots))
high_past slots p k past = subst (λ xs. All (IsBefore p) (all_entries xs)) (sym (drop_all k slots past)) (All-nil (IsBefore p))

pub high_part : (h room : ℕ) (slots : List Slot) (p : Pair) (k : ℕ) (d : Slot) → IsNode h slots room → IsPlaceFor slots p k → All (IsBefore p) (all_entries (drop k slots))
high_part h room slots p k d node place = elim (cases_lt k (length slots)) [
  | inl within ↦ high_within h room slots p k d node place within
  | inr past ↦ high_past slots p k past
]

-- some slots in the middle are replaced by others, with a pair more
pub grown-entries : (p : Pair) (a m n c : List Slot) → IsPut p (all_entries m) (all_entries n) → All (λ q. IsAtMost q p) (all_entries a) → All (IsBefore p) (all_entries c) → IsPut p (all_entries (a ++ (m ++ c))) (all_entries (a ++ (n ++ c)))
grown-entries p a m n c put low high =
    let high' = All-weaker (IsBefore p) (IsAtMost p) (λ q l. before-at_most p q l) (all_entries c) high in
    let e : (x : List Slot) → all_entries (a ++ (x ++ c)) ≡ all_entries a ++ (all_entries x ++ all_entries c) = λ x. entries-append a (x ++ c) ∙ ap (λ es. all_entries a ++ es) (entries-append x c) in
    subst (λ es. IsPut p es (all_entries (a ++ (n ++ c)))) (sym (e m)) (subst (λ es. IsPut p (all_entries a ++ (all_entries m ++ all_entries c)) es) (sym (e n)) (put-between p (all_entries a) (all_entries m) (all_entries n) (all_entries c) low high' put))

pub grown-node : (h room room' : ℕ) (p : Pair) (a m n c : List Slot) → IsNode h (a ++ (m ++ c)) room → All (IsSlot h) n → IsPut p (all_entries (a ++ (m ++ c))) (all_entries (a ++ (n ++ c))) → 17 ≤ room' → IsNode h (a ++ (n ++ c)) room'
grown-node h room room' p a m n c node each put roomy = record {
  each = All-append (IsSlot h) a (n ++ c) (all-left (IsSlot h) a (m ++ c) node.each) (All-append (IsSlot h) n c each (all-right (IsSlot h) m c (all-right (IsSlot h) a (m ++ c) node.each)));
  ordered = put-ordered p (all_entries (a ++ (m ++ c))) (all_entries (a ++ (n ++ c))) put node.ordered;
  roomy = roomy;
}

pub nodes-middle : (a m c : List Slot) → all_nodes (a ++ (m ++ c)) ≡ all_nodes a + (all_nodes m + all_nodes c)
nodes-middle a m c = nodes-append a (m ++ c) ∙ ap (λ n. all_nodes a + n) (nodes-append m c)

-- a pair that is put into no pairs
pub put_alone : (p : Pair) → IsPut p [] (p ∷ [])
put_alone p = record {
  there = record { front = []; back = []; without = refl; with = refl };
  below = All-nil (λ q. IsAtMost q p);
  above = All-nil (IsAtMost p);
}

leaf_none : (b : Option Subtree) → height_of b + 1 ≡ 1 → IfSome b IsFull → b ≡ None
leaf_none None h full = refl
leaf_none (Some n) h full = absurd (omega (arith, full.high))

-- a slot of a leaf is one entry
pub leaf_slot : (s : Slot) → IsSlot 1 s → s.below ≡ None
leaf_slot s slot = leaf_none s.below slot.summed.height_is slot.full
