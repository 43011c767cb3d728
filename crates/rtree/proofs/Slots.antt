-- Slots side by side: their entries and their nodes, and that there are enough entries.
use Rattle.std.proofs.Common.{◌≡◌, ℕ, ◌+◌, ◌-◌, ◌*◌, ◌^◌, ◌≤◌, ◌<◌, sym, ap, ◌∙◌, subst, Option, Some, None, IfSome, List, [], ◌∷◌, ◌++◌, length, take, drop, get_or, arith, add-one, length-append, All}
use Rattle.std.proofs.Math.Nat.{two-pow-succ, mul-le-mul_right}
use Rattle.std.proofs.lemmas.List.Elements.{All-head, All-tail, All-weaker, All-get_or, All-append, All-take, All-drop}
use Rattle.std.proofs.lemmas.List.{take_more, append-nil, take-append-drop}
use Rattle.std.proofs.lemmas.List.Concat.{flat_map-append}
use Rattle.rtree.specs.declared.nodes.Slot.{Slot}
use Rattle.planar_geom.specs.Points.{Bounds, box_round_both}
use Rattle.rtree.specs.Pairs.{Pair, IsInside, IsOrdered}
use Rattle.rtree.specs.Subtrees.{Subtree, entries_at, nodes_of, height_of, IsFull, IsRoot}
use Rattle.rtree.specs.Slots.{slot_entries, all_entries, all_nodes, subtree, IsSlot, IsNode}
use Rattle.rtree.proofs.Lists.{all-left, all-right, ordered-left, ordered-right}
use Rattle.rtree.proofs.Insides.{inside-first, inside-second}

pub entries-append : (xs ys : List Slot) → all_entries (xs ++ ys) ≡ all_entries xs ++ all_entries ys
entries-append xs ys = flat_map-append slot_entries xs ys

pub nodes-append : (xs ys : List Slot) → all_nodes (xs ++ ys) ≡ all_nodes xs + all_nodes ys
nodes-append [] ys = omega arith
nodes-append (x ∷ xs) ys = omega (arith, nodes-append xs ys)

-- a list that begins with x does so with more behind it
pub begins-append : (x : Pair) (xs ys : List Pair) → xs ≡ x ∷ drop 1 xs → xs ++ ys ≡ x ∷ drop 1 (xs ++ ys)
begins-append x [] ys h = absurd cc
begins-append x (z ∷ zs) ys h = let e : z ≡ x = cc in ap (λ w. w ∷ (zs ++ ys)) e

few_at : (first : Pair) (below : Option Subtree) → IfSome below IsFull → 7 * nodes_of below + 1 ≤ length (entries_at first below)
few_at first None h = omega arith
few_at first (Some n) h = h.few_nodes

low_at : (below : Option Subtree) → IfSome below IsFull → height_of below ≤ nodes_of below
low_at None h = omega arith
low_at (Some n) h = h.low

many_at : (first : Pair) (below : Option Subtree) → IfSome below IsFull → 2 ^ height_of below ≤ length (entries_at first below)
many_at first None h = omega arith
many_at first (Some n) h = h.many

pub few_all : (h : ℕ) (slots : List Slot) → All (IsSlot h) slots → 7 * all_nodes slots + length slots ≤ length (all_entries slots)
few_all h [] each = omega arith
few_all h (s ∷ slots) each =
    omega (arith, length-append (slot_entries s) (all_entries slots), few_at s.first s.below (All-head (IsSlot h) s slots each).full, few_all h slots (All-tail (IsSlot h) s slots each))

pub many_all : (h k : ℕ) (slots : List Slot) → h ≡ k + 1 → All (IsSlot h) slots → length slots * 2 ^ k ≤ length (all_entries slots)
many_all h k [] e each = omega arith
many_all h k (s ∷ slots) e each =
    let one = All-head (IsSlot h) s slots each in
    let same : height_of s.below ≡ k = omega (arith, one.summed.height_is) in
    let here : 2 ^ k ≤ length (slot_entries s) = subst (λ n. 2 ^ n ≤ length (slot_entries s)) same (many_at s.first s.below one.full) in
    omega (arith, here, length-append (slot_entries s) (all_entries slots), many_all h k slots e (All-tail (IsSlot h) s slots each))

-- the height of a node with some slot
pub height_low : (h : ℕ) (slots : List Slot) → All (IsSlot h) slots → 1 ≤ length slots → (1 ≤ h) × (h ≤ all_nodes slots + 1)
height_low h [] each some = absurd (omega arith)
height_low h (s ∷ slots) each some =
    let one = All-head (IsSlot h) s slots each in
    (omega (arith, one.summed.height_is), omega (arith, one.summed.height_is, low_at s.below one.full))

power : (h k : ℕ) → h ≡ k + 1 → 2 ^ h ≡ 2 * 2 ^ k
power h k e = subst (λ n. 2 ^ n ≡ 2 * 2 ^ k) (sym e) (rw (add-one) (omega (arith, two-pow-succ k)))

pub full_of : (h : ℕ) (slots : List Slot) → All (IsSlot h) slots → 8 ≤ length slots → length slots ≤ 16 → IsFull (subtree h slots)
full_of h slots each least most =
    let low = height_low h slots each (omega arith) in
    let k : h ≡ (h - 1) + 1 = omega (arith, low.0) in
    let wide : 8 * 2 ^ (h - 1) ≤ length slots * 2 ^ (h - 1) = mul-le-mul_right (2 ^ (h - 1)) least in
    record {
      least = least;
      most = most;
      high = low.0;
      few_nodes = omega (arith, few_all h slots each);
      low = low.1;
      many = omega (arith, wide, power h (h - 1) k, many_all h (h - 1) slots k each);
    }

pub root_of : (h : ℕ) (slots : List Slot) → All (IsSlot h) slots → 1 ≤ length slots → (1 < h → 2 ≤ length slots) → length slots ≤ 16 → IsRoot (subtree h slots)
root_of h slots each least two most =
    let low = height_low h slots each least in
    let k : h ≡ (h - 1) + 1 = omega (arith, low.0) in
    let one : 1 * 2 ^ (h - 1) ≤ length slots * 2 ^ (h - 1) = mul-le-mul_right (2 ^ (h - 1)) least in
    record {
      least = least;
      two = two;
      most = most;
      few_nodes = omega (arith, few_all h slots each);
      low = low.1;
      many = omega (arith, one, power h (h - 1) k, many_all h (h - 1) slots k each);
    }

-- the entries of a node begin with the first of its first slot
pub begins_all : (h : ℕ) (slots : List Slot) (s : Slot) → All (IsSlot h) slots → 1 ≤ length slots → s ≡ get_or slots 0 s → all_entries slots ≡ s.first ∷ drop 1 (all_entries slots)
begins_all h [] s each some read = absurd (omega arith)
begins_all h (x ∷ slots) s each some read =
    let e : all_entries (x ∷ slots) ≡ x.first ∷ drop 1 (all_entries (x ∷ slots)) = begins-append x.first (slot_entries x) (all_entries slots) (All-head (IsSlot h) x slots each).summed.begins in
    subst (λ t. all_entries (x ∷ slots) ≡ t.first ∷ drop 1 (all_entries (x ∷ slots))) (sym read) e

pub entries_more : (slots : List Slot) (i : ℕ) (s : Slot) → i < length slots → s ≡ get_or slots i s → all_entries (take (i + 1) slots) ≡ all_entries (take i slots) ++ slot_entries s
entries_more slots i s within read =
    ap all_entries (take_more slots i s within) ∙ (entries-append (take i slots) (get_or slots i s ∷ []) ∙ ap (λ x. all_entries (take i slots) ++ x) (append-nil (slot_entries (get_or slots i s)) ∙ ap slot_entries (sym read)))

-- a box round some first slots and the next one
pub covers_more : (h : ℕ) (slots : List Slot) (i : ℕ) (s : Slot) (b : Bounds) → All (IsSlot h) slots → i < length slots → s ≡ get_or slots i s → All (λ p. IsInside b p.bounds) (all_entries (take i slots)) → All (λ p. IsInside (box_round_both b s.bounds) p.bounds) (all_entries (take (i + 1) slots))
covers_more h slots i s b each within read so_far =
    let P : Pair → Type 0 = λ p. IsInside (box_round_both b s.bounds) p.bounds in
    let old : All P (all_entries (take i slots)) = All-weaker (λ p. IsInside b p.bounds) P (λ p k. inside-first b s.bounds p.bounds k) (all_entries (take i slots)) so_far in
    let own : IsSlot h s = subst (IsSlot h) (sym read) (All-get_or (IsSlot h) slots i s within each) in
    let new : All P (slot_entries s) = All-weaker (λ p. IsInside s.bounds p.bounds) P (λ p k. inside-second b s.bounds p.bounds k) (slot_entries s) own.summed.covers in
    let e = entries_more slots i s within read in
    subst (All P) (sym e) (All-append P (all_entries (take i slots)) (slot_entries s) old new)

pub entries_parts : (n : ℕ) (slots : List Slot) → all_entries (take n slots) ++ all_entries (drop n slots) ≡ all_entries slots
entries_parts n slots = sym (entries-append (take n slots) (drop n slots)) ∙ ap all_entries (take-append-drop n slots)

pub nodes_parts : (n : ℕ) (slots : List Slot) → all_nodes (take n slots) + all_nodes (drop n slots) ≡ all_nodes slots
nodes_parts n slots = sym (nodes-append (take n slots) (drop n slots)) ∙ ap all_nodes (take-append-drop n slots)

pub part_left : (h n room room' : ℕ) (slots : List Slot) → IsNode h slots room → 17 ≤ room' → IsNode h (take n slots) room'
part_left h n room room' slots node roomy = record {
  each = All-take (IsSlot h) n slots node.each;
  ordered = ordered-left (all_entries (take n slots)) (all_entries (drop n slots)) (subst IsOrdered (sym (entries_parts n slots)) node.ordered);
  roomy = roomy;
}

pub part_right : (h n room room' : ℕ) (slots : List Slot) → IsNode h slots room → 17 ≤ room' → IsNode h (drop n slots) room'
part_right h n room room' slots node roomy = record {
  each = All-drop (IsSlot h) n slots node.each;
  ordered = ordered-right (all_entries (take n slots)) (all_entries (drop n slots)) (subst IsOrdered (sym (entries_parts n slots)) node.ordered);
  roomy = roomy;
}

pub joined : (h k room room' room'' : ℕ) (low high : List Slot) → IsNode h low room → IsNode k high room' → h ≡ k → IsOrdered (all_entries low ++ all_entries high) → 17 ≤ room'' → IsNode h (low ++ high) room''
joined h k room room' room'' low high one two same order roomy = record {
  each = All-append (IsSlot h) low high one.each (subst (λ n. All (IsSlot n) high) (sym same) two.each);
  ordered = subst IsOrdered (sym (entries-append low high)) order;
  roomy = roomy;
}

-- the first of the slots of a node, and the others
pub front_node : (h room room' : ℕ) (a b : List Slot) → IsNode h (a ++ b) room → 17 ≤ room' → IsNode h a room'
front_node h room room' a b node roomy = record {
  each = all-left (IsSlot h) a b node.each;
  ordered = ordered-left (all_entries a) (all_entries b) (subst IsOrdered (entries-append a b) node.ordered);
  roomy = roomy;
}

pub back_node : (h room room' : ℕ) (a b : List Slot) → IsNode h (a ++ b) room → 17 ≤ room' → IsNode h b room'
back_node h room room' a b node roomy = record {
  each = all-right (IsSlot h) a b node.each;
  ordered = ordered-right (all_entries a) (all_entries b) (subst IsOrdered (entries-append a b) node.ordered);
  roomy = roomy;
}

-- two parts of so many slots, each a node, have enough entries for both
pub split_full : (h n : ℕ) (slots : List Slot) → All (IsSlot h) slots → 17 ≤ length slots → 7 * ((all_nodes (take n slots) + 1) + (all_nodes (drop n slots) + 1)) + 2 ≤ length (all_entries (take n slots) ++ all_entries (drop n slots))
split_full h n slots each wide = rw (entries_parts n slots) (omega (arith, few_all h slots each, nodes_parts n slots))
