-- The slots of a node, and what holds of them.
use Rattle.std.specs.Prelude.{ℕ, ◌≡◌, ◌≢◌, ◌≤◌, ◌<◌, ◌+◌, ◌-◌, Option, Some, None, IfSome, List, [], ◌∷◌, length, drop, All, flat_map, slice_index_or}
use Rattle.rtree.specs.declared.nodes.Slot.{Slot}
use Rattle.rtree.specs.Pairs.{Pair, IsBefore, IsAtMost, IsOrdered, IsInside}
use Rattle.rtree.specs.Subtrees.{Subtree, entries_at, height_of, nodes_of, width_of, IsFull}

-- the entries of a slot
abbrev pub slot_entries : Slot → List Pair
slot_entries s = entries_at s.first s.below

-- the entries of all slots
abbrev pub all_entries : List Slot → List Pair
all_entries slots = flat_map slot_entries slots

-- how many nodes stand below slots
abbrev pub all_nodes : List Slot → ℕ
all_nodes [] = 0
all_nodes (s ∷ slots) = nodes_of s.below + all_nodes slots

-- a node of these slots
abbrev pub subtree : ℕ → List Slot → Subtree
subtree height slots = record { entries = all_entries slots; height = height; width = length slots; nodes = all_nodes slots + 1 }

-- a slot of a node of this height, that begins with its first entry, with a box that holds those of all its entries
pub record IsSummed (height : ℕ) (s : Slot) : Type 0 where
  pub height_is : height_of s.below + 1 ≡ height
  pub begins : slot_entries s ≡ s.first ∷ drop 1 (slot_entries s)
  pub covers : All (λ p. IsInside s.bounds p.bounds) (slot_entries s)
  pub exact : s.below ≡ None → s.bounds ≡ s.first.bounds

-- the same, where what stands below is full
pub record IsSlot (height : ℕ) (s : Slot) : Type 0 where
  pub summed : IsSummed height s
  pub full : IfSome s.below IsFull

-- the slots of a node stand in order, in a list with room for one more than a node holds
pub record IsNode (height : ℕ) (slots : List Slot) (room : ℕ) : Type 0 where
  pub each : All (IsSlot height) slots
  pub ordered : IsOrdered (all_entries slots)
  pub roomy : 17 ≤ room

-- k is how many slots begin with a pair that is at most p
pub record IsPlaceFor (slots : List Slot) (p : Pair) (k : ℕ) : Type 0 where
  pub within : k ≤ length slots
  pub before : (d : Slot) → 0 < k → IsAtMost (slice_index_or slots (k - 1) d).first p
  pub behind : (d : Slot) → k < length slots → IsBefore p (slice_index_or slots k d).first

-- a slot over a node that has lost one slot too many
pub record IsThin (height : ℕ) (s : Slot) : Type 0 where
  pub summed : IsSummed height s
  pub thin : IfSome s.below (λ n. n.width ≡ 7)

-- of the slots of a node above leaves, one has lost a slot too many
pub record IsThinAt (height : ℕ) (slots : List Slot) (at : ℕ) : Type 0 where
  pub above : 2 ≤ height
  pub two : 2 ≤ length slots
  pub within : at < length slots
  pub thin : (d : Slot) → IsThin height (slice_index_or slots at d)
  pub others : (k : ℕ) (d : Slot) → k < length slots → k ≢ at → IsSlot height (slice_index_or slots k d)
  pub ordered : IsOrdered (all_entries slots)

-- a slot, and perhaps another
abbrev pub slots_of : Slot → Option Slot → List Slot
slots_of s None = s ∷ []
slots_of s (Some t) = s ∷ t ∷ []

-- two slots side by side above leaves, one of them over a node that has lost a slot too many
pub record IsThinPair (height : ℕ) (low high : Slot) : Type 0 where
  pub above : 2 ≤ height
  pub low_summed : IsSummed height low
  pub high_summed : IsSummed height high
  pub low_least : 7 ≤ width_of low.below
  pub low_most : width_of low.below ≤ 16
  pub high_least : 7 ≤ width_of high.below
  pub high_most : width_of high.below ≤ 16
  pub ordered : IsOrdered (all_entries (low ∷ high ∷ []))
