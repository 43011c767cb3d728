-- What stands below a node is less high.
use Rattle.std.specs.Prelude.{ℕ, ◌≤◌, ◌+◌, ◌≡◌, Option, Some, None, List, [], ◌∷◌, All}
use Rattle.std.proofs.Common.{arith}
use Rattle.std.proofs.lemmas.List.Elements.{All-head, All-tail}
use Rattle.planar_geom.specs.Points.{Bounds}
use denote.Param.Weighed.{most}
use Rattle.rtree.specs.declared.nodes.Slot.{Slot}
use Rattle.rtree.specs.declared.nodes.Node.TheDeep.{deep-Slot}
use Rattle.rtree.specs.Pairs.{Pair}
use Rattle.rtree.specs.Subtrees.{Subtree, height_of}
use Rattle.rtree.specs.Slots.{IsSlot}

slot_falls : (first : Pair) (b : Bounds) (below : Option Subtree) (height : ℕ) → height_of below + 1 ≡ height
    → deep-Slot (record { first = first; bounds = b; below = below }) ≤ height
slot_falls first b None height h = omega arith
slot_falls first b (Some n) height h = omega arith

-- no node below a slot is higher than the node less one
pub no_deeper : (height : ℕ) (slots : List Slot) → All (IsSlot height) slots → most (λ s. deep-Slot s) slots ≤ height
no_deeper height [] each = omega arith
no_deeper height (s ∷ slots) each =
    let h = (All-head (IsSlot height) s slots each).summed.height_is in
    omega (arith, slot_falls s.first s.bounds s.below height h, no_deeper height slots (All-tail (IsSlot height) s slots each))
