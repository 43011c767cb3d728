-- What the nodes of a tree are seen as.
use Rattle.std.specs.Prelude.{ℕ, ◌≡◌, ◌≤◌, ◌<◌, ◌+◌, ◌*◌, ◌^◌, Bool, true, false, Option, Some, None, List, [], ◌∷◌, ◌++◌, length, Contains}
use Rattle.rtree.specs.Pairs.{Pair, IsWith}

-- a node with all below it: its entries in order, its height, how many slots it has itself, and how many nodes there are
pub record Subtree : Type 0 where
  pub entries : List Pair
  pub height : ℕ
  pub width : ℕ
  pub nodes : ℕ

-- the entries of a slot: its first alone, or those below
abbrev pub entries_at : Pair → Option Subtree → List Pair
entries_at first None = first ∷ []
entries_at first (Some n) = n.entries

-- the entries of a node, if there is one
abbrev pub entries_of : Option Subtree → List Pair
entries_of None = []
entries_of (Some n) = n.entries

-- how many nodes there are
abbrev pub nodes_of : Option Subtree → ℕ
nodes_of None = 0
nodes_of (Some n) = n.nodes

-- how many slots there are
abbrev pub width_of : Option Subtree → ℕ
width_of None = 0
width_of (Some n) = n.width

-- how many levels there are
abbrev pub height_of : Option Subtree → ℕ
height_of None = 0
height_of (Some n) = n.height

-- a node other than the root has 8 to 16 slots, and so enough entries for its height and its nodes
pub record IsFull (n : Subtree) : Type 0 where
  pub least : 8 ≤ n.width
  pub most : n.width ≤ 16
  pub high : 1 ≤ n.height
  pub few_nodes : 7 * n.nodes + 1 ≤ length n.entries
  pub low : n.height ≤ n.nodes
  pub many : 2 ^ n.height ≤ length n.entries

-- a root has at most 16 slots, at least one, and two above others, and so enough entries for its height and its nodes
pub record IsRoot (n : Subtree) : Type 0 where
  pub least : 1 ≤ n.width
  pub two : 1 < n.height → 2 ≤ n.width
  pub most : n.width ≤ 16
  pub few_nodes : 7 * n.nodes ≤ length n.entries + 6
  pub low : n.height ≤ n.nodes
  pub many : 2 ^ n.height ≤ 2 * length n.entries + 1

-- what is left of a node that was split where it held too much, beside the upper half, if there is one
abbrev pub IsHalved : Subtree → Option Subtree → Type 0
IsHalved n None = n.width ≤ 16
IsHalved n (Some u) = (u.height ≡ n.height) × (8 ≤ n.width) × (n.width ≤ 16) × (8 ≤ u.width) × (u.width ≤ 16)

-- the two parts of a node that was split have seven entries or more for each node
abbrev pub IsSplitFull : Subtree → Option Subtree → Type 0
IsSplitFull n None = Unit {0}
IsSplitFull n (Some u) = 7 * (n.nodes + u.nodes) + 2 ≤ length (n.entries ++ u.entries)

-- what removing a pair answers: it was there and is gone, or there was none and all is as before
abbrev pub IsRemoved : Bool → Pair → Subtree → Subtree → Type 0
IsRemoved true p old new = IsWith p new.entries old.entries
IsRemoved false p old new = (Contains old.entries p → ⊥) × (new ≡ old)

-- empty lists that wait, and for how many there is room
pub record Stock : Type 0 where
  pub spare : ℕ
  pub room : ℕ
