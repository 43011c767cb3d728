-- What a tree is seen as.
use Rattle.std.specs.Prelude.{ℕ, ◌≡◌, ◌≤◌, ◌<◌, ◌+◌, ◌-◌, ◌*◌, ◌^◌, Option, IfSome, List, length}
use Rattle.rtree.specs.Pairs.{Pair}
use Rattle.rtree.specs.Subtrees.{Subtree, Stock, entries_of, nodes_of, height_of, IsRoot}

-- a tree: its pairs in order, the number of pairs for which there is room, and the number of levels
pub record Seen : Type 0 where
  pub pairs : List Pair
  pub spare : ℕ
  pub depth : ℕ

-- what a tree with this root, so many pairs and so many lists is seen as: each list is room for seven pairs, but for one pair
abbrev pub seen : Option Subtree → ℕ → ℕ → Seen
seen root pairs lists = record { pairs = entries_of root; spare = 7 * lists - (pairs + 1); depth = height_of root }

-- the root is one, the pairs and the lists are counted, and the pool has room for all lists
pub record IsTree (root : Option Subtree) (pool : Stock) (pairs lists : ℕ) : Type 0 where
  pub whole : IfSome root IsRoot
  pub pairs_are : pairs ≡ length (entries_of root)
  pub lists_are : lists ≡ pool.spare + nodes_of root
  pub enough : 1 ≤ pairs → pairs < 7 * lists
  pub fits : 7 * lists < 2 ^ 64
  pub room : lists ≤ pool.room
