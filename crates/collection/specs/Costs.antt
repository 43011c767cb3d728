-- How many nodes of the tree a change of one object visits.
use Rattle.std.specs.Prelude.{ℕ, ◌≤◌, ◌+◌, ◌*◌, ◌^◌}

-- between these counts at most 80 times one node more than a tree of so many objects has levels
pub record IsCheap (objects before after : ℕ) : Type 0 where
  pub depth : ℕ
  pub levels : 2 ^ depth ≤ 2 * objects + 1
  pub cost : after ≤ before + 80 * (depth + 1)
