-- How changes are cut into stretches.
use Rattle.std.specs.Prelude.{◌<◌, ◌≤◌, ◌*◌, ℕ, List, take, drop}
use Rattle.world_data.specs.declared.worlds.Change.{Change}

-- so many stretches of this length have so many changes, and each has one
pub record IsCut (n count size : ℕ) : Type 0 where
  pub long : 0 < size
  pub whole : n ≤ count * size
  pub inside : (k : ℕ) → k < count → k * size < n

-- some changes from a place on
abbrev pub part : List Change → ℕ → ℕ → List Change
part changes from n = take n (drop from changes)

-- those in front of a stretch
abbrev pub front : List Change → ℕ → ℕ → List Change
front changes size k = take (k * size) changes
