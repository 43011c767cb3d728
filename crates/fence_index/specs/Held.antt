-- What a set of boxes holds, and what one box of it weighs.
use Rattle.std.specs.Prelude.{ℕ, ◌≤◌, List, Option, Some, None}
use Rattle.planar_geom.specs.Points.{Bounds}
use Rattle.rtree.specs.Pairs.{Pair, pair}

-- boxes, each beside a number, and how many more there is room for
pub record Held : Type 0 where
  pub pairs : List Pair
  pub spare : ℕ

-- there is room for a box, where there is one
abbrev pub Fits : Option Bounds → ℕ → Type 0
Fits None spare = Unit {0}
Fits (Some b) spare = 1 ≤ spare

-- what a box beside a number weighs, where there is one
abbrev pub weight_of : (Pair → ℕ) → Option Bounds → ℕ → ℕ
weight_of w None n = 0
weight_of w (Some b) n = w (pair b n)
