-- What holds of whatever a crash may leave, and of whatever it might have left since a moment.
use Rattle.std.specs.Prelude.{◌≡◌, ◌⊎◌, ◌≤◌, ℕ, List}
use Rattle.outside.specs.declared.sides.Side.{Side}
use Rattle.outside.specs.Sides.{Sides, side_of}

-- each image has P
abbrev pub EachImage : (Sides → Type 0) → (Sides → Type 0) → Type 0
EachImage images P = (c : Sides) → images c → P c

-- each image has these bytes on a side
abbrev pub IsSettled : (Sides → Type 0) → Side → List ℕ → Type 0
IsSettled images side bytes = (c : Sides) → images c → side_of c side ≡ bytes

-- whatever a crash at some moment since t might have left has P
abbrev pub EachSince : {D : Type 0} → (D → ℕ → Sides → Type 0) → D → ℕ → (Sides → Type 0) → Type 0
EachSince left_since disk t P = (c : Sides) → left_since disk t c → P c

-- from old to new, at no moment might a crash have left what it might not have left before and what lacks P
pub record LeavesOnly {D : Type 0} (moment : D → ℕ) (left_since : D → ℕ → Sides → Type 0) (old new : D) (P : Sides → Type 0) : Type 0 where
  pub later : moment old ≤ moment new
  pub either : (t : ℕ) (c : Sides) → t ≤ moment old → left_since new t c → left_since old t c ⊎ P c

-- a step leads there from what a crash might have left before
abbrev pub After : (Sides → Sides → Type 0) → (Sides → Type 0) → Sides → Type 0
After step images c = (d : Sides) × images d × step d c
