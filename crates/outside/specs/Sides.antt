-- What a disk holds: the bytes of two sides. What is told of it, and what happens to one side.
use Rattle.std.specs.Prelude.{◌≡◌, ◌<◌, List, ℕ, Option, None, Some}
use Rattle.std.specs.List.{AllByRecursion}
use Rattle.outside.specs.declared.sides.Side.{Side}
use Rattle.outside.specs.declared.sides.Side.TheVariants.{A, B}

-- the bytes of both sides
pub record Sides : Type 0 where
  pub a : List ℕ
  pub b : List ℕ

abbrev pub side_of : Sides → Side → List ℕ
side_of s A = s.a
side_of s B = s.b

-- the same, with other bytes on one side
abbrev pub with_side : Sides → Side → List ℕ → Sides
with_side s A bytes = record { a = bytes; b = s.b }
with_side s B bytes = record { a = s.a; b = bytes }

abbrev pub other_side : Side → Side
other_side A = B
other_side B = A

-- each is a byte
abbrev pub AreBytes : List ℕ → Type 0
AreBytes bytes = AllByRecursion (λ b. b < 256) bytes

-- what is told before is told after, and P holds of the two; what is not told is not told after
abbrev pub Told : Option Sides → Option Sides → (Sides → Sides → Type 0) → Type 0
Told None None P = Unit {0}
Told None (Some t) P = ⊥
Told (Some s) None P = ⊥
Told (Some s) (Some t) P = P s t

-- P holds of what is told
abbrev pub IfTold : Option Sides → (Sides → Type 0) → Type 0
IfTold None P = Unit {0}
IfTold (Some s) P = P s

-- P leads from the old bytes of one side to the new ones, and the other side stays
pub record On (side : Side) (P : List ℕ → List ℕ → Type 0) (old new : Sides) : Type 0 where
  pub changed : new ≡ with_side old side (side_of new side)
  pub how : P (side_of old side) (side_of new side)
