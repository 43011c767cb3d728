-- What the calls of a disk do to its sides, what a crash may leave of them, and how time goes on.
use Rattle.std.specs.Prelude.{◌≡◌, ◌⊎◌, ◌+◌, ◌-◌, ◌≤◌, ℕ, Bool, List, ◌++◌, length, take, drop, max, replicate}
use Rattle.outside.specs.declared.sides.Side.{Side}
use Rattle.outside.specs.Sides.{Sides, side_of, other_side}

-- the bytes after a write of `piece` at `at`: zeros stand between an old end and a write behind it
abbrev pub write_over : ℕ → List ℕ → List ℕ → List ℕ
write_over at piece old = take at old ++ replicate (at - length old) 0 ++ piece ++ drop (at + length piece) old

-- after a write of n bytes at `at` that a crash or a failure may have torn: any bytes in the range and past the
-- old end, up to where the write reaches, and the same elsewhere
pub record Torn (at n : ℕ) (old new : List ℕ) : Type 0 where
  pub before : take at old ≡ take (length (take at old)) new
  pub after : drop (at + n) new ≡ drop (at + n) old
  pub no_shorter : length old ≤ length new
  pub no_longer : length new ≤ max (length old) (at + n)

-- after a cut to n bytes that a crash or a failure may have kept from happening
abbrev pub CutOrNot : ℕ → List ℕ → List ℕ → Type 0
CutOrNot n old new = (new ≡ old) ⊎ (new ≡ take n old)

-- what a crash may leave now it might have left before, but for this step
abbrev pub Follows : (Sides → Sides → Type 0) → (Sides → Type 0) → (Sides → Type 0) → Type 0
Follows step old new = (c : Sides) → new c → (d : Sides) × old d × step d c

-- Time goes on: what a crash since an earlier moment may have left by now, it might have left before, or it may
-- leave it now; and what might have been left before is not forgotten. Whether crashes are told stays.
pub record Elapses {D : Type 0} (crashes : D → Bool) (images : D → Sides → Type 0) (moment : D → ℕ) (left_since : D → ℕ → Sides
    → Type 0) (old new : D) : Type 0 where
  pub told : crashes new ≡ crashes old
  pub later : moment old ≤ moment new
  pub nothing_else : (t : ℕ) (c : Sides) → t ≤ moment old → left_since new t c → left_since old t c ⊎ images new c
  pub keeps : (t : ℕ) (c : Sides) → t ≤ moment old → left_since old t c → left_since new t c

-- the longest that each side read as goes on with what it reads as now
abbrev pub GoesOn : (Side → ℕ) → (Side → ℕ) → Sides → Type 0
GoesOn old new s = (side : Side) → new side ≡ max (old side) (length (side_of s side))

-- and begins anew at a side that was synced
pub record BeginsAnew (side : Side) (old new : Side → ℕ) (s : Sides) : Type 0 where
  pub here : new side ≡ length (side_of s side)
  pub there : new (other_side side) ≡ max (old (other_side side)) (length (side_of s (other_side side)))
