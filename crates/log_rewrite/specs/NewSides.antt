-- A side of the newest version that is written beside the one in use, before it is opened.
use Rattle.std.specs.Prelude.{◌≡◌, ◌≢◌, ◌⊎◌, ℕ, Bool, List, [], ◌∷◌, ◌++◌, Option}
use Rattle.byte_text.specs.Names.{Bytes}
use Rattle.outside.specs.declared.sides.Side.{Side}
use Rattle.outside.specs.Sides.{Sides}
use Rattle.log_sides.specs.Texts.{StandsFor, IsHeading, open_gate, newest, header, batches_text, gate_place}
use Rattle.log_sides.specs.States.{HasNow, IsHeld}
use Rattle.log_sides.specs.Making.{IsShut}

-- what stands behind the gate of a side: its header and its batches
abbrev pub rear_text : ℕ → List Bytes → Bytes
rear_text generation batches = header newest generation ++ batches_text batches

-- all of a side with these batches but its open gate
pub record IsPart (generation : ℕ) (batches : List Bytes) (side : Bytes) : Type 0 where
  pub gate : ℕ
  pub closed : gate ≢ open_gate
  pub is : side ≡ gate ∷ (rear_text generation batches ++ 0 ∷ [])

-- the disk reads so, and whatever a crash leaves of the side has a closed gate; where the last gate of the side stands
pub record IsNewSide (crashes : Bool) (seen : Option Sides) (images : Sides
    → Type 0) (side : Side) (generation gate : ℕ) (batches : List Bytes) : Type 0 where
  pub numbered : IsHeading newest generation
  pub place : gate ≡ gate_place newest generation batches
  pub now : HasNow seen side (IsPart generation batches)
  pub shut : IsHeld crashes seen images side IsShut

-- the same of a side of this disk, for clauses
abbrev pub NewSideOn : {D : Type 0} → (D → Bool) → (D → Option Sides) → (D → Sides → Type 0) → D → Side → ℕ → ℕ → List Bytes → Type 0
NewSideOn crashes seen images disk side generation gate batches = IsNewSide (crashes disk) (seen disk) (images disk) side generation gate batches

-- the side is not open, or stands for these batches
abbrev pub ShutOrStands : ℕ → List Bytes → Bytes → Type 0
ShutOrStands generation batches side = IsShut side ⊎ StandsFor newest generation batches side
