-- What a journal keeps of its disk between two calls.
use Rattle.std.specs.Prelude.{◌≡◌, ◌+◌, ℕ, Bool, List, Option, None, Some}
use Rattle.byte_text.specs.Names.{Bytes}
use Rattle.outside.specs.declared.sides.Side.{Side}
use Rattle.outside.specs.Sides.{Sides, other_side}
use Rattle.log_sides.specs.States.{SideIsSafe, IsLog}
use Rattle.log_rewrite.specs.NewSides.{IsNewSide}
use Rattle.log_rewrite.specs.declared.rewriters.Rewriter.{Rewriter}
use Rattle.journal.specs.Logs.{IsBehind}

-- where the closed gate of a new side stands
abbrev pub new_gate : Option Rewriter → ℕ
new_gate None = 0
new_gate (Some r) = r.gate

-- and its generation, or the one that it would have
abbrev pub next_generation : Option Rewriter → ℕ → ℕ
next_generation None generation = generation + 1
next_generation (Some r) generation = r.generation

-- a new side is written beside the one in use, of the next generation; it holds these batches, and is not open whatever a crash leaves
pub record IsCopied (crashes : Bool) (seen : Option Sides) (images : Sides
    → Type 0) (side : Side) (generation : ℕ) (r : Rewriter) (copied : List Bytes) : Type 0 where
  pub beside : r.side ≡ other_side side
  pub next : r.generation ≡ generation + 1
  pub new : IsNewSide crashes seen images r.side r.generation r.gate copied

-- beside the side in use stands one that leaves it in use, or a new side is written there
abbrev pub IsBeside : Bool → Option Sides → (Sides → Type 0) → Side → ℕ → Option Rewriter → List Bytes → Type 0
IsBeside crashes seen images side generation None copied = SideIsSafe crashes seen images (other_side side) (IsBehind generation)
IsBeside crashes seen images side generation (Some r) copied = IsCopied crashes seen images side generation r copied

-- a side in use of this version stands for these batches, safely; the new side, where one is written, holds the copied ones
pub record IsKept (crashes : Bool) (seen : Option Sides) (images : Sides
    → Type 0) (side : Side) (version generation gate : ℕ) (rewriter : Option Rewriter) (batches copied : List Bytes) : Type 0 where
  pub log : IsLog crashes seen images side version generation gate batches
  pub beside : IsBeside crashes seen images side generation rewriter copied

-- The same of this disk, for clauses.
module _ {D : Type 0} (crashes : D → Bool) (seen : D → Option Sides) (images : D → Sides → Type 0) (disk : D) where
  abbrev pub KeptOn : Side → ℕ → ℕ → ℕ → Option Rewriter → List Bytes → List Bytes → Type 0
  KeptOn side version generation gate rewriter batches copied =
      IsKept (crashes disk) (seen disk) (images disk) side version generation gate rewriter batches copied
