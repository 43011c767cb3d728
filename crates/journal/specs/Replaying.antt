-- What was read of a side, and taken.
use Rattle.std.specs.Prelude.{◌≡◌, ℕ, Bool, List, [], ◌++◌, Option, None}
use Rattle.byte_text.specs.Names.{Bytes}
use Rattle.outside.specs.declared.sides.Side.{Side}
use Rattle.outside.specs.Sides.{Sides}
use Rattle.log_sides.specs.Texts.{with_batch}
use Rattle.log_sides.specs.States.{SideIsSafe}
use Rattle.append_log.specs.Reading.{IsAtGate, IsInBatch, IsEnd}
use Rattle.journal.specs.Openings.{AreWhole}

-- A side of a disk, and who takes what is read of it. The places are those at which reading began and goes on.
module _ {R D : Type 0} (took : R → ℕ → List Bytes → Bytes → Type 0) (fault : ℕ → Bytes → Option ℕ) (crashes : D → Bool) (seen : D
    → Option Sides) (images : D → Sides → Type 0) (disk : D) (side : Side) where
  -- one more piece of a batch was taken
  pub record TookPiece (version : ℕ) (batches : List Bytes) (part : Bytes) (len left at left' at' : ℕ) (replay : R) : Type 0 where
    pub more : Bytes
    pub taken : took replay version batches (part ++ more)
    pub read : (g : ℕ) (bytes : Bytes) → SideIsSafe (crashes disk) (seen disk) (images disk) side (λ x. x ≡ bytes)
        → IsInBatch version g batches part len left at bytes → IsInBatch version g batches (part ++ more) len left' at' bytes

  -- one more batch was
  pub record TookBatch (version : ℕ) (batches : List Bytes) (len left at at' : ℕ) (replay : R) : Type 0 where
    pub batch : Bytes
    pub taken : took replay version (with_batch batches batch) []
    pub whole : fault version batch ≡ None
    pub read : (g : ℕ) (bytes : Bytes) → SideIsSafe (crashes disk) (seen disk) (images disk) side (λ x. x ≡ bytes)
        → IsInBatch version g batches [] len left at bytes → IsAtGate version g (with_batch batches batch) len at' bytes

  -- all batches of the side were, up to its closed gate
  pub record TookAll (version len at gate : ℕ) (replay : R) : Type 0 where
    pub batches : List Bytes
    pub taken : took replay version batches []
    pub whole : AreWhole (fault version) batches
    pub read : (g : ℕ) (bytes : Bytes) → SideIsSafe (crashes disk) (seen disk) (images disk) side (λ x. x ≡ bytes)
        → IsAtGate version g [] len at bytes → IsAtGate version g batches len gate bytes × IsEnd version g batches bytes
