-- What the reading of a log answers for, where nothing is made.
use Rattle.std.specs.Prelude.{◌≡◌, ℕ, Bool, List, [], Option, Some}
use Rattle.byte_text.specs.Names.{Bytes}
use Rattle.outside.specs.declared.sides.Side.{Side}
use Rattle.outside.specs.Sides.{Sides}
use Rattle.journal.specs.Logs.{HoldsLog}
use Rattle.journal.specs.Openings.{AreWhole, IsAllSafe, IsUsed}

-- These batches of some version were taken, and each has whole records alone. A disk that tells its contents holds these batches.
pub record IsRead {R : Type 0} (took : R → ℕ → List Bytes → Bytes → Type 0) (fault : ℕ → Bytes → Option ℕ) (seen : Option
    Sides) (replay : R) : Type 0 where
  pub version : ℕ
  pub batches : List Bytes
  pub taken : took replay version batches []
  pub whole : AreWhole (fault version) batches
  pub holds : (s : Sides) → seen ≡ Some s → HoldsLog version batches s

-- the same of a side in use of a disk whose sides are safe
pub record SideRead {R D : Type 0} (took : R → ℕ → List Bytes → Bytes → Type 0) (fault : ℕ → Bytes → Option ℕ) (crashes : D → Bool) (seen : D
    → Option Sides) (images : D → Sides → Type 0) (disk : D) (side : Side) (version generation len : ℕ) (replay : R) : Type 0 where
  pub batches : List Bytes
  pub taken : took replay version batches []
  pub whole : AreWhole (fault version) batches
  pub holds : (s : Sides) → IsAllSafe (crashes disk) (seen disk) (images disk) s → IsUsed s side version generation len
      → HoldsLog version batches s
