-- What an opening answers for.
use Rattle.std.specs.Prelude.{◌≡◌, ℕ, Bool, true, List, [], Option, Some}
use Rattle.byte_text.specs.Names.{Bytes}
use Rattle.outside.specs.declared.sides.Side.{Side}
use Rattle.outside.specs.Sides.{Sides}
use Rattle.journal.specs.Logs.{HoldsLog}
use Rattle.journal.specs.Openings.{AreWhole, IsAllSafe, IsUsed, HoldsSince}

-- From a disk to a new one: these batches of this version were taken, and each has whole records alone. Where the disk tells its contents
-- they hold these batches, and what is to be kept is; where it tells crashes, whatever one leaves holds them from some moment on.
pub record IsReplayed {R D : Type 0} (took : R → ℕ → List Bytes → Bytes → Type 0) (fault : ℕ → Bytes → Option ℕ) (crashes : D → Bool) (seen : D
    → Option Sides) (moment : D → ℕ) (left_since : D → ℕ → Sides → Type 0) (old new : D) (replay : R) (version : ℕ) (kept : List Bytes
    → Type 0) : Type 0 where
  pub batches : List Bytes
  pub taken : took replay version batches []
  pub whole : AreWhole (fault version) batches
  pub holds : (s : Sides) → seen old ≡ Some s → HoldsLog version batches s
  pub keeps : (s : Sides) → seen old ≡ Some s → kept batches
  pub since : (s : Sides) → seen old ≡ Some s → crashes old ≡ true → HoldsSince moment left_since old new version batches

-- the same of a side in use of a disk whose sides are safe
pub record LogRead {R D : Type 0} (took : R → ℕ → List Bytes → Bytes → Type 0) (fault : ℕ → Bytes → Option ℕ) (crashes : D → Bool) (seen : D
    → Option Sides) (images : D → Sides → Type 0) (disk : D) (side : Side) (version generation len : ℕ) (replay : R) (kept : List Bytes
    → Type 0) : Type 0 where
  pub batches : List Bytes
  pub taken : took replay version batches []
  pub whole : AreWhole (fault version) batches
  pub holds : (s : Sides) → IsAllSafe (crashes disk) (seen disk) (images disk) s → IsUsed s side version generation len → HoldsLog version batches s
  pub keeps : (s : Sides) → IsAllSafe (crashes disk) (seen disk) (images disk) s → IsUsed s side version generation len → kept batches
