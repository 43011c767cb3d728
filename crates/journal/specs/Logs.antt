-- What both sides of a disk hold, as an opening reads it: batches of records.
use Rattle.std.specs.Prelude.{◌≡◌, ◌⊎◌, ◌+◌, ◌<◌, ℕ, Bool, true, false, List, [], ◌++◌, nat_lt}
use Rattle.byte_text.specs.Names.{Bytes}
use Rattle.outside.specs.declared.sides.Side.{Side}
use Rattle.outside.specs.Sides.{Sides}
use Rattle.log_sides.specs.Texts.{newest}
use Rattle.append_log.specs.Heads.{head_of}
use Rattle.append_log.specs.Logs.{StandsIn, IsFresh}
use Rattle.append_log.specs.declared.side_heads.Head.{Head}
use Rattle.append_log.specs.declared.side_heads.Head.TheVariants.{TooLong, Shut, Wrong, Open}

-- the sides hold these batches of records of this version: a side in use stands for them, or no log was begun and there are none
abbrev pub HoldsLog : ℕ → List Bytes → Sides → Type 0
HoldsLog version batches s =
    ((side : Side) × (generation : ℕ) × StandsIn s side version generation batches) ⊎ (IsFresh s × (version ≡ newest) × (batches ≡ []))

-- the sides hold the ones or the others
abbrev pub HoldsEither : ℕ → List Bytes → ℕ → List Bytes → Sides → Type 0
HoldsEither version batches other others s = HoldsLog version batches s ⊎ HoldsLog other others s

-- a side in use of this version and this generation stands for these batches
abbrev pub HoldsOf : ℕ → ℕ → List Bytes → Sides → Type 0
HoldsOf version generation batches s = (side : Side) × StandsIn s side version generation batches

-- or for the others
abbrev pub HoldsRound : ℕ → ℕ → List Bytes → List Bytes → Sides → Type 0
HoldsRound version generation batches others s = HoldsOf version generation batches s ⊎ HoldsOf version generation others s

-- or for the copied ones, in the next generation and the newest version
abbrev pub HoldsOrNew : ℕ → ℕ → List Bytes → List Bytes → Sides → Type 0
HoldsOrNew version generation batches copied s = HoldsOf version generation batches s ⊎ HoldsOf newest (generation + 1) copied s

-- from the batches of a log of one generation to those of another, which is no earlier one: in one generation there are more behind those
abbrev pub Grows : ℕ → ℕ → List Bytes → List Bytes → Type 0
Grows old new before after = ((new ≡ old) × ((more : List Bytes) × (after ≡ before ++ more))) ⊎ (old < new)

-- the sides hold a log that grew from these batches of this generation
pub record HasGrown (generation : ℕ) (batches : List Bytes) (s : Sides) : Type 0 where
  pub version : ℕ
  pub later : ℕ
  pub grown : List Bytes
  pub holds : HoldsOf version later grown s
  pub grows : Grows generation later batches grown

-- what stands beside a side of this generation and leaves it in use: a side that is not open, or an older one
abbrev pub leaves_in_use : ℕ → Head → Bool
leaves_in_use generation TooLong = false
leaves_in_use generation (Shut len) = true
leaves_in_use generation (Wrong place) = false
leaves_in_use generation (Open version other len) = nat_lt other generation

abbrev pub IsBehind : ℕ → Bytes → Type 0
IsBehind generation side = leaves_in_use generation (head_of side) ≡ true
