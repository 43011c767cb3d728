-- What is answered of a change, by the version of the side that it was read in.
use Rattle.std.specs.Prelude.{◌≡◌, ◌<◌, ◌≤◌, ℕ, List, Some, None, Result, Ok, Err}
use Rattle.byte_text.specs.Names.{Bytes}
use Rattle.world_data.specs.declared.worlds.Change.{Change}
use Rattle.log_record.specs.Versions.{least_version, change_of_version, newest}
use Rattle.record_reader.specs.declared.faults.RecordFault.{RecordFault}
use Rattle.record_reader.specs.declared.faults.RecordFault.TheVariants.{NotRecord, Version, Memory}

-- the version can say this change, or a later one has to
abbrev pub IsSaid : ℕ → Change → Result Change RecordFault → Type 0
IsSaid version change (Ok c) = (c ≡ change) × (least_version change ≤ version)
IsSaid version change (Err Version) = version < least_version change
IsSaid version change (Err NotRecord) = ⊥
IsSaid version change (Err Memory) = ⊥

-- the words are a record of a later version, and of this one they are none
pub record IsOfLater (version : ℕ) (words : List Bytes) : Type 0 where
  pub none : change_of_version version words ≡ None
  pub later : ℕ
  pub behind : version < later
  pub known : later ≤ newest
  pub change : Change
  pub is : change_of_version later words ≡ Some change
