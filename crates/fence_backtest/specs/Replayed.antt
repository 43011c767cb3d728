-- What a replay of changes stands for.
use Rattle.std.specs.Prelude.{◌≡◌, ℕ, List, ◌++◌, flat_map, Option, None, Result, Ok, Err}
use Rattle.byte_text.specs.Names.{Bytes}
use Rattle.world_data.specs.declared.worlds.Change.{Change}
use Rattle.log_record.specs.Batches.{records_in}
use Rattle.world_recovery.specs.Recorded.{changes_in}

-- what is read behind some changes
abbrev pub with_all : List Change → Result (List Change) ℕ → Result (List Change) ℕ
with_all read (Ok changes) = Ok (read ++ changes)
with_all read (Err at) = Err at

-- What contracts see of a replay: the version that it reads, the changes of the batches that it took whole, and what it took of the next one.
pub record Replayed : Type 0 where
  pub version : ℕ
  pub changes : List Change
  pub part : Bytes

-- it reads this version, and stands for these batches and for this part of the next one
pub record Holds (r : Replayed) (version : ℕ) (batches : List Bytes) (part : Bytes) : Type 0 where
  pub version_is : r.version ≡ version
  pub changes_are : r.changes ≡ flat_map (changes_in version) batches
  pub part_is : r.part ≡ part

-- The same of batches that are taken as they are: none is refused for what stands in it.
pub record Taken : Type 0 where
  pub version : ℕ
  pub batches : List Bytes
  pub part : Bytes

pub record TookAs (r : Taken) (version : ℕ) (batches : List Bytes) (part : Bytes) : Type 0 where
  pub version_is : r.version ≡ version
  pub batches_are : r.batches ≡ batches
  pub part_is : r.part ≡ part

abbrev pub no_fault : ℕ → Bytes → Option ℕ
no_fault version batch = None

-- these are the changes of the records of a batch of this version, which has nothing else
abbrev pub IsPartOf : ℕ → Bytes → List Change → Type 0
IsPartOf version batch changes = records_in version 0 batch ≡ Ok changes
