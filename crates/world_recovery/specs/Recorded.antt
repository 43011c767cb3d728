-- The batches of a journal as changes of a world: a batch is the records of its changes, one behind another.
use Rattle.std.specs.Prelude.{ℕ, List, [], flat_map, Option, Some, None, Result, Ok, Err}
use Rattle.byte_text.specs.Names.{Bytes}
use Rattle.world_data.specs.Worlds.{empty_world}
use Rattle.world_data.specs.declared.worlds.World.{World}
use Rattle.world_data.specs.declared.worlds.Change.{Change}
use Rattle.log_record.specs.Folding.{folded}
use Rattle.log_record.specs.Batches.{records_in}

abbrev pub fault_of : Result (List Change) ℕ → Option ℕ
fault_of (Ok changes) = None
fault_of (Err at) = Some at

abbrev pub changes_of : Result (List Change) ℕ → List Change
changes_of (Ok changes) = changes
changes_of (Err at) = []

-- the place of the first bytes of a batch that are no record of a version, unless all are
abbrev pub record_fault : ℕ → Bytes → Option ℕ
record_fault version batch = fault_of (records_in version 0 batch)

-- the changes whose records in it a batch has
abbrev pub changes_in : ℕ → Bytes → List Change
changes_in version batch = changes_of (records_in version 0 batch)

-- the world that batches of a version make of the empty one
abbrev pub world_in : ℕ → List Bytes → World
world_in version batches = folded empty_world (flat_map (changes_in version) batches)
