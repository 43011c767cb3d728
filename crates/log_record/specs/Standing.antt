-- Both sides of a log that stands, as a crash may leave them.
use Rattle.std.specs.Prelude.{◌≡◌, ◌≢◌, ◌≤◌, ℕ, List, length}
use Rattle.byte_text.specs.Names.{Bytes}
use Rattle.world_data.specs.Worlds.{empty_world}
use Rattle.world_data.specs.declared.worlds.World.{World}
use Rattle.world_data.specs.declared.worlds.Change.{Change}
use Rattle.outside.specs.declared.sides.Side.{Side}
use Rattle.outside.specs.Sides.{Sides, side_of, other_side}
use Rattle.log_sides.specs.Texts.{IsHeading}
use Rattle.log_record.specs.Folding.{folded}
use Rattle.log_record.specs.Batches.{open_gate, all_changes, AreRecorded}
use Rattle.log_record.specs.Readings.{side_over, gate_place, max_side, IsOlder, Standing}

-- a side in use, its version, its generation and its batches
pub record InUse : Type 0 where
  pub side : Side
  pub version : ℕ
  pub generation : ℕ
  pub batches : List (List Change)

-- a side may have this version and this generation, and each batch has records of the version
pub record IsInUse (u : InUse) : Type 0 where
  pub headed : IsHeading u.version u.generation
  pub recorded : AreRecorded u.version u.batches

-- the world that it stands for
abbrev pub world_of : InUse → World
world_of u = folded empty_world (all_changes u.batches)

-- these sides are such a log: the batches, a gate that is not open, and anything behind it, beside a side that is not open or older
pub record StandsBy (u : InUse) (s : Sides) : Type 0 where
  pub gate : ℕ
  pub stale : Bytes
  pub text : side_of s u.side ≡ side_over u.version u.generation u.batches gate stale
  pub closed : gate ≢ open_gate
  pub older : IsOlder u.generation (side_of s (other_side u.side))
  pub here : length (side_of s u.side) ≤ max_side
  pub there : length (side_of s (other_side u.side)) ≤ max_side

-- the log that a reading found, with all that it told of it
pub record IsFound (s : Sides) (standing : Standing) : Type 0 where
  pub log : InUse
  pub is : IsInUse log
  pub by : StandsBy log s
  pub side : log.side ≡ standing.side
  pub version : log.version ≡ standing.version
  pub generation : log.generation ≡ standing.generation
  pub gate : gate_place log.batches ≡ standing.gate
  pub world : world_of log ≡ standing.world
