-- What an ask is answered out of a log.
use Rattle.std.specs.Prelude.{◌≡◌, ℕ, Bool, ◌==◌, ◌&&◌, not, nat_lt, if◌then◌else◌, List, take, drop, Result, Ok, Err}
use Rattle.byte_text.specs.Names.{Bytes}
use Rattle.world_data.specs.declared.worlds.World.{World}
use Rattle.log_sides.specs.Texts.{front_text, gate_place, newest}
use Rattle.journal.specs.Openings.{AreWhole}
use Rattle.repl_stream.specs.Texts.{max_part}
use Rattle.repl_stream.specs.declared.asks.Ask.{Ask}
use Rattle.repl_stream.specs.declared.parts.Part.{Part}
use Rattle.world_recovery.specs.Recorded.{record_fault, world_in}

-- an ask is of this generation, from a place on that is behind the header and not behind the end
abbrev pub is_within : Ask → ℕ → ℕ → Bool
is_within ask generation end = (ask.generation == generation) && (not (nat_lt ask.from 16) && not (nat_lt end ask.from))

-- a part begins there, and else behind the header
abbrev pub part_from : Ask → ℕ → ℕ → ℕ
part_from ask generation end = if is_within ask generation end then ask.from else 16

-- out of a log of this generation with these batches an ask is answered the bytes from there on up to the closed gate, or the first of them
pub record IsPartOfLog (ask : Ask) (generation : ℕ) (batches : List Bytes) (part : Part) (bytes : Bytes) : Type 0 where
  pub generation_is : part.generation ≡ generation
  pub end : part.end ≡ gate_place newest generation batches
  pub from : part.from ≡ part_from ask generation (gate_place newest generation batches)
  pub bytes_are : bytes ≡ take max_part (drop part.from (front_text newest generation batches))

-- these batches are whole, and make this world
pub record MakeWorld (batches : List Bytes) (world : World) : Type 0 where
  pub whole : AreWhole (record_fault newest) batches
  pub world_is : world ≡ world_in newest batches

-- the same of a log whose batches are whole and make this world
pub record IsPartOfWorld (ask : Ask) (generation : ℕ) (world : World) (part : Part) (bytes : Bytes) : Type 0 where
  pub batches : List Bytes
  pub whole : AreWhole (record_fault newest) batches
  pub world_is : world ≡ world_in newest batches
  pub is : IsPartOfLog ask generation batches part bytes

-- how an answer ended, whatever it is
abbrev pub end_of : {T E : Type 0} → Result T E → Result Unit E
end_of (Ok x) = Ok tt
end_of (Err e) = Err e
