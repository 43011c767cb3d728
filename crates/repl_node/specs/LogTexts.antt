-- What the bytes behind the header of a log stand for: batches behind one another, and the world of their records.
use Rattle.std.specs.Prelude.{◌≡◌, ◌+◌, ◌≤◌, ◌<◌, ℕ, List, [], ◌∷◌, ◌++◌, length, take, drop, None}
use Rattle.byte_text.specs.Names.{Bytes}
use Rattle.world_data.specs.declared.worlds.World.{World}
use Rattle.log_sides.specs.Texts.{batches_text, framed, newest, open_gate, with_batch}
use Rattle.journal.specs.Openings.{AreWhole}
use Rattle.world_recovery.specs.Recorded.{record_fault, world_in}
use Rattle.world_recovery.specs.Replayed.{Replayed, StandsFor}

-- bytes are these batches, each of whole records of the newest version
pub record AreLog (text : Bytes) (batches : List Bytes) : Type 0 where
  pub text_is : text ≡ batches_text batches
  pub whole : AreWhole (record_fault newest) batches

-- the world of the batches that bytes are
pub record IsWorldOf (text : Bytes) (world : World) : Type 0 where
  pub batches : List Bytes
  pub log : AreLog text batches
  pub world_is : world ≡ world_in newest batches

-- bytes are no batches of whole records
abbrev pub IsNoLog : Bytes → Type 0
IsNoLog text = (batches : List Bytes) → AreLog text batches → ⊥

-- at the front of bytes stand an open gate, this batch behind its length, and these bytes
abbrev pub BeginsWith : Bytes → Bytes → Bytes → Type 0
BeginsWith text batch rest = text ≡ open_gate ∷ (framed batch ++ rest)

-- there stands a batch of so many bytes
pub record IsFirstLen (text : Bytes) (len : ℕ) : Type 0 where
  pub within : 9 + len ≤ length text
  pub first : BeginsWith text (take len (drop 9 text)) (drop (9 + len) text)

-- there stands none
abbrev pub IsNoFrame : Bytes → Type 0
IsNoFrame text = (batch rest : Bytes) → BeginsWith text batch rest → ⊥

-- there stands none of whole records
abbrev pub IsNoBatch : Bytes → Type 0
IsNoBatch text = (batch rest : Bytes) → record_fault newest batch ≡ None → BeginsWith text batch rest → ⊥

-- a replay took the batch at the front of bytes behind these batches, and this is the place of what stands behind it
pub record IsTaken (replay : Replayed) (batches : List Bytes) (text : Bytes) (behind : ℕ) : Type 0 where
  pub some : 0 < behind
  pub within : behind ≤ length text
  pub batch : Bytes
  pub first : BeginsWith text batch (drop behind text)
  pub whole : record_fault newest batch ≡ None
  pub taken : StandsFor replay newest (with_batch batches batch) []
