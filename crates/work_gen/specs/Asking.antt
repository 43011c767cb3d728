-- The takes of a round, one by one, and what their frames come to.
use Rattle.std.specs.Prelude.{◌≡◌, ℕ, true, List, Option, Some, None}
use Rattle.byte_text.specs.Names.{Bytes}
use Rattle.world_data.specs.Frames.{frame_bytes}
use Rattle.world_model.specs.Halls.{Hall, session_of}
use Rattle.world_model.specs.Histories.{frames_of}
use Rattle.world_model.specs.declared.events.Event.TheVariants.{Take}
use Rattle.world_model.specs.declared.events.Outcome.{Outcome}
use Rattle.world_model.specs.declared.events.Outcome.TheVariants.{Given}
use Rattle.work_gen.specs.Frames.{all_of, messages_in, capped}
use Rattle.work_gen.specs.Steps.{Makes}
use Rattle.work_gen.specs.Rounds.{Drains, is_last}
use Rattle.work_gen.specs.declared.tallies.Tally.{Tally}

-- the frames that wait for a session
abbrev pub waiting : ℕ → Hall → List Bytes
waiting n h = frames_of (session_of h n)

-- a take gave frames, which come to this, or it found none
abbrev pub TakesOn : Option Tally → ℕ → Hall → Hall → Type 0
TakesOn (Some t) n old new = (frames : List Bytes)
    × Makes (Take n) (Given frames) old new
    × (t.messages ≡ capped (messages_in frames))
    × (t.bytes ≡ capped (frame_bytes frames))
TakesOn None n old new = (o : Outcome) × (is_last o ≡ true) × Makes (Take n) o old new

-- takes up to the first that found no frame, and what the frames of those before it come to
pub record Drained (n : ℕ) (old new : Hall) (t : Tally) : Type 0 where
  pub takes : List (List Bytes)
  pub drains : Drains n takes old new
  pub heard : t.messages ≡ capped (messages_in (all_of takes))
  pub given : t.bytes ≡ capped (frame_bytes (all_of takes))
