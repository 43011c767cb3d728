-- The rounds of the workload: each is a call of one session, and takes of both until there is no frame.
use Rattle.std.specs.Prelude.{◌≡◌, ℕ, ◌+◌, Bool, true, false, List, [], ◌∷◌, map}
use Rattle.std.specs.List.{sum_by}
use Rattle.byte_text.specs.Names.{Bytes}
use Rattle.world_data.specs.Frames.{frame_bytes}
use Rattle.world_model.specs.Halls.{Hall}
use Rattle.world_model.specs.declared.events.Asked.TheVariants.{Words}
use Rattle.world_model.specs.declared.events.CallOutcome.{CallOutcome}
use Rattle.world_model.specs.declared.events.Event.TheVariants.{Call, Take}
use Rattle.world_model.specs.declared.events.Outcome.{Outcome}
use Rattle.world_model.specs.declared.events.Outcome.TheVariants.{Answered, Given, Empty, Ended}
use Rattle.work_gen.specs.Frames.{all_of, messages_in, capped}
use Rattle.work_gen.specs.Steps.{Makes}
use Rattle.work_gen.specs.declared.lines.Line.{Line}
use Rattle.work_gen.specs.declared.lines.Role.{Role}
use Rattle.work_gen.specs.declared.lines.Role.TheVariants.{Listener, Sender}
use Rattle.work_gen.specs.declared.pairs.Pair.{Pair}
use Rattle.work_gen.specs.declared.tallies.Tally.{Tally}

-- what is asked, and the frames of each take of the listener and of the sender that gave some
pub record Round : Type 0 where
  pub line : Line
  pub heard : List (List Bytes)
  pub told : List (List Bytes)

-- who asks
abbrev pub asker : Pair → Role → ℕ
asker p Listener = p.listener
asker p Sender = p.sender

-- a call at moment 0, however it is answered
abbrev pub CallsBy : ℕ → List Bytes → Hall → Hall → Type 0
CallsBy n words old new = (answer : CallOutcome) × Makes (Call n 0 (Words words)) (Answered answer) old new

-- a take found no frame: there is none now, or no such session any more
abbrev pub is_last : Outcome → Bool
is_last Empty = true
is_last Ended = true
is_last o = false

-- takes of a session up to the first that finds no frame, and the frames of each before it
abbrev pub Drains : ℕ → List (List Bytes) → Hall → Hall → Type 0
Drains n [] old new = (o : Outcome) × (is_last o ≡ true) × Makes (Take n) o old new
Drains n (frames ∷ takes) old new = (next : Hall) × Makes (Take n) (Given frames) old next × Drains n takes next new

pub record RoundLeads (p : Pair) (r : Round) (old new : Hall) : Type 0 where
  pub asked : Hall
  pub drained : Hall
  pub call : CallsBy (asker p r.line.role) r.line.words old asked
  pub listens : Drains p.listener r.heard asked drained
  pub sends : Drains p.sender r.told drained new

-- these rounds lead from a hall to another
abbrev pub RoundsLead : Pair → List Round → Hall → Hall → Type 0
RoundsLead p [] old new = new ≡ old
RoundsLead p (r ∷ rounds) old new = (next : Hall) × RoundLeads p r old next × RoundsLead p rounds next new

-- the lines that rounds were made for
abbrev pub lines_of : List Round → List Line
lines_of rounds = map (λ r. r.line) rounds

-- the messages of the listener's frames, and the bytes of all
abbrev pub round_bytes : Round → ℕ
round_bytes r = frame_bytes (all_of r.heard) + frame_bytes (all_of r.told)

abbrev pub messages : List Round → ℕ
messages rounds = sum_by (λ r. messages_in (all_of r.heard)) rounds

abbrev pub bytes : List Round → ℕ
bytes rounds = sum_by round_bytes rounds

-- a round was made for each of these lines, and its messages and bytes were added to what was counted before
pub record Goes (p : Pair) (lines : List Line) (old new : Hall) (tally tally' : Tally) : Type 0 where
  pub rounds : List Round
  pub asked : lines_of rounds ≡ lines
  pub leads : RoundsLead p rounds old new
  pub heard : (n : ℕ) → tally.messages ≡ capped n → tally'.messages ≡ capped (n + messages rounds)
  pub given : (n : ℕ) → tally.bytes ≡ capped n → tally'.bytes ≡ capped (n + bytes rounds)
