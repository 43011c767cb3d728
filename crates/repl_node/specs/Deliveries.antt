-- The parts that a leader answered, and what a node may be that heard some of them.
use Rattle.std.specs.Prelude.{◌≡◌, ◌⊎◌, ◌≤◌, ◌<◌, ℕ, List, [], ◌∷◌, ◌++◌, take, drop}
use Rattle.std.specs.List.{AllByRecursion, Contains}
use Rattle.byte_text.specs.Names.{Bytes}
use Rattle.world_data.specs.Worlds.{empty_world}
use Rattle.log_sides.specs.Texts.{front_text, gate_place, max_side, newest}
use Rattle.journal.specs.Openings.{AreWhole}
use Rattle.repl_stream.specs.Texts.{max_part}
use Rattle.repl_stream.specs.declared.parts.Part.{Part}
use Rattle.world_recovery.specs.Recorded.{record_fault, world_in}
use Rattle.repl_node.specs.Following.{Followed, IsHeard, IsRefused, first_node}
use Rattle.repl_node.specs.declared.nodes.Heard.{Heard}
use Rattle.repl_node.specs.declared.nodes.LogPlace.{LogPlace}

-- a part with its bytes
pub record Delivery : Type 0 where
  pub part : Part
  pub bytes : Bytes

-- A leader's logs are told by the batches that the log of each generation has at last; before, it had a beginning of them. A leader answered
-- this part when the log of the part's generation had these batches: the part's end is the place of the gate behind them, and its bytes are
-- those of the log from some place on, or the first of them.
pub record IsAnswered (logs : ℕ → List Bytes) (d : Delivery) : Type 0 where
  pub batches : List Bytes
  pub later : List Bytes
  pub begun : logs d.part.generation ≡ batches ++ later
  pub numbered : 1 ≤ d.part.generation
  pub short : gate_place newest d.part.generation batches ≤ max_side
  pub end : d.part.end ≡ gate_place newest d.part.generation batches
  pub behind : 16 ≤ d.part.from
  pub within : d.part.from ≤ d.part.end
  pub bytes_are : d.bytes ≡ take max_part (drop d.part.from (front_text newest d.part.generation batches))

abbrev pub AreAnswered : (ℕ → List Bytes) → List Delivery → Type 0
AreAnswered logs parts = AllByRecursion (IsAnswered logs) parts

-- a node hears a part: it answers something, or has a fault and is as before
abbrev pub Hears : Followed → Delivery → Followed → Type 0
Hears old d new = ((heard : Heard) × IsHeard old d.part d.bytes new heard) ⊎ (new ≡ old)

-- and one part after another
abbrev pub HearsAll : Followed → List Delivery → Followed → Type 0
HearsAll old [] new = new ≡ old
HearsAll old (d ∷ later) new = (next : Followed) × Hears old d next × HearsAll next later new

-- nothing was published, and the world is empty
pub record ShowsNothing (node : Followed) : Type 0 where
  pub published : node.published ≡ first_node.published
  pub world : node.world ≡ empty_world

-- the world is that of these batches, with which the log began when the leader answered one of these parts
pub record Shows (logs : ℕ → List Bytes) (parts : List Delivery) (node : Followed) (batches : List Bytes) : Type 0 where
  pub delivery : Delivery
  pub heard : Contains parts delivery
  pub later : List Bytes
  pub begun : logs delivery.part.generation ≡ batches ++ later
  pub end : delivery.part.end ≡ gate_place newest delivery.part.generation batches
  pub published : node.published ≡ record { generation = delivery.part.generation; place = delivery.part.end }
  pub world : node.world ≡ world_in newest batches

-- a place of a log is not in front of another one, nor in an earlier log
abbrev pub IsBehind : LogPlace → LogPlace → Type 0
IsBehind first next = (first.generation < next.generation) ⊎ ((first.generation ≡ next.generation) × (first.place ≤ next.place))

-- From a node that has heard nothing on, whatever parts of a leader's logs are heard, in any order and how often they may be: the published
-- world is that of the batches that the log had when one of these parts was answered.
abbrev pub PublishesBeginnings : Type 0
PublishesBeginnings = (logs : ℕ → List Bytes) (parts : List Delivery) (node : Followed) → AreAnswered logs parts → HearsAll first_node parts node
    → ShowsNothing node ⊎ ((batches : List Bytes) × Shows logs parts node batches)

-- whatever is heard further, never a shorter beginning of the same log is published, nor one of an earlier log
abbrev pub NeverGoesBack : Type 0
NeverGoesBack = (parts later : List Delivery) (old new : Followed) → HearsAll first_node parts old → HearsAll old later new
    → IsBehind old.published new.published

-- of one log the batches whose world is published later begin with those whose world was published before
abbrev pub NeverShortens : Type 0
NeverShortens = (logs : ℕ → List Bytes) (parts later heard : List Delivery) (old new : Followed) (batches others : List Bytes)
    → HearsAll first_node parts old → HearsAll old later new → Shows logs parts old batches → Shows logs heard new others
    → new.published.generation ≡ old.published.generation → (more : List Bytes) × (others ≡ batches ++ more)

-- where the log has whole records alone, no part of it is refused for other reasons than memory
abbrev pub TakesRecords : Type 0
TakesRecords = (logs : ℕ → List Bytes) (parts : List Delivery) (node : Followed) (next : Delivery) → AreAnswered logs parts
    → HearsAll first_node parts node → IsAnswered logs next → AreWhole (record_fault newest) (logs next.part.generation)
    → IsRefused node next.part next.bytes → ⊥
