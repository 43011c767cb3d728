-- What driving a machine with the workload does.
use Rattle.std.specs.Prelude.{◌≡◌, ℕ, List, length}
use Rattle.world_model.specs.Halls.{Hall}
use Rattle.world_model.specs.declared.events.Event.TheVariants.{Enter}
use Rattle.world_model.specs.declared.events.Outcome.TheVariants.{Entered}
use Rattle.work_gen.specs.Frames.{capped}
use Rattle.work_gen.specs.Workload.{lines}
use Rattle.work_gen.specs.Steps.{Makes}
use Rattle.work_gen.specs.Rounds.{Round, RoundsLead, lines_of, messages, bytes}
use Rattle.work_gen.specs.declared.pairs.Pair.{Pair}
use Rattle.work_gen.specs.declared.summaries.Summary.{Summary}

-- the listener is entered, and then the sender
abbrev pub Enters : Pair → Hall → Hall → Type 0
Enters p old new = (one : Hall) × Makes Enter (Entered p.listener) old one × Makes Enter (Entered p.sender) one new

-- two sessions are entered, and a round is made for each line of the workload; the summary is what the frames of the rounds come to, and
-- the number of objects in the end
pub record Drives (n seed : ℕ) (old new : Hall) (s : Summary) : Type 0 where
  pub pair : Pair
  pub rounds : List Round
  pub start : Hall
  pub enters : Enters pair old start
  pub asked : lines_of rounds ≡ lines n seed
  pub leads : RoundsLead pair rounds start new
  pub commands : s.commands ≡ n
  pub objects : s.objects ≡ length new.world.objects
  pub messages : s.messages ≡ capped (messages rounds)
  pub bytes : s.bytes ≡ capped (bytes rounds)
