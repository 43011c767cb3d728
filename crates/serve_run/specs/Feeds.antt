-- What followers were fed: the asks that were answered out of the log, and what the seat had seen right behind each.
use Rattle.std.specs.Prelude.{◌≡◌, ◌<◌, List, [], ◌∷◌, ◌++◌}
use Rattle.byte_text.specs.Names.{Bytes}
use Rattle.world_model.specs.Seats.{Knows}
use Rattle.repl_stream.specs.Feeds.{IfGiven}
use Rattle.repl_stream.specs.declared.asks.Ask.{Ask}
use Rattle.repl_stream.specs.declared.feeds.PartAnswer.{PartAnswer}
use Rattle.repl_stream.specs.declared.parts.Part.{Part}
use Rattle.session_run.specs.Gains.{Gains}
use Rattle.serve_run.specs.Steps.{Step, Fed, step_acts}
use Rattle.serve_run.specs.declared.terms.Terms.{Terms}

-- an ask, how it was answered, the bytes that came with a part, and what the seat had seen right behind the answer's entry
pub record Feed : Type 0 where
  pub knows : Knows
  pub ask : Ask
  pub answer : PartAnswer
  pub bytes : Bytes

-- those of a step behind which the seat has seen this
abbrev pub feeds_at : Knows → Step → List Feed
feeds_at k (Fed n m ask answer bytes) = record { knows = k; ask = ask; answer = answer; bytes = bytes } ∷ []
feeds_at k step = []

-- these are the feeds of steps by which the seat came from what it had seen to what it has
abbrev pub AreFed : List Feed → Knows → Knows → List Step → Type 0
AreFed feeds old new [] = (new ≡ old) × (feeds ≡ [])
AreFed feeds old new (step ∷ steps) = (k : Knows) × Gains old k (step_acts step) × (rest : List Feed) × (feeds ≡ feeds_at k step ++ rest)
    × AreFed rest k new steps

-- an ask is answered out of the log only where the terms allow followers, and a part is one that answers it by what the hall tells
abbrev pub FedBy : (Knows → Ask → Part → Bytes → Type 0) → Terms → Feed → Type 0
FedBy answers terms f = (0 < terms.followers) × IfGiven f.answer (λ part. answers f.knows f.ask part f.bytes)
