-- The outcomes of a history are the machine's: they follow from its opening and its events, but for a failing log and want of memory.
use Rattle.std.specs.Prelude.{◌≡◌, ◌≢◌, List, map}
use Rattle.std.specs.List.{AllByRecursion}
use Rattle.world_model.specs.Halls.{Hall}
use Rattle.world_model.specs.Histories.{Reaches, answer}
use Rattle.world_model.specs.declared.events.CallOutcome.TheVariants as called
use Rattle.world_model.specs.declared.events.Entry.{Entry}
use Rattle.world_model.specs.declared.events.Opening.{Opening}

-- the log did not fail, and memory was not wanted
abbrev pub IsDetermined : Entry → Type 0
IsDetermined e = (e.outcome ≢ answer called.LogFault) × (e.outcome ≢ answer called.Memory)

abbrev pub EventsDetermineOutcomes : Type 0
EventsDetermineOutcomes = (o : Opening) (entries others : List Entry) (last other : Hall)
    → map (λ e. e.event) entries ≡ map (λ e. e.event) others
    → AllByRecursion IsDetermined entries → AllByRecursion IsDetermined others
    → Reaches o entries last → Reaches o others other
    → (map (λ e. e.outcome) entries ≡ map (λ e. e.outcome) others) × (last ≡ other)
