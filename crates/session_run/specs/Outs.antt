-- What the takes of a session give.
use Rattle.std.specs.Prelude.{ℕ, List, [], flat_map}
use Rattle.byte_text.specs.Names.{Bytes}
use Rattle.world_model.specs.declared.events.Event.TheVariants as event
use Rattle.world_model.specs.declared.events.Outcome.{Outcome}
use Rattle.world_model.specs.declared.events.Outcome.TheVariants as outcome
use Rattle.world_model.specs.Seats.{Act}
use Rattle.session_run.specs.Live.{shown_bytes}

-- what the session of a number is shown of the frames that a take gave, and of those that some gave
abbrev pub given_bytes : ℕ → Outcome → Bytes
given_bytes n (outcome.Given frames) = shown_bytes n frames
given_bytes n o = []

abbrev pub bytes_given : ℕ → List Outcome → Bytes
bytes_given n takes = flat_map (given_bytes n) takes

-- a take of the session with this outcome
abbrev pub take_act : ℕ → Outcome → Act
take_act n o = (event.Take n, o)
