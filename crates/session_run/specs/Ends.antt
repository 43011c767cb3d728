-- How the asking of a session ends.
use Rattle.std.specs.Prelude.{◌≡◌, ◌⊎◌, ℕ, List, [], Option, Some, None}
use Rattle.world_model.specs.declared.events.Asked.{Asked}
use Rattle.world_model.specs.declared.events.CallOutcome.{CallOutcome}
use Rattle.world_model.specs.declared.events.CallOutcome.TheVariants as called
use Rattle.session_run.specs.Calls.{Call, IsStop}
use Rattle.session_run.specs.Feeds.{EndsBroken}
use Rattle.session_run.specs.declared.ends.InEnd.{InEnd}
use Rattle.session_run.specs.declared.ends.InEnd.TheVariants.{Over, Broken, ClosedByHall, ReadFault, LogFault, Stopped, Spent, Memory, Dismissed}

-- the end that a call's answer brings
abbrev pub end_of : CallOutcome → Option InEnd
end_of called.Ok = None
end_of called.Full = None
end_of called.Gone = Some ClosedByHall
end_of called.LogFault = Some LogFault
end_of called.Stopped = Some Stopped
end_of called.Spent = Some Spent
end_of called.Memory = Some Memory

-- why it ended: all that is asked for was answered Ok, and it is the end of the input, or its last is a fault's, or reading failed, or the
-- server ended it; or one call more was answered otherwise. Memory is free
abbrev pub EndsAt : Option ℕ → InEnd → List Call → List Asked → List Asked → Type 0
EndsAt told Over stop asks left = (stop ≡ []) × (left ≡ [])
EndsAt told ReadFault stop asks left = (stop ≡ []) × (left ≡ [])
EndsAt told Dismissed stop asks left = (stop ≡ []) × (left ≡ [])
EndsAt told Broken stop asks left = (stop ≡ []) × (left ≡ []) × EndsBroken asks
EndsAt told ClosedByHall stop asks left = IsStop told called.Gone stop left
EndsAt told LogFault stop asks left = IsStop told called.LogFault stop left
EndsAt told Stopped stop asks left = IsStop told called.Stopped stop left
EndsAt told Spent stop asks left = IsStop told called.Spent stop left
EndsAt told Memory stop asks left = (stop ≡ []) ⊎ IsStop told called.Memory stop left
