-- What one step of a session does.
use Rattle.std.specs.Prelude.{◌≡◌, ◌⊎◌, ℕ, List, [], ◌++◌, take, drop, Option, Some, None, Result, Ok, Err}
use Rattle.byte_text.specs.Names.{Bytes}
use Rattle.world_model.specs.declared.events.Asked.{Asked}
use Rattle.world_model.specs.declared.events.CallOutcome.{CallOutcome}
use Rattle.world_model.specs.declared.events.CallOutcome.TheVariants as called
use Rattle.world_model.specs.declared.events.Outcome.{Outcome}
use Rattle.world_model.specs.declared.events.Outcome.TheVariants as outcome
use Rattle.outside.specs.declared.links.Got.{Got}
use Rattle.outside.specs.declared.links.Got.TheVariants as got
use Rattle.outside.specs.declared.links.Sent.{Sent}
use Rattle.outside.specs.declared.links.Sent.TheVariants as sent
use Rattle.session_run.specs.Ends.{end_of}
use Rattle.session_run.specs.Live.{shown_bytes}
use Rattle.session_run.specs.declared.ends.InEnd.{InEnd}
use Rattle.session_run.specs.declared.ends.InEnd.TheVariants as ended
use Rattle.session_run.specs.declared.phases.Asking.{Asking}
use Rattle.session_run.specs.declared.phases.Asking.TheVariants.{Open, Breaking, Ended}
use Rattle.session_run.specs.declared.phases.TakeEnd.{TakeEnd}
use Rattle.session_run.specs.declared.phases.TakeEnd.TheVariants as taking
use Rattle.session_run.specs.Filling.{IsFilled}
use Rattle.session_run.specs.Sessions.{SessionState, demand}

-- the bytes that a read brought
abbrev pub got_bytes : {E : Type 0} → Result Got E → Bytes → Bytes
got_bytes (Ok (got.Bytes n)) into = take n into
got_bytes (Ok got.End) into = []
got_bytes (Ok got.Later) into = []
got_bytes (Err e) into = []

-- where memory ran out nothing is said of what it is to be asked
abbrev pub UnlessMemory : Asking → Type 0 → Type 0
UnlessMemory (Ended ended.Memory) fact = Unit {0}
UnlessMemory asking fact = fact

pub said : {P : Type 0} → (asking : Asking) → P → UnlessMemory asking P
said Open p = p
said Breaking p = p
said (Ended ended.Memory) p = tt
said (Ended end) p = p

pub said_too : {P Q : Type 0} → (asking : Asking) → (P → Q) → UnlessMemory asking P → UnlessMemory asking Q
said_too Open f p = f p
said_too Breaking f p = f p
said_too (Ended ended.Memory) f p = tt
said_too (Ended end) f p = f p

-- what a read brought was made requests, and the rest is kept; at the end and at a fault its asking ended, and it is to be asked nothing
abbrev pub Readies : {E : Type 0} → SessionState → SessionState → Result Got E → Bytes → Type 0
Readies old new (Ok (got.Bytes n)) into = IsFilled old.number old.held (take n into) new.held new.rest new.asked new.asking
    × (new ≡ record old { line = new.line; held = new.held; rest = new.rest; asked = new.asked; asking = new.asking })
Readies old new (Ok got.End) into = (new ≡ record old { asking = Ended ended.Over }) × (demand new [] ≡ [])
Readies old new (Ok got.Later) into = new ≡ old
Readies old new (Err e) into = (new ≡ record old { line = new.line; asking = Ended ended.ReadFault }) × (demand new [] ≡ [])

-- all that was asked was answered: what is kept is made requests; where a fault was asked last, that ends the asking
abbrev pub AsksOn : Asking → SessionState → SessionState → Type 0
AsksOn Open old new = IsFilled old.number old.held old.rest new.held new.rest new.asked new.asking
    × (new ≡ record old { held = new.held; rest = new.rest; asked = new.asked; asking = new.asking })
AsksOn Breaking old new = (new ≡ record old { asking = Ended ended.Broken }) × ((more : Bytes) → demand new more ≡ [])
AsksOn (Ended end) old new = new ≡ old

-- the first of what was asked were answered Ok, and then all or the next one so. What was answered Full is asked again, and what stands
-- behind it; any other answer ends the asking
abbrev pub Answered : SessionState → SessionState → List Asked → ℕ → CallOutcome → Type 0
Answered old new asked served called.Ok = AsksOn old.asking old new
Answered old new asked served called.Full = new ≡ record old { asked = drop served asked }
Answered old new asked served end = (why : InEnd) × (end_of end ≡ Some why)
    × (new ≡ record old { asked = drop served asked; asking = Ended why })

-- how the taking goes on behind a take
abbrev pub taking_behind : Outcome → Option TakeEnd
taking_behind outcome.Ended = Some taking.Ended
taking_behind (outcome.Answered called.LogFault) = Some taking.LogFault
taking_behind (outcome.Answered called.Stopped) = Some taking.Stopped
taking_behind o = None

-- what is shown of the frames that a take gave is to be written behind all that is; where memory ran out they are lost, and nothing is taken any more
abbrev pub Takes : SessionState → SessionState → Outcome → Type 0
Takes old new (outcome.Given frames) = (new ≡ record old { out = old.out ++ shown_bytes old.number frames }) ⊎ (new ≡ record old { taking = Some taking.Memory })
Takes old new o = new ≡ record old { taking = taking_behind o }

-- where memory ran out for frames nothing is said of what is to be written
abbrev pub UnlessLost : Option TakeEnd → Type 0 → Type 0
UnlessLost (Some taking.Memory) fact = Unit {0}
UnlessLost end fact = fact

-- what was written is to be written no more; a link that failed is written no more
abbrev pub WritesOut : {E : Type 0} → SessionState → SessionState → Result Sent E → Type 0
WritesOut old new (Ok (sent.Bytes n)) = new ≡ record old { line = new.line; out = drop n old.out }
WritesOut old new (Ok sent.Later) = new ≡ old
WritesOut old new (Err e) = new ≡ record old { line = new.line; taking = Some taking.WriteFault }

-- the server ended the asking, and nothing is left to be asked
abbrev pub Dismisses : SessionState → SessionState → Type 0
Dismisses old new = (new ≡ record old { asking = Ended ended.Dismissed }) × (demand new [] ≡ [])

-- the server cut the link: nothing more is taken, and what was to be written is lost
abbrev pub Cuts : SessionState → SessionState → Type 0
Cuts old new = new ≡ record old { taking = Some taking.Late }
