-- What an ask is answered by a hall.
use Rattle.std.specs.Prelude.{take}
use Rattle.byte_text.specs.Names.{Bytes}
use Rattle.world_model.specs.declared.events.CallOutcome.{CallOutcome}
use Rattle.world_model.specs.declared.events.CallOutcome.TheVariants as called
use Rattle.repl_stream.specs.declared.feeds.PartAnswer.{PartAnswer}
use Rattle.repl_stream.specs.declared.feeds.PartAnswer.TheVariants.{Given, LogFault, Stopped, Memory}
use Rattle.repl_stream.specs.declared.part_bytes.PartBytes.{PartBytes}
use Rattle.repl_stream.specs.declared.parts.Part.{Part}

-- the bytes that stand in a place for them
abbrev pub bytes_in : PartBytes → Bytes
bytes_in p = take p.len p.block.items

-- how the step of rewriting that comes before the reading ended, or the reading
abbrev pub called_of : PartAnswer → CallOutcome
called_of (Given part) = called.Ok
called_of LogFault = called.LogFault
called_of Stopped = called.Stopped
called_of Memory = called.Memory

-- this holds of the part that was given
abbrev pub IfGiven : PartAnswer → (Part → Type 0) → Type 0
IfGiven (Given part) P = P part
IfGiven answer P = Unit {0}
