-- The output lines of a script.
use Rattle.std.specs.Prelude.{◌++◌, Option, Some, None, flat_map, codes, decimal}
use Rattle.byte_text.specs.Names.{Bytes}
use Rattle.script_text.specs.Escaped.{frame_line}
use Rattle.world_model.specs.declared.events.CallOutcome.{CallOutcome}
use Rattle.world_model.specs.declared.events.CallOutcome.TheVariants as called
use Rattle.world_model.specs.declared.events.Outcome.{Outcome}
use Rattle.world_model.specs.declared.events.Outcome.TheVariants.{Done, Entered, TooMany, Answered, Given, Empty, Ended}

-- what is printed of the answer to a call; nothing of those that end a script
abbrev pub called_line : CallOutcome → Option Bytes
called_line called.Ok = Some (codes "ok\n")
called_line called.Full = Some (codes "full\n")
called_line called.Gone = Some (codes "gone\n")
called_line called.LogFault = None
called_line called.Stopped = None
called_line called.Spent = None
called_line called.Memory = None

-- what is printed of how an event ended
abbrev pub printed : Outcome → Option Bytes
printed (Entered n) = Some (codes "session " ++ decimal n ++ codes "\n")
printed TooMany = Some (codes "toomany\n")
printed (Answered c) = called_line c
printed (Given frames) = Some (flat_map frame_line frames)
printed Empty = Some (codes "empty\n")
printed Ended = Some (codes "ended\n")
printed Done = Some (codes "ok\n")
