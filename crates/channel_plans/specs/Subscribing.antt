-- The words of SUBSCRIBE and PSUBSCRIBE.
use Rattle.std.specs.Prelude.{Bool, true, false, List}
use Rattle.byte_text.specs.Names.{Bytes}
use Rattle.world_model.specs.declared.commands.Command.{Command}
use Rattle.world_model.specs.declared.commands.Command.TheVariants as command
use Rattle.world_model.specs.declared.session_commands.SessionCommand.TheVariants as of_session

-- the command that subscribes to names, or to patterns
abbrev pub subscribing : Bool → List Bytes → Command
subscribing true words = command.Session (of_session.Psubscribe words)
subscribing false words = command.Session (of_session.Subscribe words)
