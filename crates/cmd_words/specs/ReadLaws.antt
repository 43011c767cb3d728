-- A command that is read was spelled.
use Rattle.std.proofs.Common.{◌≡◌, ap, List}
use Rattle.std.specs.Prelude.{Option, Some, None, Ok}
use Rattle.byte_text.specs.Names.{Bytes}
use Rattle.world_model.specs.Commands.{ok_or_fault}
use Rattle.world_model.specs.declared.commands.Command.{Command}

pub ok_spelled : (words : List Bytes) (o : Option Command) (c : Command) → ok_or_fault words o ≡ Ok c → o ≡ Some c
ok_spelled words (Some d) c e = ap Some (cc e)
ok_spelled words None c e = absurd (cc e)
