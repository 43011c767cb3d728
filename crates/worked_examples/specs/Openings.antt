-- What is open is the beginning of a spelling.
use Rattle.std.specs.Prelude.{◌≡◌, true, List, ◌++◌, Some}
use Rattle.byte_text.specs.Names.{Bytes}
use Rattle.world_model.specs.Commands.{is_open, command_spelled}
use Rattle.world_model.specs.declared.commands.Command.{Command}

-- more words make a spelling of it
abbrev pub OpenIsBegun : Type 0
OpenIsBegun = (words : List Bytes) → is_open words ≡ true → (more : List Bytes) × (c : Command) × (command_spelled (words ++ more) ≡ Some c)
