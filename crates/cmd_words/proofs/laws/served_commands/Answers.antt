use Rattle.cmd_words.proofs.ServedCommands.{commands_are_served}
use Rattle.cmd_words.proofs.laws.served_commands.Goals as goal

pub returns : goal.returns
returns c = commands_are_served
