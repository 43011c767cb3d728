-- How the commands on the session itself are spelled.
use Rattle.std.specs.Prelude.{List, [], ◌∷◌, codes}
use Rattle.world_model.specs.Grammar.{done}
use Rattle.world_model.specs.Kinds.{name, glob}
use Rattle.world_model.specs.declared.commands.Command.TheVariants as command
use Rattle.world_model.specs.declared.session_commands.SessionCommand.TheVariants as of_session
use Rattle.world_model.specs.Rows.{Row, row, of_some}

-- a row a command
abbrev pub session_rows : List Row
session_rows =
    row (codes "SUBSCRIBE") (of_some name (λ names. command.Session (of_session.Subscribe names))) ∷
    row (codes "PSUBSCRIBE") (of_some glob (λ patterns. command.Session (of_session.Psubscribe patterns))) ∷
    row (codes "PING") (done (command.Session of_session.Ping)) ∷
    row (codes "QUIT") (done (command.Session of_session.Quit)) ∷ []
