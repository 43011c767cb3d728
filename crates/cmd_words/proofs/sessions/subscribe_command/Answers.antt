use Rattle.std.proofs.lemmas.Result.{err_from_is_err_and}
use Rattle.world_model.specs.declared.commands.Command.TheVariants as command
use Rattle.world_model.specs.declared.session_commands.SessionCommand.TheVariants as of_session
use Rattle.cmd_words.specs.Progress.{name_of}
use Rattle.cmd_words.proofs.NameLists.{names_refused}
use Rattle.cmd_words.proofs.sessions.subscribe_command.Goals as goal

pub returns-in_err-names : goal.returns-in_err-names
returns-in_err-names c =
    let p = err_from_is_err_and c.from_residual.result c.from_residual.ensures.1 in
    rw (p.1, p.2) (λ h. names_refused name_of (λ names. command.Session (of_session.Subscribe names)) c.args.reader.now _ c.in_err-names.ensures h)

pub returns : goal.returns
returns c = λ h. c.in_ok-names.ensures (λ names. command.Session (of_session.Subscribe names)) h
