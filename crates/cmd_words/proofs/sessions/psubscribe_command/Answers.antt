use Rattle.std.proofs.lemmas.Result.{err_from_is_err_and}
use Rattle.world_model.specs.declared.commands.Command.TheVariants as command
use Rattle.world_model.specs.declared.session_commands.SessionCommand.TheVariants as of_session
use Rattle.cmd_words.specs.Progress.{glob_of}
use Rattle.cmd_words.proofs.NameLists.{names_refused}
use Rattle.cmd_words.proofs.sessions.psubscribe_command.Goals as goal

pub returns-in_err-globs : goal.returns-in_err-globs
returns-in_err-globs c =
    let p = err_from_is_err_and c.from_residual.result c.from_residual.ensures.1 in
    rw (p.1, p.2) (λ h. names_refused glob_of (λ patterns. command.Session (of_session.Psubscribe patterns)) c.args.reader.now _ c.in_err-globs.ensures h)

pub returns : goal.returns
returns c = λ h. c.in_ok-globs.ensures (λ patterns. command.Session (of_session.Psubscribe patterns)) h
