use Rattle.std.proofs.lemmas.Result.{err_from_is_err_and}
use Rattle.world_model.specs.declared.commands.Command.TheVariants as command
use Rattle.world_model.specs.declared.session_commands.SessionCommand.TheVariants as of_session
use Rattle.cmd_words.proofs.Ends.{end_refused}
use Rattle.cmd_words.proofs.Follows.{finished}
use Rattle.cmd_words.proofs.sessions.quit_command.Goals as goal

pub returns-in_err-end : goal.returns-in_err-end
returns-in_err-end c =
    let p = err_from_is_err_and c.from_residual.result c.from_residual.ensures.1 in
    rw (p.1, p.2) (λ h. end_refused c.args.reader.now (command.Session of_session.Quit) _ c.in_err-end.ensures h)

pub returns : goal.returns
returns c = λ h. finished c.args.reader.now (command.Session of_session.Quit) c.in_ok-end.ensures h
