use Rattle.std.proofs.lemmas.Result.{err_from_is_err_and}
use Rattle.world_model.specs.Grammar.{◌>>=◌, done}
use Rattle.world_model.specs.Kinds.{glob}
use Rattle.world_model.specs.declared.commands.Command.TheVariants as command
use Rattle.world_model.specs.declared.object_commands.ObjectCommand.TheVariants as of_object
use Rattle.cmd_words.specs.Progress.{a_name}
use Rattle.cmd_words.proofs.Ends.{begun_fails}
use Rattle.cmd_words.proofs.Seconds.{second_fails, second_not_ended, second_ended}
use Rattle.cmd_words.proofs.objects.pdel_command.Goals as goal

pub returns-in_err-key : goal.returns-in_err-key
returns-in_err-key c =
    let p = err_from_is_err_and c.from_residual.result c.from_residual.ensures.1 in
    rw (p.1, p.2) (λ h. begun_fails a_name (λ k. glob >>= λ x. done (command.Object (of_object.Pdel k x))) c.args.reader.now c.name.new.self _ c.in_err-key.ensures h)

pub returns-in_err-glob : goal.returns-in_err-glob
returns-in_err-glob c =
    let p = err_from_is_err_and c.from_residual-in_err-glob.result c.from_residual-in_err-glob.ensures.1 in
    rw (p.1, p.2) (λ h. second_fails a_name glob (λ k x. command.Object (of_object.Pdel k x)) c.args.reader.now c.name.new.self c.glob.new.self _ c.in_ok-key.ensures h _ c.in_err-glob.ensures)

pub returns-in_err-end : goal.returns-in_err-end
returns-in_err-end c =
    let p = err_from_is_err_and c.from_residual-in_err-end.result c.from_residual-in_err-end.ensures.1 in
    rw (p.1, p.2) (λ h. second_not_ended a_name glob (λ k x. command.Object (of_object.Pdel k x)) c.args.reader.now c.name.new.self c.glob.new.self _ c.in_ok-key.ensures h _ c.in_ok-glob.ensures _ c.in_err-end.ensures)

pub returns : goal.returns
returns c = λ h. second_ended a_name glob (λ k x. command.Object (of_object.Pdel k x)) c.args.reader.now c.name.new.self c.glob.new.self _ c.in_ok-key.ensures h _ c.in_ok-glob.ensures c.in_ok-end.ensures
