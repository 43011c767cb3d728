use Rattle.std.proofs.lemmas.Result.{err_from_is_err_and}
use Rattle.world_model.specs.declared.commands.Command.TheVariants as command
use Rattle.world_model.specs.declared.object_commands.ObjectCommand.TheVariants as of_object
use Rattle.cmd_words.specs.Progress.{a_name}
use Rattle.cmd_words.proofs.Ends.{not_begun, not_ended, ended}
use Rattle.cmd_words.proofs.objects.drop_command.Goals as goal

pub returns-in_err-key : goal.returns-in_err-key
returns-in_err-key c =
    let p = err_from_is_err_and c.from_residual.result c.from_residual.ensures.1 in
    rw (p.1, p.2) (λ h. not_begun a_name (λ key. command.Object (of_object.Drop key)) c.args.reader.now c.name.new.self _ c.in_err-key.ensures h)

pub returns-in_err-end : goal.returns-in_err-end
returns-in_err-end c =
    let p = err_from_is_err_and c.from_residual-in_err-end.result c.from_residual-in_err-end.ensures.1 in
    rw (p.1, p.2) (λ h. not_ended a_name (λ key. command.Object (of_object.Drop key)) c.args.reader.now c.name.new.self _ _ c.in_ok-key.ensures c.in_err-end.ensures h)

pub returns : goal.returns
returns c = λ h. ended a_name (λ key. command.Object (of_object.Drop key)) c.args.reader.now c.name.new.self _ c.in_ok-key.ensures c.in_ok-end.ensures h
