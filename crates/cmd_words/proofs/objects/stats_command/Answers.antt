use Rattle.std.proofs.lemmas.Result.{err_from_is_err_and}
use Rattle.world_model.specs.declared.commands.Command.TheVariants as command
use Rattle.world_model.specs.declared.object_commands.ObjectCommand.TheVariants as of_object
use Rattle.cmd_words.specs.Progress.{name_of}
use Rattle.cmd_words.proofs.NameLists.{names_refused}
use Rattle.cmd_words.proofs.objects.stats_command.Goals as goal

pub returns-in_err-keys : goal.returns-in_err-keys
returns-in_err-keys c =
    let p = err_from_is_err_and c.from_residual.result c.from_residual.ensures.1 in
    rw (p.1, p.2) (λ h. names_refused name_of (λ keys. command.Object (of_object.Stats keys)) c.args.reader.now _ c.in_err-keys.ensures h)

pub returns : goal.returns
returns c = λ h. c.in_ok-keys.ensures (λ keys. command.Object (of_object.Stats keys)) h
