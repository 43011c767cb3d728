use Rattle.std.proofs.lemmas.Result.{err_from_is_err_and}
use Rattle.world_model.specs.Grammar.{◌>>=◌, done}
use Rattle.world_model.specs.Kinds.{seconds}
use Rattle.world_model.specs.declared.commands.Command.TheVariants as command
use Rattle.world_model.specs.declared.object_commands.ObjectCommand.TheVariants as of_object
use Rattle.cmd_words.specs.Progress.{key_and_id}
use Rattle.cmd_words.proofs.Ends.{begun_fails}
use Rattle.cmd_words.proofs.Seconds.{second_fails, second_not_ended, second_ended}
use Rattle.cmd_words.proofs.objects.expire_command.Goals as goal

pub returns-in_err-key : goal.returns-in_err-key
returns-in_err-key c =
    let p = err_from_is_err_and c.from_residual.result c.from_residual.ensures.1 in
    rw (p.1, p.2) (λ h. begun_fails key_and_id (λ k. seconds >>= λ x. done (command.Object (of_object.Expire k.0 k.1 x))) c.args.reader.now c.key_and_id.new.self _ c.in_err-key.ensures h)

pub returns-in_err-seconds : goal.returns-in_err-seconds
returns-in_err-seconds c =
    let p = err_from_is_err_and c.from_residual-in_err-seconds.result c.from_residual-in_err-seconds.ensures.1 in
    rw (p.1, p.2) (λ h. second_fails key_and_id seconds (λ k x. command.Object (of_object.Expire k.0 k.1 x)) c.args.reader.now c.key_and_id.new.self c.seconds.new.self _ c.in_ok-key.ensures h _ c.in_err-seconds.ensures)

pub returns-in_err-end : goal.returns-in_err-end
returns-in_err-end c =
    let p = err_from_is_err_and c.from_residual-in_err-end.result c.from_residual-in_err-end.ensures.1 in
    rw (p.1, p.2) (λ h. second_not_ended key_and_id seconds (λ k x. command.Object (of_object.Expire k.0 k.1 x)) c.args.reader.now c.key_and_id.new.self c.seconds.new.self _ c.in_ok-key.ensures h _ c.in_ok-seconds.ensures _ c.in_err-end.ensures)

pub returns : goal.returns
returns c = λ h. second_ended key_and_id seconds (λ k x. command.Object (of_object.Expire k.0 k.1 x)) c.args.reader.now c.key_and_id.new.self c.seconds.new.self _ c.in_ok-key.ensures h _ c.in_ok-seconds.ensures c.in_ok-end.ensures
