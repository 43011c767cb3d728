use Rattle.std.proofs.lemmas.Result.{err_from_is_err_and}
use Rattle.world_model.specs.declared.commands.Command.TheVariants as command
use Rattle.world_model.specs.declared.channel_commands.ChannelCommand.TheVariants as of_channel
use Rattle.cmd_words.specs.Progress.{a_name}
use Rattle.cmd_words.proofs.Ends.{not_begun, not_ended, ended}
use Rattle.cmd_words.proofs.channels.delchan_command.Goals as goal

pub returns-in_err-name : goal.returns-in_err-name
returns-in_err-name c =
    let p = err_from_is_err_and c.from_residual.result c.from_residual.ensures.1 in
    rw (p.1, p.2) (λ h. not_begun a_name (λ name. command.Channel (of_channel.Delchan name)) c.args.reader.now c.name.new.self _ c.in_err-name.ensures h)

pub returns-in_err-end : goal.returns-in_err-end
returns-in_err-end c =
    let p = err_from_is_err_and c.from_residual-in_err-end.result c.from_residual-in_err-end.ensures.1 in
    rw (p.1, p.2) (λ h. not_ended a_name (λ name. command.Channel (of_channel.Delchan name)) c.args.reader.now c.name.new.self _ _ c.in_ok-name.ensures c.in_err-end.ensures h)

pub returns : goal.returns
returns c = λ h. ended a_name (λ name. command.Channel (of_channel.Delchan name)) c.args.reader.now c.name.new.self _ c.in_ok-name.ensures c.in_ok-end.ensures h
