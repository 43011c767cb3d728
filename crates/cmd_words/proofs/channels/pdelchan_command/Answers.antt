use Rattle.std.proofs.lemmas.Result.{err_from_is_err_and}
use Rattle.world_model.specs.Grammar.{◌>>=◌}
use Rattle.world_model.specs.Kinds.{glob}
use Rattle.world_model.specs.declared.commands.Command.TheVariants as command
use Rattle.world_model.specs.declared.channel_commands.ChannelCommand.TheVariants as of_channel
use Rattle.cmd_words.proofs.Ends.{not_begun, not_ended, ended}
use Rattle.cmd_words.proofs.channels.pdelchan_command.Goals as goal

pub returns-in_err-glob : goal.returns-in_err-glob
returns-in_err-glob c =
    let p = err_from_is_err_and c.from_residual.result c.from_residual.ensures.1 in
    rw (p.1, p.2) (λ h. not_begun (λ next. glob >>= next) (λ pattern. command.Channel (of_channel.Pdelchan pattern)) c.args.reader.now c.glob.new.self _ c.in_err-glob.ensures h)

pub returns-in_err-end : goal.returns-in_err-end
returns-in_err-end c =
    let p = err_from_is_err_and c.from_residual-in_err-end.result c.from_residual-in_err-end.ensures.1 in
    rw (p.1, p.2) (λ h. not_ended (λ next. glob >>= next) (λ pattern. command.Channel (of_channel.Pdelchan pattern)) c.args.reader.now c.glob.new.self _ _ c.in_ok-glob.ensures c.in_err-end.ensures h)

pub returns : goal.returns
returns c = λ h. ended (λ next. glob >>= next) (λ pattern. command.Channel (of_channel.Pdelchan pattern)) c.args.reader.now c.glob.new.self _ c.in_ok-glob.ensures c.in_ok-end.ensures h
