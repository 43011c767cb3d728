use Rattle.std.proofs.Common.{◌∙◌, sym, ap, subst, List, filter, flat_map}
use Rattle.std.specs.Prelude.{Some}
use Rattle.std.proofs.lemmas.Result.{on_ok_weaker}
use Rattle.world_data.specs.declared.channels.Channel.{Channel}
use Rattle.world_data.specs.declared.worlds.Change.TheVariants.{Drop}
use Rattle.fence_model.specs.Messages.{Message, watches}
use Rattle.channel_hub.specs.MessageLaws.{messages_on}
use Rattle.session_table.specs.Fans.{AreBrought}
use Rattle.message_fanout.specs.Stagings.{IsBeforeDrop}
use Rattle.message_fanout.proofs.Turns.{staged_in, own_key}
use Rattle.message_fanout.proofs.writes.stage_drop.Goals as goal

pub returns-clause-staged : goal.returns-clause-staged
returns-clause-staged c =
    let key = c.args.key.now in
    let cs = c.args.hub.now.channels in
    let a = c.args.sessions.now.items in
    let b = c.stage_drop_at.new.sessions.items in
    on_ok_weaker c.stage_drop_at.result
    (λ staged. staged_in (IsBeforeDrop cs) (Drop key) a b
    (λ w is. subst (λ (ms : List Message). AreBrought ms a b)
    (ap (flat_map (λ ch. messages_on w (Drop ch.fence.key) ch)) c.in_ok-watching.ensures ∙ own_key w key cs ∙ sym (ap (λ (ds : List Channel). flat_map (messages_on w (Drop key)) (filter (watches (Some key)) ds)) is))
    (staged w)))
    c.stage_drop_at.ensures.staged
