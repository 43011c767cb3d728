use Rattle.std.proofs.Common.{◌≡◌, ◌∙◌, true, sym, ap, subst, List, filter, flat_map}
use Rattle.std.specs.Prelude.{option_map}
use Rattle.std.specs.List.{list_all}
use Rattle.std.proofs.lemmas.Result.{on_ok_weaker}
use Rattle.ordered_lists.specs.Reading.{all-filter}
use Rattle.world_data.specs.Sound.{is_sound_channel}
use Rattle.world_data.specs.declared.channels.Channel.{Channel}
use Rattle.world_data.specs.declared.worlds.Change.TheVariants.{Put}
use Rattle.fence_model.specs.Messages.{Message}
use Rattle.channel_hub.specs.Hubs.{put_may_concern}
use Rattle.channel_hub.specs.MessageLaws.{messages_on}
use Rattle.keyspace.specs.Entries.{objects_in}
use Rattle.session_table.specs.Fans.{AreBrought}
use Rattle.message_fanout.specs.Stagings.{IsBeforePut}
use Rattle.message_fanout.proofs.Turns.{staged_in}
use Rattle.message_fanout.proofs.writes.stage_put.Goals as goal

pub stage_put_at-requires : goal.stage_put_at-requires
stage_put_at-requires g c =
    let channels = c.args.hub.now.channels in
    let test = put_may_concern (option_map (λ o. o.now) c.args.old) c.args.new.now in
    subst (λ (cs : List Channel). list_all is_sound_channel cs ≡ true) (sym c.in_ok-candidates.ensures.channels) (all-filter is_sound_channel test channels c.requires)

pub returns-clause-staged : goal.returns-clause-staged
returns-clause-staged g c =
    let old = option_map (λ o. o.now) c.args.old in
    let new = c.args.new.now in
    let a = c.args.sessions.now.items in
    let b = c.stage_put_at.new.sessions.items in
    on_ok_weaker c.stage_put_at.result
    (λ staged. staged_in (IsBeforePut c.args.hub.now.channels (objects_in c.args.objects.now) old new) (Put new) a b
    (λ w is. subst (λ (ms : List Message). AreBrought ms a b)
    (ap (flat_map (messages_on w (Put new))) c.in_ok-candidates.ensures.channels
    ∙ sym (c.candidates_of_put.ensures.messages w is.channels_are is.stands ∙ ap (λ (cs : List Channel). flat_map (messages_on w (Put new)) (filter (put_may_concern old new) cs)) is.channels_are))
    (staged w is.objects_are is.stands)))
    c.stage_put_at.ensures.staged
