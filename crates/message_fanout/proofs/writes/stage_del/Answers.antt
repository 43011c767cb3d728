use Rattle.std.proofs.Common.{◌≡◌, ◌∙◌, true, not, refl, sym, ap, subst, List, filter, flat_map}
use Rattle.std.specs.Prelude.{Some}
use Rattle.std.specs.List.{list_all}
use Rattle.std.proofs.lemmas.Result.{on_ok_weaker}
use Rattle.ordered_lists.specs.Reading.{all-filter}
use Rattle.world_data.specs.Sound.{is_sound_channel}
use Rattle.world_data.specs.declared.channels.Channel.{Channel}
use Rattle.world_data.specs.declared.worlds.Change.TheVariants.{Del}
use Rattle.world_data.specs.declared.worlds.World.{World}
use Rattle.fence_model.specs.Messages.{Message, watches}
use Rattle.channel_hub.specs.Hubs.{del_may_concern}
use Rattle.channel_hub.specs.MessageLaws.{messages_on}
use Rattle.session_table.specs.Fans.{AreBrought}
use Rattle.message_fanout.specs.Stagings.{IsBeforeDel, is_gone, messages_by, those_left}
use Rattle.message_fanout.proofs.Staying.{those_alone, those_that_stay}
use Rattle.message_fanout.proofs.Turns.{staged_in}
use Rattle.message_fanout.proofs.writes.stage_del.Goals as goal

pub stage_del_at-requires : goal.stage_del_at-requires
stage_del_at-requires g c =
    subst (λ (cs : List Channel). list_all is_sound_channel cs ≡ true) (sym c.in_ok-concerned.ensures.channels)
    (all-filter is_sound_channel (del_may_concern c.args.old.now) c.args.hub.now.channels c.requires)

pub returns-clause-staged : goal.returns-clause-staged
returns-clause-staged g c =
    let old = c.args.old.now in
    let gone = c.args.gone_before in
    let all = c.args.hub.now.channels in
    let change = Del old.key old.id in
    let a = c.args.sessions.now.items in
    let b = c.stage_del_at.new.sessions.items in
    on_ok_weaker c.stage_del_at.result
    (λ staged. staged_in (IsBeforeDel (those_left gone all) old) change a b
    (λ w is. let on = messages_on w change in
    let with_all : World = record w { channels = all } in
    subst (λ (ms : List Message). AreBrought ms a b)
    (ap (flat_map (messages_by gone w change)) c.in_ok-concerned.ensures.channels
    ∙ those_that_stay on (is_gone gone) (del_may_concern old) all
    ∙ sym (those_alone on (watches (Some old.key)) _ (λ d. not (is_gone gone d)) all (c.candidates_of_del.ensures.messages with_all refl is.stands))
    ∙ sym (ap (λ (cs : List Channel). flat_map on (filter (watches (Some old.key)) cs)) is.channels_are))
    (staged w is.stands)))
    c.stage_del_at.ensures.staged
