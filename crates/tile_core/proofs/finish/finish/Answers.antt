use Rattle.std.proofs.Common.{◌≡◌, ℕ, true, sym, ap, ◌∙◌, subst, List, arith}
use Rattle.std.specs.List.{AllByRecursion, list_all}
use Rattle.world_data.specs.Sound.{is_sound_channel}
use Rattle.world_data.specs.declared.channels.Channel.{Channel}
use Rattle.world_data.specs.declared.objects.Object.{Object}
use Rattle.keyspace.specs.Entries.{objects_in}
use Rattle.delivery_model.specs.Staging.{after_all}
use Rattle.channel_plans.specs.declared.planned.Planned.{Planned}
use Rattle.channel_plans.specs.declared.planned.Planned.TheVariants.{Objects, Channels}
use Rattle.tile_core.specs.declared.stores.Store.{Store}
use Rattle.object_plans.specs.Kept.{AreKept}
use Rattle.tile_core.specs.Dues.{AreChannelsDueFrom, AreDueFrom, IsChannelDueFrom}
use Rattle.object_plans.specs.Moves.{world_with, moved}
use Rattle.channel_plans.specs.Planned.{IsPlanned, IsRecordedChannel, channels_moved}
use Rattle.object_plans.specs.Beside.{channels_left, channels_weight}
use Rattle.tile_core.specs.Ready.{planned_writes}
use Rattle.tile_core.specs.Stores.{IsStore, world_at}
use Rattle.tile_core.proofs.Finishing.{channels_done, channels_due_moved, each_left, each_moved, kept_after, move_done, set_recorded, sound_left, sound_moved, weighed_left}
use Rattle.tile_core.proofs.Moving.{due_from_moved}
use Rattle.tile_core.proofs.finish.finish.Goals as goal

pub returns-in-Objects-clause-world : goal.returns-in-Objects-clause-world
returns-in-Objects-clause-world c =
    let old = c.args.store.now in
    let new = c.finish_objects.new.store in
    let p = c.in-Objects.plan in
    ap (λ (cs : List Channel). world_with cs (objects_in new.objects)) c.finish_objects.ensures.channels
    ∙ ap (world_with (channels_left p.action old.hub.channels)) c.finish_objects.ensures.objects
    ∙ sym (move_done old.hub.channels (objects_in old.objects) p.action p.announced)
    ∙ ap (λ (q : Planned). after_all (world_at old) (planned_writes q)) (sym c.in-Objects.is)

pub returns-in-Objects-clause-kept : goal.returns-in-Objects-clause-kept
returns-in-Objects-clause-kept c = λ held e planned kept.
    let old = c.args.store.now in
    let new = c.finish_objects.new.store in
    let p = c.in-Objects.plan in
    let xs = objects_in old.objects in
    let cs = old.hub.channels in
    let is : IsPlanned (world_at old) old.weight held e (Objects p) = subst (λ (q : Planned). IsPlanned (world_at old) old.weight held e q) c.in-Objects.is planned in
    let heavy : new.channel_weight ≡ channels_weight (channels_left p.action cs) = c.finish_objects.ensures.channel_weight ∙ weighed_left p.action old.channel_weight cs kept.weighed in
    record {
      kept = subst (λ (ys : List Object). AreKept ys new.weight) (sym c.finish_objects.ensures.objects)
          (subst (λ (n : ℕ). AreKept (moved xs p.action) n) (sym c.finish_objects.ensures.weight) (kept_after xs old.weight kept.kept e p is.0));
      sound = subst (λ (ds : List Channel). list_all is_sound_channel ds ≡ true) (sym c.finish_objects.ensures.channels) (sound_left p.action cs kept.sound);
      recorded = subst (AllByRecursion IsRecordedChannel) (sym c.finish_objects.ensures.channels) (each_left IsRecordedChannel p.action cs kept.recorded);
      weighed = heavy ∙ ap channels_weight (sym c.finish_objects.ensures.channels);
      light = let light = is.1 in let weight = c.finish_objects.ensures.weight in omega (arith, light, weight, heavy);
      due_from = subst (λ (ys : List Object). AreDueFrom new.due_from ys) (sym c.finish_objects.ensures.objects)
          (due_from_moved old.due_from new.due_from xs p.action c.finish_objects.ensures.least c.finish_objects.ensures.put kept.due_from);
      channels_due_from = subst (λ (n : ℕ). AreChannelsDueFrom n new.hub.channels) (sym c.finish_objects.ensures.channels_due_from)
          (subst (AreChannelsDueFrom old.channels_due_from) (sym c.finish_objects.ensures.channels) (each_left (IsChannelDueFrom old.channels_due_from) p.action cs kept.channels_due_from));
    }

pub returns-in-Channels-clause-world : goal.returns-in-Channels-clause-world
returns-in-Channels-clause-world c =
    let old = c.args.store.now in
    let new = c.finish_channels.new.store in
    let p = c.in-Channels.plan in
    ap (λ (cs : List Channel). world_with cs (objects_in new.objects)) c.finish_channels.ensures.channels
    ∙ ap (λ (s : Store). world_with (channels_moved p.action old.hub.channels) (objects_in s.objects)) c.finish_channels.ensures.rest
    ∙ sym (channels_done old.hub.channels (objects_in old.objects) p.action)
    ∙ ap (λ (q : Planned). after_all (world_at old) (planned_writes q)) (sym c.in-Channels.is)

pub returns-in-Channels-clause-kept : goal.returns-in-Channels-clause-kept
returns-in-Channels-clause-kept c = λ held e planned kept.
    let old = c.args.store.now in
    let new = c.finish_channels.new.store in
    let p = c.in-Channels.plan in
    let cs = old.hub.channels in
    let is : IsPlanned (world_at old) old.weight held e (Channels p) = subst (λ (q : Planned). IsPlanned (world_at old) old.weight held e q) c.in-Channels.is planned in
    subst IsStore (sym c.finish_channels.ensures.rest)
    (record {
      kept = kept.kept;
      sound = subst (λ (ds : List Channel). list_all is_sound_channel ds ≡ true) (sym c.finish_channels.ensures.channels) (sound_moved p.action cs is.0.sound kept.sound);
      recorded = subst (AllByRecursion IsRecordedChannel) (sym c.finish_channels.ensures.channels) (each_moved IsRecordedChannel p.action cs (set_recorded p.action is.0.recorded) kept.recorded);
      weighed = is.0.weight_is ∙ ap channels_weight (sym c.finish_channels.ensures.channels);
      light = is.1;
      due_from = kept.due_from;
      channels_due_from = subst (AreChannelsDueFrom c.finish_channels.new.store.channels_due_from) (sym c.finish_channels.ensures.channels)
          (channels_due_moved old.channels_due_from c.finish_channels.new.store.channels_due_from p.action cs c.finish_channels.ensures.least c.finish_channels.ensures.set kept.channels_due_from);
    })
