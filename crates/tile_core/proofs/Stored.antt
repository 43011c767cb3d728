-- The store of a world that was stored.
use Rattle.std.proofs.Common.{◌≡◌, ◌+◌, ◌≤◌, ◌^◌, ◌-◌, true, sym, ap, ◌∙◌, subst, List, [], ◌∷◌, arith}
use Rattle.std.specs.Prelude.{sum_by, unwrap_or}
use Rattle.std.specs.List.{AllByRecursion, list_all}
use Rattle.ordered_lists.specs.Reading.{both_of}
use Rattle.world_data.specs.Sound.{IsSoundObject, IsSoundWorld, is_sound_channel}
use Rattle.world_data.specs.Worlds.{are_channels, are_objects}
use Rattle.world_data.specs.declared.channels.Channel.{Channel}
use Rattle.world_data.specs.declared.objects.Object.{Object}
use Rattle.world_data.specs.declared.worlds.World.{World}
use Rattle.collection.specs.Objects as of_objects
use Rattle.channel_hub.specs.Dues as of_channels
use Rattle.keyspace.specs.Entries.{objects_in}
use Rattle.record_writer.specs.Lengths.{HaveFewFields, len_of, len_of_channel}
use Rattle.world_store.specs.Stored.{due_from, world_of}
use Rattle.world_store.specs.declared.stored_worlds.StoreParts.{StoreParts}
use Rattle.object_plans.specs.Kept.{most_kept}
use Rattle.tile_core.specs.Dues.{AreChannelsDueFrom, AreDueFrom}
use Rattle.object_plans.specs.Moves.{IsAccepted}
use Rattle.channel_plans.specs.Planned.{IsRecordedChannel}
use Rattle.tile_core.specs.Stores.{IsStore}
use Rattle.tile_core.specs.declared.stores.Store.{Store}
use Rattle.tile_core.proofs.Counting.{least_from}
use Rattle.tile_core.proofs.Soonest.{are_due_from}
use Rattle.object_plans.specs.Weights.{weight_sum}

are_accepted : (xs : List Object) → AllByRecursion IsSoundObject xs → AllByRecursion IsAccepted xs
are_accepted [] all = tt
are_accepted (x ∷ xs) all = (all.0.accepted, are_accepted xs all.1)

module _ (w : World) (sound : IsSoundWorld w) (few : HaveFewFields w.objects) (recorded : AllByRecursion IsRecordedChannel w.channels) (p : StoreParts) (is : world_of p ≡ w) (weighs : p.weight ≡ sum_by len_of w.objects) (channels_weigh : p.channel_weight ≡ sum_by len_of_channel w.channels)
    (due : p.due_from ≡ due_from w) (light : p.weight + p.channel_weight ≤ most_kept) where
  objects : objects_in p.objects ≡ w.objects
  objects = ap (λ (v : World). v.objects) is

  channels : p.hub.channels ≡ w.channels
  channels = ap (λ (v : World). v.channels) is

  pub stored : (s : Store) → IsStore (record s { objects = p.objects; weight = p.weight; due_from = p.due_from; hub = p.hub; channel_weight = p.channel_weight; channels_due_from = p.due_from })
  stored s = record {
    kept = record {
      sorted = subst (λ (xs : List Object). are_objects xs ≡ true) (sym objects) (both_of (are_objects w.objects) (are_channels w.channels) sound.sorted).0;
      accepted = subst (AllByRecursion IsAccepted) (sym objects) (are_accepted w.objects sound.objects);
      few = subst HaveFewFields (sym objects) few;
      weighed = weighs ∙ ap (sum_by len_of) (sym objects) ∙ sym (weight_sum (objects_in p.objects));
      light = omega (arith, light);
    };
    sound = subst (λ (cs : List Channel). list_all is_sound_channel cs ≡ true) (sym channels) sound.channels;
    recorded = subst (AllByRecursion IsRecordedChannel) (sym channels) recorded;
    weighed = channels_weigh ∙ ap (sum_by len_of_channel) (sym channels);
    light = light;
    due_from = subst (AreDueFrom p.due_from) (sym objects) (are_due_from p.due_from w.objects (λ m e. let at : unwrap_or (of_objects.least_due w.objects) (2 ^ 64 - 1) ≡ m = ap (λ d. unwrap_or d (2 ^ 64 - 1)) e in omega (arith, due, at)));
    channels_due_from = subst (AreChannelsDueFrom p.due_from) (sym channels)
        (least_from p.due_from w.channels (λ m e. let at : unwrap_or (of_channels.least_due w.channels) (2 ^ 64 - 1) ≡ m = ap (λ d. unwrap_or d (2 ^ 64 - 1)) e in omega (arith, due, at)));
  }
