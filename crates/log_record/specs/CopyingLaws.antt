-- A rewriting's part of a world.
use Rattle.std.proofs.Common.{◌≡◌, Bool, true, List, refl, ap, ◌∙◌}
use Rattle.std.specs.List.{list_all}
use Rattle.world_data.specs.Worlds.{object_before, channel_before, are_objects, are_channels, is_sorted_world, after}
use Rattle.world_data.specs.declared.objects.Object.{Object}
use Rattle.world_data.specs.declared.channels.Channel.{Channel}
use Rattle.world_data.specs.declared.worlds.World.{World}
use Rattle.world_data.specs.declared.worlds.Change.{Change}
use Rattle.world_data.specs.declared.worlds.Change.TheVariants.{Put, Del, Drop, Flush, SetChan, DelChan}
use Rattle.world_data.specs.WorldLaws.{object_asym, object_trans, object_tie, channel_asym, channel_trans, channel_tie}
use Rattle.log_record.specs.Copying.{IsPart, PartsGrow}
use Rattle.log_record.specs.RecordsRead.{first, second}
use Rattle.log_record.specs.PickedLaws.{some_put, some_more, some_filter, some_none, some_all}

objects_ascend : (w : World) → is_sorted_world w ≡ true → are_objects w.objects ≡ true
objects_ascend w sorted = first (are_objects w.objects) (are_channels w.channels) sorted

channels_ascend : (w : World) → is_sorted_world w ≡ true → are_channels w.channels ≡ true
channels_ascend w sorted = second (are_objects w.objects) (are_channels w.channels) sorted

follow : (copied : Object → Bool) (copied_channels : Channel → Bool) (part all : World) (c : Change) → is_sorted_world all ≡ true
    → IsPart copied copied_channels part all → IsPart copied copied_channels (after part c) (after all c)
follow copied copied_channels part all (Put o) sorted is =
    record {
      objects = some_put object_before object_asym object_trans object_tie copied part.objects all.objects o
          (objects_ascend all sorted) is.objects;
      channels = is.channels;
    }
follow copied copied_channels part all (Del key id) sorted is =
    record { objects = some_filter copied _ part.objects all.objects is.objects; channels = is.channels }
follow copied copied_channels part all (Drop key) sorted is =
    record { objects = some_filter copied _ part.objects all.objects is.objects; channels = is.channels }
follow copied copied_channels part all Flush sorted is = record {
  objects = record { picked = is.objects.picked; part_is = refl; enough = is.objects.enough };
  channels = record { picked = is.channels.picked; part_is = refl; enough = is.channels.enough };
}
follow copied copied_channels part all (SetChan c) sorted is =
    record {
      objects = is.objects;
      channels = some_put channel_before channel_asym channel_trans channel_tie copied_channels part.channels
          all.channels c (channels_ascend all sorted) is.channels;
    }
follow copied copied_channels part all (DelChan name) sorted is =
    record { objects = is.objects; channels = some_filter copied_channels _ part.channels all.channels is.channels }

parts_end : (copied : Object → Bool) (copied_channels : Channel → Bool) (part all : World) → list_all copied all.objects ≡ true
    → list_all copied_channels all.channels ≡ true → IsPart copied copied_channels part all → part ≡ all
parts_end copied copied_channels part all objects channels is =
    ap (λ (l : List Object). record { objects = l; channels = part.channels }) (some_all copied part.objects all.objects objects is.objects)
    ∙ ap (λ (l : List Channel). record { objects = all.objects; channels = l })
    (some_all copied_channels part.channels all.channels channels is.channels)

pub parts_grow : PartsGrow
parts_grow = record {
  begin = λ all. record { objects = some_none all.objects; channels = some_none all.channels };
  follow = follow;
  object = λ copied copied_channels part all o sorted stands is.
      record {
        objects = some_more object_before object_asym object_trans object_tie copied part.objects all.objects o
            (objects_ascend all sorted) stands is.objects;
        channels = is.channels;
      };
  channel = λ copied copied_channels part all c sorted stands is.
      record {
        objects = is.objects;
        channels = some_more channel_before channel_asym channel_trans channel_tie copied_channels part.channels
            all.channels c (channels_ascend all sorted) stands is.channels;
      };
  end = parts_end;
}
