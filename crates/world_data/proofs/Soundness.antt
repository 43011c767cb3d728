-- A change that brings what is sound keeps a world sound.
use Rattle.std.proofs.Common.{not, refl}
use Rattle.ordered_lists.specs.Ascending.{all-put_in, each-put_in}
use Rattle.ordered_lists.specs.Reading.{all-filter, each-filter}
use Rattle.world_data.specs.Worlds.{object_before, channel_before, is_at, has_key, is_named, after}
use Rattle.world_data.specs.Sound.{IsSoundWorld, IsSoundChange, IsSoundObject, is_sound_channel}
use Rattle.world_data.specs.declared.worlds.World.{World}
use Rattle.world_data.specs.declared.worlds.Change.{Change}
use Rattle.world_data.specs.declared.worlds.Change.TheVariants.{Put, Del, Drop, Flush, SetChan, DelChan}
use Rattle.world_data.specs.WorldLaws.{keeps_order}

pub keeps_soundness : (w : World) (c : Change) → IsSoundWorld w → IsSoundChange c → IsSoundWorld (after w c)
keeps_soundness w (Put o) s c = record {
  sorted = keeps_order w (Put o) s.sorted;
  objects = each-put_in IsSoundObject object_before o w.objects c s.objects;
  channels = s.channels;
}
keeps_soundness w (Del key id) s c = record {
  sorted = keeps_order w (Del key id) s.sorted;
  objects = each-filter IsSoundObject (λ o. not (is_at key id o)) w.objects s.objects;
  channels = s.channels;
}
keeps_soundness w (Drop key) s c = record {
  sorted = keeps_order w (Drop key) s.sorted;
  objects = each-filter IsSoundObject (λ o. not (has_key key o)) w.objects s.objects;
  channels = s.channels;
}
keeps_soundness w Flush s c = record { sorted = refl; objects = tt; channels = refl }
keeps_soundness w (SetChan d) s c = record {
  sorted = keeps_order w (SetChan d) s.sorted;
  objects = s.objects;
  channels = all-put_in is_sound_channel channel_before d w.channels c s.channels;
}
keeps_soundness w (DelChan name) s c = record {
  sorted = keeps_order w (DelChan name) s.sorted;
  objects = s.objects;
  channels = all-filter is_sound_channel (λ d. not (is_named name d)) w.channels s.channels;
}
