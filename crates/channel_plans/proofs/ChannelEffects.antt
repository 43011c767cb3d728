-- What SETCHAN, DELCHAN, PDELCHAN and CHANS do.
use Rattle.std.proofs.Common.{◌≡◌, ℕ, ◌≤◌, ◌<◌, true, false, refl, lit<, List, [], ◌∷◌, length, arith}
use Rattle.std.specs.Prelude.{Option, Some, None, codes, is_none, map, nat_le, ◌&&◌}
use Rattle.std.proofs.lemmas.Bool.Decides.{nat_tests}
use Rattle.byte_text.specs.Names.{Bytes}
use Rattle.byte_text.specs.Globs.{is_sound_glob}
use Rattle.byte_text.specs.Replies.{array, number}
use Rattle.planar_geom.specs.declared.shapes.Area.{Area}
use Rattle.planar_geom.specs.declared.shapes.Area.TheVariants.{Figure}
use Rattle.fence_model.specs.Writes.{silent}
use Rattle.world_data.specs.Limits.{max_channels, max_weight}
use Rattle.world_data.specs.Records.{weight}
use Rattle.world_data.specs.Sound.{is_sound_area, is_sound_channel, is_sound_watch}
use Rattle.world_data.specs.Worlds.{channel_of, object_at, after}
use Rattle.world_data.specs.declared.channels.Channel.{Channel}
use Rattle.world_data.specs.declared.channels.Kind.TheVariants.{Within, Intersects, Near}
use Rattle.world_data.specs.declared.channels.Watch.{Watch}
use Rattle.world_data.specs.declared.channels.Watch.TheVariants.{Zone, Roam}
use Rattle.world_data.specs.declared.objects.Object.{Object}
use Rattle.world_data.specs.declared.worlds.World.{World}
use Rattle.world_data.specs.declared.worlds.Change.TheVariants as change
use Rattle.world_model.specs.Effects.{says, changes, refuses, fits, missing, effect, set_area, setchan_effect, settled_channel, watch_over, within_reply}
use Rattle.world_model.specs.ChannelEffects.{with_deadline}
use Rattle.world_model.specs.Replies.{channel_reply}
use Rattle.world_model.specs.Sound.{is_sound_setting, takes_areas}
use Rattle.world_model.specs.declared.search_commands.AreaWords.{AreaWords}
use Rattle.world_model.specs.declared.search_commands.AreaWords.TheVariants as area_words
use Rattle.world_model.specs.declared.commands.Command.TheVariants as command
use Rattle.world_model.specs.declared.channel_commands.ChannelCommand.TheVariants as of_channel
use Rattle.world_model.specs.declared.faults.Refusal.TheVariants as refusal
use Rattle.channel_plans.specs.Dropping.{met_channels, drops}
use Rattle.object_plans.specs.Answering.{within_changes, count_fits}
use Rattle.object_plans.specs.Answering.{missing_fits}

module _ (w : World) (now : ℕ) where
  pub dropped_some : (name : Bytes) (c : Channel) → channel_of w name ≡ Some c → effect w now [] (command.Channel (of_channel.Delchan name)) ≡ changes (number 1) (silent (change.DelChan name) ∷ [])
  unfolding effect
  dropped_some name c e = rw e (within_changes (number 1) (silent (change.DelChan name) ∷ []) (count_fits 1 (lit< tt)))

  pub dropped_none : (name : Bytes) → channel_of w name ≡ None → effect w now [] (command.Channel (of_channel.Delchan name)) ≡ within_reply (says (number 0))
  unfolding effect
  dropped_none name e = rw e refl

  pub dropped_each : (pattern : Bytes) → effect w now [] (command.Channel (of_channel.Pdelchan pattern)) ≡ within_reply (changes (number (length (met_channels pattern w.channels))) (drops (met_channels pattern w.channels)))
  unfolding effect
  dropped_each pattern = refl

  pub shown : (pattern : Bytes) → effect w now [] (command.Channel (of_channel.Chans pattern)) ≡ within_reply (says (array (map channel_reply (met_channels pattern w.channels))))
  unfolding effect
  shown pattern = refl

  pub set_until : (c : Channel) (from : Option AreaWords) (after_ex : Option ℕ)
      → effect w now [] (command.Channel (of_channel.Setchan c from after_ex)) ≡ within_reply (set_area w (with_deadline now after_ex c) from)
  unfolding effect
  set_until c from after_ex = refl

-- a channel that is put with its area
module _ (w : World) (c : Channel) where
  pub set_given : (a : Area) → within_reply (set_area w c (Some (area_words.Given a))) ≡ within_reply (setchan_effect w (settled_channel c a []))
  set_given a = refl

  pub set_of : (key id : Bytes) (o : Object) → object_at w key id ≡ Some o → within_reply (set_area w c (Some (area_words.Of key id))) ≡ within_reply (setchan_effect w (settled_channel c (Figure o.shape) (codes "OBJECT" ∷ o.text ∷ [])))
  set_of key id o e = rw e refl

  pub set_none : (key id : Bytes) → object_at w key id ≡ None → within_reply (set_area w c (Some (area_words.Of key id))) ≡ missing w key
  set_none key id e = rw e (missing_fits w key)

-- a channel that is put, by the tests
module _ (w : World) (c : Channel) where
  pub too_many : (is_none (channel_of w c.name) && nat_le max_channels (length w.channels)) ≡ true → within_reply (setchan_effect w c) ≡ within_reply (refuses refusal.TooManyChannels)
  too_many e = rw e refl

  module _ (few : (is_none (channel_of w c.name) && nat_le max_channels (length w.channels)) ≡ false) where
    pub too_heavy : max_weight < weight (after w (change.SetChan c)) → within_reply (setchan_effect w c) ≡ within_reply (refuses refusal.DatabaseFull)
    too_heavy more = let t : fits w (change.SetChan c) ≡ false = grind (arith, nat_tests) in rw (few, t) refl

    pub set : weight (after w (change.SetChan c)) ≤ max_weight → within_reply (setchan_effect w c) ≡ changes (number 1) (silent (change.SetChan c) ∷ [])
    set less = let t : fits w (change.SetChan c) ≡ true = grind (arith, nat_tests) in rw (few, t) (within_changes (number 1) (silent (change.SetChan c) ∷ []) (count_fits 1 (lit< tt)))

-- a channel is sound with a sound area in its place

over_sound : (watch : Watch) (a : Area) → takes_areas watch ≡ true → is_sound_area a ≡ true → is_sound_watch (watch_over watch a) ≡ true
over_sound (Zone Within old) a t s = s
over_sound (Zone Intersects old) a t s = s
over_sound (Zone Near old) a t s = absurd (cc)
over_sound (Roam key pattern meters nodwell) a t s = absurd (cc)

pub settled_sound : (c : Channel) (a : Area) (words : List Bytes) → is_sound_channel c ≡ true → takes_areas c.fence.watch ≡ true → is_sound_area a ≡ true → is_sound_channel (settled_channel c a words) ≡ true
settled_sound c a words sound t s =
    let glob : is_sound_glob c.fence.glob ≡ true = grind arith in
    rw glob (over_sound c.fence.watch a t s)

-- as a SETCHAN gives it

pub given_sound : (c : Channel) (a : Area) (words : List Bytes) → is_sound_setting c (Some (area_words.Given a)) ≡ true → is_sound_channel (settled_channel c a words) ≡ true
given_sound c a words e =
    let sound : is_sound_channel c ≡ true = grind arith in
    let t : takes_areas c.fence.watch ≡ true = grind arith in
    let s : is_sound_area a ≡ true = grind arith in
    settled_sound c a words sound t s

pub figure_sound : (c : Channel) (key id : Bytes) (o : Object) (words : List Bytes) → is_sound_setting c (Some (area_words.Of key id)) ≡ true → is_sound_channel (settled_channel c (Figure o.shape) words) ≡ true
figure_sound c key id o words e =
    let sound : is_sound_channel c ≡ true = grind arith in
    let t : takes_areas c.fence.watch ≡ true = grind arith in
    settled_sound c (Figure o.shape) words sound t refl
