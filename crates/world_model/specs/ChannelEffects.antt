-- What the commands on channels do.
use Rattle.std.specs.Prelude.{ℕ, not, ◌&&◌, nat_le, List, [], ◌∷◌, ◌++◌, length, filter, map, Option, Some, None, is_some, is_none, if◌then◌else◌}
use Rattle.byte_text.specs.Names.{Bytes}
use Rattle.byte_text.specs.Globs.{glob_meets}
use Rattle.byte_text.specs.Replies.{array, number}
use Rattle.planar_geom.specs.declared.shapes.Area.{Area}
use Rattle.world_data.specs.Limits.{max_channels}
use Rattle.world_data.specs.Worlds.{channel_of}
use Rattle.fence_model.specs.Writes.{silent}
use Rattle.world_model.specs.declared.faults.Refusal.TheVariants as refusal
use Rattle.world_model.specs.Replies.{channel_reply}
use Rattle.world_data.specs.declared.worlds.World.{World}
use Rattle.world_data.specs.declared.worlds.Change.TheVariants as change
use Rattle.world_data.specs.declared.channels.Channel.{Channel}
use Rattle.world_data.specs.declared.channels.Watch.{Watch}
use Rattle.world_data.specs.declared.channels.Watch.TheVariants.{Zone, Roam}
use Rattle.world_model.specs.declared.search_commands.AreaWords.{AreaWords}
use Rattle.world_model.specs.declared.channel_commands.ChannelCommand.{ChannelCommand}
use Rattle.world_model.specs.declared.channel_commands.ChannelCommand.TheVariants as of_channel
use Rattle.world_model.specs.EffectParts.{Effect, says, changes, refuses, unless, fits, resolved, deadline_after}

-- the watch with the area in its place
abbrev pub watch_over : Watch → Area → Watch
watch_over (Zone kind old) a = Zone kind a
watch_over (Roam key pattern meters nodwell) a = Roam key pattern meters nodwell

abbrev pub setchan_effect : World → Channel → Effect
setchan_effect w c = unless (
    (is_none (channel_of w c.name) && nat_le max_channels (length w.channels), refuses refusal.TooManyChannels) ∷
    (not (fits w (change.SetChan c)), refuses refusal.DatabaseFull) ∷ [])
    (changes (number 1) (silent (change.SetChan c) ∷ []))

-- the channel with the area and the area's words in their places
abbrev pub settled_channel : Channel → Area → List Bytes → Channel
settled_channel c a words = record c { fence = record c.fence { watch = watch_over c.fence.watch a }; words = c.words ++ words }

-- SETCHAN over the area that its words name
abbrev pub set_area : World → Channel → Option AreaWords → Effect
set_area w c None = setchan_effect w c
set_area w c (Some from) = resolved w from (λ a words. setchan_effect w (settled_channel c a words))

-- the channel with the deadline that EX gives
abbrev pub with_deadline : ℕ → Option ℕ → Channel → Channel
with_deadline now after_ex c = record c { deadline = deadline_after now after_ex }

-- what a command on channels does in a world at a moment
abbrev pub channel_effect : World → ℕ → ChannelCommand → Effect
channel_effect w now (of_channel.Setchan c from after_ex) = set_area w (with_deadline now after_ex c) from
channel_effect w now (of_channel.Delchan name) = if is_some (channel_of w name) then changes (number 1) (silent (change.DelChan name) ∷ [])
    else says (number 0)
channel_effect w now (of_channel.Pdelchan glob) = let gone = filter (λ c. glob_meets glob c.name) w.channels in
    changes (number (length gone)) (map (λ c. silent (change.DelChan c.name)) gone)
channel_effect w now (of_channel.Chans glob) = says (array (map channel_reply (filter (λ c. glob_meets glob c.name) w.channels)))
