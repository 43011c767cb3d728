-- What is said of the fence that words ask for.
use Rattle.std.proofs.Common.{◌≡◌, ℕ, Bool, true, false, ◌&&◌, refl}
use Rattle.std.specs.Prelude.{Option, Some, None, IfSome, is_none, if◌then◌else◌}
use Rattle.byte_text.specs.Names.{Bytes}
use Rattle.byte_text.specs.Globs.{is_sound_glob}
use Rattle.fence_model.specs.Fences.{roams_over}
use Rattle.world_data.specs.Sound.{is_sound_area, is_sound_channel, is_sound_watch}
use Rattle.world_data.specs.declared.channels.Channel.{Channel}
use Rattle.world_model.specs.Sound.{IsSoundCommand, takes_areas}
use Rattle.world_model.specs.declared.channel_commands.ChannelCommand.{ChannelCommand}
use Rattle.world_model.specs.declared.search_commands.AreaWords.{AreaWords}
use Rattle.world_model.specs.declared.search_commands.AreaWords.TheVariants.{Given}
use Rattle.world_model.specs.declared.commands.Command.{Command}
use Rattle.world_model.specs.declared.commands.Command.TheVariants as command
use Rattle.world_model.specs.declared.channel_commands.ChannelCommand.TheVariants as of_channel
use Rattle.log_record.specs.Words.{settled, until}
use Rattle.fence_backtest.specs.Requests.{zone_of}

both : (a b : Bool) → (a && b) ≡ true → a ≡ true
both true b e = refl
both false b e = absurd (cc e)

none_is : (o : Option Bytes) (t : Bool) → is_none o ≡ t → t ≡ true → o ≡ None
none_is None t e f = refl
none_is (Some key) t e f = absurd (cc (e, f))

by_watch : (c : Channel) (t : Bool) → is_none (roams_over c.fence.watch) ≡ t → is_sound_channel c ≡ true
    → IfSome (if t then Some c else None) (λ d. (is_sound_glob d.fence.glob ≡ true) × (roams_over d.fence.watch ≡ None))
by_watch c true e sound = (both (is_sound_glob c.fence.glob) (is_sound_watch c.fence.watch) sound, none_is (roams_over c.fence.watch) true e refl)
by_watch c false e sound = tt

pub zone_is_sound : (c : Command) → IsSoundCommand c → IfSome (zone_of (settled None (Some c))) (λ d. (is_sound_glob d.fence.glob ≡ true) × (roams_over d.fence.watch ≡ None))
zone_is_sound (command.Channel (of_channel.Setchan c None after_ex)) sound = by_watch (until None c) (is_none (roams_over c.fence.watch)) refl sound
zone_is_sound (command.Channel (of_channel.Setchan c (Some (Given a)) after_ex)) sound =
    by_watch (until None c) (is_none (roams_over c.fence.watch)) refl (both (is_sound_channel c) (is_sound_area a && takes_areas c.fence.watch) sound)
zone_is_sound c sound = tt

-- another command on channels sets none
pub other_command : (c : ChannelCommand) → ((channel : Channel) (area : Option AreaWords) (after_ex : Option ℕ) → c ≡ of_channel.Setchan channel area after_ex → ⊥) → zone_of (settled None (Some (command.Channel c))) ≡ None
other_command (of_channel.Setchan channel area after_ex) other = absurd (other channel area after_ex refl)
other_command c other = refl
