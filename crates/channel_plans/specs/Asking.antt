-- What a command on channels keeps to.
use Rattle.std.specs.Prelude.{◌≡◌, ℕ, true}
use Rattle.byte_text.specs.Globs.{is_well_formed}
use Rattle.world_model.specs.Sound.{is_sound_setting}
use Rattle.world_model.specs.declared.channel_commands.ChannelCommand.{ChannelCommand}
use Rattle.world_model.specs.declared.channel_commands.ChannelCommand.TheVariants as of_channel
use Rattle.channel_plans.specs.Settings.{IsRecordableAt}

-- a channel that is set is sound and has a record, at whatever moment that is, and patterns are well formed
abbrev pub IsAsked : ChannelCommand → Type 0
IsAsked (of_channel.Setchan c from after_ex) = (is_sound_setting c from ≡ true) × ((now : ℕ) → IsRecordableAt now after_ex c from)
IsAsked (of_channel.Delchan name) = Unit {0}
IsAsked (of_channel.Pdelchan pattern) = is_well_formed pattern ≡ true
IsAsked (of_channel.Chans pattern) = is_well_formed pattern ≡ true
