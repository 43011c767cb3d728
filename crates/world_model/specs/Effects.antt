-- Effects: what a command replies, changes and subscribes to, and its refusals in their order.
use Rattle.std.specs.Prelude.{ℕ, Bool, true, false, not, ◌&&◌, nat_le, List, length, if◌then◌else◌}
use Rattle.std.specs.List.{list_all}
use Rattle.byte_text.specs.Replies.{frame_text}
use Rattle.world_data.specs.Limits.{max_reply}
use Rattle.world_model.specs.declared.faults.Refusal.TheVariants as refusal
use Rattle.world_model.specs.Subscriptions.{Sub, has_subs}
use Rattle.world_data.specs.declared.worlds.World.{World}
use Rattle.world_model.specs.declared.commands.Command.{Command}
use Rattle.world_model.specs.declared.commands.Command.TheVariants as command
pub use Rattle.world_model.specs.EffectParts.{Effect, says, changes, refuses, unless, fits, deadline_after, missing, with_object, if_object, resolved}
pub use Rattle.world_model.specs.ObjectEffects.{fields_of, is_kept_back, given_and_cleared, put_effect, changed_count, fset_effect}
pub use Rattle.world_model.specs.ObjectEffects.{deadline_effect, persist_effect, object_effect}
pub use Rattle.world_model.specs.SearchEffects.{rule_over, search_effect}
pub use Rattle.world_model.specs.ChannelEffects.{watch_over, setchan_effect, settled_channel, set_area, with_deadline, channel_effect}
pub use Rattle.world_model.specs.SessionEffects.{subscribe_effect, session_effect}

-- what a command does in a world at a moment, for a session with these subscriptions
abbrev pub command_effect : World → ℕ → List Sub → Command → Effect
command_effect w now held (command.Object c) = object_effect w now c
command_effect w now held (command.Search c) = search_effect w c
command_effect w now held (command.Channel c) = channel_effect w now c
command_effect w now held (command.Session c) = session_effect held c

-- refused where a reply's frame would be too long
abbrev pub within_reply : Effect → Effect
within_reply e = if list_all (λ r. nat_le (length (frame_text r)) max_reply) e.replies then e else refuses refusal.ReplyTooLong

-- a session with subscriptions is served the commands on the session itself
abbrev pub is_served_subscribed : Command → Bool
is_served_subscribed (command.Session c) = true
is_served_subscribed (command.Object c) = false
is_served_subscribed (command.Search c) = false
is_served_subscribed (command.Channel c) = false

-- the effect of a command for a session: one with subscriptions is served the commands on the session alone
unfoldable pub effect : World → ℕ → List Sub → Command → Effect
effect w now held c =
    if has_subs held && not (is_served_subscribed c)
    then refuses refusal.Subscribed
    else within_reply (command_effect w now held c)
