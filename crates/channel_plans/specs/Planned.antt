-- What a request will do in a world of objects and channels, for a session with subscriptions.
use Rattle.std.specs.Prelude.{◌≡◌, ℕ, ◌+◌, ◌≤◌, true, false, not, List, [], ◌∷◌, length, filter, map}
use Rattle.byte_text.specs.Names.{Bytes}
use Rattle.byte_text.specs.Replies.{frame_text}
use Rattle.byte_text.specs.declared.replies.Piece.{Piece}
use Rattle.ordered_lists.specs.Lists.{put_in}
use Rattle.world_data.specs.Limits.{max_reply}
use Rattle.world_data.specs.Sound.{is_sound_channel}
use Rattle.world_data.specs.Worlds.{channel_before, is_named}
use Rattle.world_data.specs.declared.channels.Channel.{Channel}
use Rattle.world_data.specs.declared.worlds.World.{World}
use Rattle.world_data.specs.declared.worlds.Change.TheVariants as change
use Rattle.fence_model.specs.Writes.{Write, silent}
use Rattle.world_model.specs.Effects.{Effect}
use Rattle.world_model.specs.Subscriptions.{Sub, with_subs}
use Rattle.log_record.specs.Words.{IsRecorded}
use Rattle.delivery_model.specs.Plans.{FitBehind}
use Rattle.delivery_model.specs.Staging.{records_len}
use Rattle.session_table.specs.Sessions.{AreSoundSubs}
use Rattle.channel_plans.specs.declared.planned.ChannelChange.{ChannelChange}
use Rattle.channel_plans.specs.declared.planned.ChannelChange.TheVariants.{Set, Drop}
use Rattle.channel_plans.specs.declared.planned.ChannelPlan.{ChannelPlan}
use Rattle.channel_plans.specs.declared.planned.Confirmed.{Confirmed}
use Rattle.channel_plans.specs.declared.planned.Planned.{Planned}
use Rattle.channel_plans.specs.declared.planned.Planned.TheVariants.{Objects, Channels, Subscribed}
use Rattle.object_plans.specs.Beside.{channels_weight, IsPlanBeside}
use Rattle.object_plans.specs.Kept.{most_kept}

-- the channels without those of these names, which go one after another
abbrev pub without_names : List Bytes → List Channel → List Channel
without_names [] channels = channels
without_names (name ∷ names) channels = without_names names (filter (λ c. not (is_named name c)) channels)

-- the channels after what is done to them
abbrev pub channels_moved : ChannelChange → List Channel → List Channel
channels_moved (Set c) channels = put_in channel_before c channels
channels_moved (Drop names) channels = without_names names channels

-- the deletions of the channels of these names
abbrev pub dropped_of : List Bytes → List Write
dropped_of names = map (λ n. silent (change.DelChan n)) names

-- the writes that this is
abbrev pub channel_writes : ChannelChange → List Write
channel_writes (Set c) = silent (change.SetChan c) ∷ []
channel_writes (Drop names) = dropped_of names

-- what is put among the channels is sound
abbrev pub IsSoundMove : ChannelChange → Type 0
IsSoundMove (Set c) = is_sound_channel c ≡ true
IsSoundMove (Drop names) = Unit {0}

-- a channel is read back from its record
abbrev pub IsRecordedChannel : Channel → Type 0
IsRecordedChannel c = IsRecorded (change.SetChan c)

-- so is what is put among the channels
abbrev pub IsRecordedMove : ChannelChange → Type 0
IsRecordedMove (Set c) = IsRecordedChannel c
IsRecordedMove (Drop names) = Unit {0}

-- the plan is that of an effect in a world: one reply, and changes of channels
pub record IsChannelPlan (w : World) (e : Effect) (p : ChannelPlan) : Type 0 where
  pub reply : List Piece
  pub is : e ≡ record { replies = reply ∷ []; subs = []; writes = channel_writes p.action; closes = false }
  pub frame : p.frame ≡ frame_text reply
  pub short : length p.frame ≤ max_reply
  pub sound : IsSoundMove p.action
  pub recorded : IsRecordedMove p.action
  pub length_is : p.length ≡ records_len (channel_writes p.action)
  pub small : p.length ≤ most_kept
  pub weight_is : p.weight ≡ channels_weight (channels_moved p.action w.channels)

-- the plan is that of an effect for a session with these subscriptions: replies, and subscriptions behind those that it has
pub record IsConfirmed (held : List Sub) (e : Effect) (p : Confirmed) : Type 0 where
  pub frames : p.frames.items ≡ map frame_text e.replies
  pub fit : FitBehind (map frame_text e.replies)
  pub subs : p.subs ≡ with_subs held e.subs
  pub sound : AreSoundSubs p.subs
  pub no_writes : e.writes ≡ []
  pub goes_on : e.closes ≡ false

-- the plan is that of an effect in a world, whose objects have this weight, and leaves one that can be kept
abbrev pub IsPlanned : World → ℕ → List Sub → Effect → Planned → Type 0
IsPlanned w total held e (Objects p) = IsPlanBeside w.channels w.objects e p
IsPlanned w total held e (Channels p) = IsChannelPlan w e p × (total + p.weight ≤ most_kept)
IsPlanned w total held e (Subscribed p) = IsConfirmed held e p
