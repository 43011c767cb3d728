-- What a write raises, staged for the sessions: in the world before it, and behind what other writes brought.
use Rattle.std.specs.Prelude.{◌≡◌, ℕ, Bool, not, ◌&&◌, nat_lt, List, [], ◌∷◌, ◌++◌, filter, Option, Some, is_some, if◌then◌else◌}
use Rattle.world_data.specs.Expiry.{deadline_of}
use Rattle.world_data.specs.Worlds.{object_at}
use Rattle.world_data.specs.declared.objects.Object.{Object}
use Rattle.world_data.specs.declared.channels.Channel.{Channel}
use Rattle.world_data.specs.declared.worlds.World.{World}
use Rattle.world_data.specs.declared.worlds.Change.{Change}
use Rattle.fence_model.specs.Messages.{Message, messages}
use Rattle.fence_model.specs.Writes.{Write}
use Rattle.channel_hub.specs.MessageLaws.{messages_on}
use Rattle.delivery_model.specs.Staging.{after_all}
use Rattle.session_table.specs.Sessions.{State}
use Rattle.session_table.specs.Fans.{AreBrought, HaveStaged}

-- all that the write raises is staged for the sessions that hear it, in each world before it that is such a one; and behind writes that lead
-- to such a world, where what they bring was staged, what they bring and this one brings is
pub record IsStagedIn (IsSuch : World → Type 0) (d : Write) (old new : List State) : Type 0 where
  pub brought : (w : World) → IsSuch w → AreBrought (messages w d) old new
  pub behind : (w : World) (writes : List Write) → IsSuch (after_all w writes) → HaveStaged w writes old → HaveStaged w (writes ++ d ∷ []) new

-- the channel has a deadline before this moment, by which it has gone
abbrev pub is_gone : ℕ → Channel → Bool
is_gone before c = is_some c.deadline && nat_lt (deadline_of c.deadline) before

-- those that have not
abbrev pub those_left : ℕ → List Channel → List Channel
those_left before channels = filter (λ c. not (is_gone before c)) channels

-- what a change raises on a channel that has not gone by then
abbrev pub messages_by : ℕ → World → Change → Channel → List Message
messages_by before w change c = if is_gone before c then [] else messages_on w change c

-- a world with these channels and objects, the old one among them, or none of the key and id of the new one
pub record IsBeforePut (channels : List Channel) (objects : List Object) (old : Option Object) (new : Object) (w : World) : Type 0 where
  pub channels_are : w.channels ≡ channels
  pub objects_are : w.objects ≡ objects
  pub stands : object_at w new.key new.id ≡ old

-- a world with these channels, and the object among its objects, whatever the others are
pub record IsBeforeDel (channels : List Channel) (old : Object) (w : World) : Type 0 where
  pub channels_are : w.channels ≡ channels
  pub stands : object_at w old.key old.id ≡ Some old

-- a world with these channels, whatever its objects are
abbrev pub IsBeforeDrop : List Channel → World → Type 0
IsBeforeDrop channels w = w.channels ≡ channels
