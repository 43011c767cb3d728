-- Channels whose deadline has come: those that are out, and those that are left.
use Rattle.std.specs.Prelude.{◌≡◌, ◌≤◌, ◌+◌, ℕ, min, Bool, true, false, not, List, [], ◌∷◌, length, filter, Option, Some, None, is_some}
use Rattle.ordered_lists.specs.Lists.{sorted_by}
use Rattle.world_data.specs.declared.channels.Channel.{Channel}
use Rattle.world_data.specs.Expiry.{channel_due_before, is_channel_due}
use Rattle.run_list.specs.Runs.{Sequence}
use Rattle.channel_hub.specs.DuePlaces.{places_out}
use Rattle.channel_hub.specs.Hubs.{Held, ByName}

-- those that are due at a moment, in the order in which they expire, and those that are left then
abbrev pub due_in : ℕ → List Channel → List Channel
due_in now channels = sorted_by channel_due_before (filter (is_channel_due now) channels)

abbrev pub left_at : ℕ → List Channel → List Channel
left_at now channels = filter (λ c. not (is_channel_due now c)) channels

-- the same, where those are out that were due at a moment
abbrev pub is_out : Option ℕ → Channel → Bool
is_out None c = false
is_out (Some now) c = is_channel_due now c

abbrev pub left_of : Option ℕ → List Channel → List Channel
left_of None channels = channels
left_of (Some now) channels = left_at now channels

abbrev pub taken_of : Option ℕ → List Channel → List Channel
taken_of None channels = []
taken_of (Some now) channels = due_in now channels

-- no channel is out
pub record IsSettled (held : Held) : Type 0 where
  pub none : held.taken ≡ []
  pub all : held.every ≡ held.channels
  pub moment : held.out ≡ None

-- what a hub keeps beside all channels: the places of those that are out, with room for all
pub record AreOut (all : ByName) (out : Option ℕ) (gone : Sequence) : Type 0 where
  pub listed : gone.items ≡ places_out out all.channels
  pub fits : length all.channels ≤ length gone.items + gone.spare
  pub more : is_some all.prepared ≡ true → length all.channels + 1 ≤ length gone.items + gone.spare

-- the lesser of two moments, where there are two
abbrev pub earlier : Option ℕ → Option ℕ → Option ℕ
earlier None d = d
earlier (Some a) None = Some a
earlier (Some a) (Some b) = Some (min a b)

-- the least deadline of all
abbrev pub least_due : List Channel → Option ℕ
least_due [] = None
least_due (c ∷ channels) = earlier c.deadline (least_due channels)
