-- Expiry: the objects and channels whose deadline has come.
use Rattle.std.specs.Prelude.{ℕ, Bool, not, ◌&&◌, ◌||◌, ◌==◌, nat_lt, nat_le, List, [], ◌∷◌, ◌++◌, filter, map, Option, Some, None, is_some}
use Rattle.byte_text.specs.Names.{same, before}
use Rattle.ordered_lists.specs.Lists.{sorted_by}
use Rattle.world_data.specs.declared.channels.Channel.{Channel}
use Rattle.world_data.specs.declared.objects.Object.{Object}
use Rattle.world_data.specs.declared.worlds.Change.{Change}
use Rattle.world_data.specs.declared.worlds.Change.TheVariants.{Del, DelChan}
use Rattle.world_data.specs.declared.worlds.World.{World}

abbrev pub deadline_of : Option ℕ → ℕ
deadline_of None = 0
deadline_of (Some d) = d

-- there is a deadline, and it is at most now
abbrev pub has_come : ℕ → Option ℕ → Bool
has_come now deadline = is_some deadline && nat_le (deadline_of deadline) now

abbrev pub is_due : ℕ → Object → Bool
is_due now o = has_come now o.deadline

abbrev pub is_channel_due : ℕ → Channel → Bool
is_channel_due now c = has_come now c.deadline

-- by deadline, then key, then id
abbrev pub due_before : Object → Object → Bool
due_before o p = nat_lt (deadline_of o.deadline) (deadline_of p.deadline)
    || (deadline_of o.deadline == deadline_of p.deadline && (before o.key p.key || (same o.key p.key && before o.id p.id)))

-- by deadline, then name
abbrev pub channel_due_before : Channel → Channel → Bool
channel_due_before c d = nat_lt (deadline_of c.deadline) (deadline_of d.deadline)
    || (deadline_of c.deadline == deadline_of d.deadline && before c.name d.name)

-- the objects that are due, and the channels, each in that order
abbrev pub due_objects : World → ℕ → List Object
due_objects w now = sorted_by due_before (filter (is_due now) w.objects)

abbrev pub due_channels : World → ℕ → List Channel
due_channels w now = sorted_by channel_due_before (filter (is_channel_due now) w.channels)

-- the channel's deadline lies before the object's, so it goes first; at one deadline the object does
abbrev pub goes_before : Object → Channel → Bool
goes_before o c = nat_lt (deadline_of c.deadline) (deadline_of o.deadline)

abbrev pub deletions : List Channel → List Change
deletions channels = map (λ c. DelChan c.name) channels

-- these objects and channels deleted, by deadline
abbrev pub in_turn : List Object → List Channel → List Change
in_turn [] channels = deletions channels
in_turn (o ∷ objects) channels = deletions (filter (goes_before o) channels)
    ++ Del o.key o.id ∷ in_turn objects (filter (λ c. not (goes_before o c)) channels)

-- what is deleted at a moment, in order
abbrev pub expired : World → ℕ → List Change
expired w now = in_turn (due_objects w now) (due_channels w now)
