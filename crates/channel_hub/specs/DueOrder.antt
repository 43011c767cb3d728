-- Slots of channels that have a deadline, in the order in which the channels expire.
use Rattle.std.specs.Prelude.{ℕ, Bool, true, false, List, filter, Option, Some, None, is_some, if◌then◌else◌}
use Rattle.ordered_lists.specs.Lists.{insert_by, sorted_by}
use Rattle.world_data.specs.declared.channels.Channel.{Channel}
use Rattle.world_data.specs.Expiry.{channel_due_before, is_channel_due}

-- a channel is there, and has a deadline
abbrev pub has_deadline : Option Channel → Bool
has_deadline None = false
has_deadline (Some c) = is_some c.deadline

-- a channel is there, and is due
abbrev pub has_come_in : ℕ → Option Channel → Bool
has_come_in now None = false
has_come_in now (Some c) = is_channel_due now c

-- what a slot has expires before what another has; nothing stands behind all
abbrev pub slot_due_before : Option Channel → Option Channel → Bool
slot_due_before None d = false
slot_due_before (Some c) None = true
slot_due_before (Some c) (Some d) = channel_due_before c d

-- the order of slots by what they have
abbrev pub due_order : (ℕ → Option Channel) → ℕ → ℕ → Bool
due_order slots s t = slot_due_before (slots s) (slots t)

-- of these slots those of channels that have a deadline, in the order in which these expire
abbrev pub dues_of : (ℕ → Option Channel) → List ℕ → List ℕ
dues_of slots order = sorted_by (due_order slots) (filter (λ s. has_deadline (slots s)) order)

-- a slot put among such slots, where its channel has a deadline
abbrev pub with_due : (ℕ → Option Channel) → ℕ → List ℕ → List ℕ
with_due slots slot dues = if has_deadline (slots slot) then insert_by (due_order slots) slot dues else dues

-- the channels that have a deadline, in the order in which they expire
abbrev pub expiring : List Channel → List Channel
expiring channels = sorted_by channel_due_before (filter (λ c. is_some c.deadline) channels)
