use Rattle.std.proofs.Common.{◌≡◌, take}
use Rattle.slab.specs.Slab.{get}
use Rattle.channel_hub.specs.Hubs.{channels_in}
use Rattle.channel_hub.proofs.due_slots.first_channels.Given as goal

-- the channels in the first slots
abbrev pub invariant-loop-i : goal.invariant-loop-i
invariant-loop-i l = l.channels ≡ channels_in (get l.slots) (take l.i l.dues.items)
