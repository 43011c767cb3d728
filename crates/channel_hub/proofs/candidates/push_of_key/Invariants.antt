use Rattle.std.proofs.Common.{◌≡◌, ◌++◌, take}
use Rattle.std.specs.Prelude.{Some, filter}
use Rattle.fence_model.specs.Messages.{watches}
use Rattle.slab.specs.Slab.{get}
use Rattle.channel_hub.specs.Hubs.{channels_in}
use Rattle.channel_hub.proofs.candidates.push_of_key.Given as goal

-- those of the key in the first slots are appended
abbrev pub invariant-loop-i : goal.invariant-loop-i
invariant-loop-i l = l.into ≡ l.initial.into ++ filter (watches (Some l.key)) (channels_in (get l.slots) (take l.i l.order.items))
