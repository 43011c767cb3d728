use Rattle.std.proofs.Common.{◌≡◌, ◌++◌, take}
use Rattle.std.specs.Prelude.{filter_map}
use Rattle.slab.specs.Slab.{get}
use Rattle.channel_hub.proofs.candidates.push_slots.Given as goal

-- the channels in the first slots are appended
abbrev pub invariant-loop-i : goal.invariant-loop-i
invariant-loop-i l = l.into ≡ l.initial.into ++ filter_map (get l.slots) (take l.i l.numbers)
