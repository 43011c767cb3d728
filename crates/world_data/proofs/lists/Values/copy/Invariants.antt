use Rattle.std.proofs.Common.{◌≡◌, take}
use Rattle.world_data.proofs.lists.Values.copy.Given as goal

-- the list has copies of what was passed
abbrev pub invariant-loop-value : goal.invariant-loop-value
invariant-loop-value l = l.list.items ≡ take l.value-index l.value-items
