use Rattle.std.proofs.Common.{◌≡◌, take}
use Rattle.world_data.proofs.lists.NameList.copy.Given as goal

-- the list has copies of what was passed
abbrev pub invariant-loop-name : goal.invariant-loop-name
invariant-loop-name l = l.list.items ≡ take l.name-index l.name-items
