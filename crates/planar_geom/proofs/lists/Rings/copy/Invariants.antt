use Rattle.std.proofs.Common.{◌≡◌, take}
use Rattle.planar_geom.proofs.lists.Rings.copy.Given as goal

-- the list has copies of what was passed
abbrev pub invariant-loop-ring : goal.invariant-loop-ring
invariant-loop-ring l = l.list.items ≡ take l.ring-index l.ring-items
