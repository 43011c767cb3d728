use Rattle.std.proofs.Common.{◌≡◌, take}
use Rattle.planar_geom.proofs.lists.Parts.copy.Given as goal

-- the list has copies of what was passed
abbrev pub invariant-loop-part : goal.invariant-loop-part
invariant-loop-part l = l.list.items ≡ take l.part-index l.part-items
