use Rattle.std.proofs.Common.{◌≡◌, take}
use Rattle.slab.specs.Slab.{get}
use Rattle.collection.specs.Slotted.{objects_at}
use Rattle.collection.proofs.found_objects.list_found.Given as goal

-- the objects in the first slots are listed
abbrev pub invariant-loop-i : goal.invariant-loop-i
invariant-loop-i l = l.into ≡ objects_at (get l.slots) (take l.i l.numbers)
