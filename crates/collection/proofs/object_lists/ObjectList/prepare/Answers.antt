use Rattle.std.proofs.Common.{arith}
use Rattle.slab.specs.Slab.{get}
use Rattle.collection.proofs.Dues.{dues_fit}
use Rattle.collection.proofs.object_lists.ObjectList.prepare.Goals as goal

pub overflow_sub-len : goal.overflow_sub-len
overflow_sub-len c =
    let f = get c.self.inside.slots in
    let fit = dues_fit f c.self.inside.keys.items c.self.inside.dues.items c.self.invariant.expiring in
    rw (c.len.ensures.count, c.len-2.ensures.count, c.reserve-3.ensures.items) (omega (arith, fit))
