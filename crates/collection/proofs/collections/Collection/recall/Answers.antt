use Rattle.collection.specs.IdOrder.{found_held, found_free}
use Rattle.collection.proofs.collections.Collection.recall.Goals as goal

pub returns-in-Ok-clause-some : goal.returns-in-Ok-clause-some
returns-in-Ok-clause-some c =
    let id = c.args.id.now in
    let items = c.self.inside.objects.objects in
    let at = c.in-Ok.at in
    let x = c.at.result.now in
    let held = c.in-Ok.ensures.held in
    let is = c.at.ensures in
    rw (← c.self.view_is) (found_held id items at x held is)

pub returns-in-Err-clause-none : goal.returns-in-Err-clause-none
returns-in-Err-clause-none c =
    let id = c.args.id.now in
    let items = c.self.inside.objects.objects in
    let free = c.in-Err.ensures.free in
    rw (← c.self.view_is) (found_free id items c.in-Err.field-0 c.self.invariant free)
