use Rattle.std.proofs.Common.{◌≡◌, ◌<◌, subst, sym, ◌∙◌, length}
use Rattle.std.specs.Prelude.{Some, slice_get}
use Rattle.collection.specs.Objects.{Held}
use Rattle.collection.specs.IdOrder.{found_held, found_free, left_held, left_free}
use Rattle.collection.proofs.collections.Collection.take_out.Goals as goal

pub take_at-requires : goal.take_at-requires
take_at-requires g c =
    let held = c.in-Ok.ensures.held in
    subst (λ (h : Held). c.in-Ok.at < length h.objects) c.self.view_is held.within

pub returns-in-Ok-clause-objects : goal.returns-in-Ok-clause-objects
returns-in-Ok-clause-objects g c =
    let id = c.args.id.now in
    let items = c.self.inside.objects.objects in
    let at = c.in-Ok.at in
    let held = c.in-Ok.ensures.held in
    c.take_at.ensures.objects ∙ rw (← c.self.view_is) (sym (left_held id items at c.self.invariant held))

pub returns-in-Ok-clause-taken : goal.returns-in-Ok-clause-taken
returns-in-Ok-clause-taken g c =
    let id = c.args.id.now in
    let items = c.self.inside.objects.objects in
    let at = c.in-Ok.at in
    let x = c.take_at.result in
    let held = c.in-Ok.ensures.held in
    let is : slice_get items at ≡ Some x = subst (λ (h : Held). slice_get h.objects at ≡ Some x) (sym c.self.view_is) c.take_at.ensures.taken in
    rw (← c.self.view_is) (sym (found_held id items at x held is))

pub returns-in-Err-clause-objects : goal.returns-in-Err-clause-objects
returns-in-Err-clause-objects g c =
    let id = c.args.id.now in
    let items = c.self.inside.objects.objects in
    let free = c.in-Err.ensures.free in
    rw (← c.self.view_is) (sym (left_free id items c.in-Err.field-0 c.self.invariant free))

pub returns-in-Err-clause-taken : goal.returns-in-Err-clause-taken
returns-in-Err-clause-taken g c =
    let id = c.args.id.now in
    let items = c.self.inside.objects.objects in
    let free = c.in-Err.ensures.free in
    rw (← c.self.view_is) (sym (found_free id items c.in-Err.field-0 c.self.invariant free))
