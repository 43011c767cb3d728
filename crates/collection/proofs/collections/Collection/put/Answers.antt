use Rattle.std.proofs.Common.{◌≡◌, true, subst, sym, ◌∙◌, List}
use Rattle.std.specs.List.{list_any}
use Rattle.world_data.specs.declared.objects.Object.{Object}
use Rattle.collection.specs.Objects.{Held, are_by_id, has_id, has_room}
use Rattle.collection.specs.IdOrder.{found_held, found_free, put_held, put_free, put_by_id}
use Rattle.collection.proofs.Rooms.{none_any, room_left}
use Rattle.collection.proofs.collections.Collection.put.Goals as goal

pub exchange-requires-clause-by_id : goal.exchange-requires-clause-by_id
exchange-requires-clause-by_id g c =
    let items = c.self.inside.objects.objects in
    let x = c.args.object in
    subst (λ (l : List Object). are_by_id l ≡ true) (sym (put_held x items c.in-Ok.at c.in-Ok.ensures.held)) (put_by_id x items c.self.invariant)

pub invariant_of-self : goal.invariant_of-self
invariant_of-self g c =
    let items = c.self.inside.objects.objects in
    let x = c.args.object in
    let made = c.exchange.ensures.objects ∙ put_held x items c.in-Ok.at c.in-Ok.ensures.held in
    subst (λ (l : List Object). are_by_id l ≡ true) (sym made) (put_by_id x items c.self.invariant)

pub insert-requires-clause-room : goal.insert-requires-clause-room
insert-requires-clause-room g c =
    let id = c.args.object.id in
    let items = c.self.inside.objects.objects in
    let free = c.in-Err.ensures.free in
    let none = none_any (has_id id) items (found_free id items c.in-Err.at c.self.invariant free) in
    let room = subst (λ (h : Held). has_room h id ≡ true) (sym c.self.view_is) c.requires in
    room_left c.self.inside.objects.spare (list_any (has_id id) items) room none

pub insert-requires-clause-by_id : goal.insert-requires-clause-by_id
insert-requires-clause-by_id g c =
    let items = c.self.inside.objects.objects in
    let x = c.args.object in
    subst (λ (l : List Object). are_by_id l ≡ true) (sym (put_free x items c.in-Err.at c.in-Err.ensures.free)) (put_by_id x items c.self.invariant)

pub invariant_of-self-in-Err : goal.invariant_of-self-in-Err
invariant_of-self-in-Err g c =
    let items = c.self.inside.objects.objects in
    let x = c.args.object in
    let made = c.insert.ensures.objects ∙ put_free x items c.in-Err.at c.in-Err.ensures.free in
    subst (λ (l : List Object). are_by_id l ≡ true) (sym made) (put_by_id x items c.self.invariant)

pub returns-in-Ok-clause-objects : goal.returns-in-Ok-clause-objects
returns-in-Ok-clause-objects g c = rw (← c.self.view_is) (c.exchange.ensures.objects ∙ put_held c.args.object c.self.inside.objects.objects c.in-Ok.at c.in-Ok.ensures.held)

pub returns-in-Ok-clause-replaced : goal.returns-in-Ok-clause-replaced
returns-in-Ok-clause-replaced g c =
    let id = c.args.object.id in
    let items = c.self.inside.objects.objects in
    let x = c.exchange.result in
    let held = c.in-Ok.ensures.held in
    let is = c.exchange.ensures.taken in
    rw (← c.self.view_is) (sym (found_held id items c.in-Ok.at x held is))

pub returns-in-Err-clause-objects : goal.returns-in-Err-clause-objects
returns-in-Err-clause-objects g c = rw (← c.self.view_is) (c.insert.ensures.objects ∙ put_free c.args.object c.self.inside.objects.objects c.in-Err.at c.in-Err.ensures.free)

pub returns-in-Err-clause-replaced : goal.returns-in-Err-clause-replaced
returns-in-Err-clause-replaced g c =
    let id = c.args.object.id in
    let items = c.self.inside.objects.objects in
    let free = c.in-Err.ensures.free in
    rw (← c.self.view_is) (sym (found_free id items c.in-Err.at c.self.invariant free))
