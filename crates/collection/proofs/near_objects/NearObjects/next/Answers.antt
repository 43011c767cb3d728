use Rattle.std.proofs.Common.{refl, ap}
use Rattle.std.specs.Prelude.{Bool, nat_eq}
use Rattle.slab.specs.Slab.{get}
use Rattle.planar_geom.specs.Points.{Bounds, Point, box_dist2}
use Rattle.collection.specs.Nearing.{Nearing}
use Rattle.collection.specs.Slotted.{objects_at}
use Rattle.collection.proofs.Nearest.{next_farther, next_passing, next_left, next_least, next_some, none_farther, not_given_up}
use Rattle.collection.proofs.Passing.{found_are, found_many}
use Rattle.collection.proofs.near_objects.NearObjects.next.Goals as goal

pub invariant_of-self-in-Some : goal.invariant_of-self-in-Some
invariant_of-self-in-Some g c =
    let w = c.self.inside.walk in
    let going = not_given_up w.given_up c.in-Ok.ensures.from_then_on in
    let nearest = rw c.in-Some.is at c.in-Ok.ensures.ok in
    record {
      slotted = c.self.invariant.slotted;
      by_id = c.self.invariant.by_id;
      left = λ up. rw c.next.ensures.from (next_left (get c.self.inside.slots.now) c.self.inside.keys.now.items w.from c.self.inside.given w.left c.next.new.self.left (c.self.invariant.left going) c.in-Some.distance c.clear.new.self c.next.new.into nearest);
    }

pub invariant_of-self-in_err-list_found-in-Some : goal.invariant_of-self-in_err-list_found-in-Some
invariant_of-self-in_err-list_found-in-Some g c =
    let w = c.self.inside.walk in
    let going = not_given_up w.given_up c.in-Ok.ensures.from_then_on in
    let nearest = rw c.in-Some.is at c.in-Ok.ensures.ok in
    record {
      slotted = c.self.invariant.slotted;
      by_id = c.self.invariant.by_id;
      left = λ up. rw c.next.ensures.from (next_left (get c.self.inside.slots.now) c.self.inside.keys.now.items w.from c.self.inside.given w.left c.next.new.self.left (c.self.invariant.left going) c.in-Some.distance c.clear.new.self c.next.new.into nearest);
    }

pub returns-in_ok-list_found-in-Some-clause-ok : goal.returns-in_ok-list_found-in-Some-clause-ok
returns-in_ok-list_found-in-Some-clause-ok g c =
    let w = c.self.inside.walk in
    let f = get c.self.inside.slots.now in
    let keys = c.self.inside.keys.now.items in
    let going = not_given_up w.given_up c.in-Ok.ensures.from_then_on in
    let left = c.self.invariant.left going in
    let d = c.in-Some.distance in
    let nearest = rw c.in-Some.is at c.in-Ok.ensures.ok in
    let numbers = c.next.new.into in
    let passing = next_passing f keys w.from c.self.inside.given w.left c.next.new.self.left left d c.clear.new.self numbers nearest c.clear.ensures in
    let o = c.in_ok-list_found-in-Some.ensures in
    let test : Bounds → Bool = λ b. nat_eq (box_dist2 w.from b) d in
    rw (← c.self.view_is) (record {
      farther = next_farther f keys w.from c.self.inside.given w.left c.next.new.self.left left d c.clear.new.self numbers nearest;
      least = next_least f keys w.from c.self.inside.given w.left c.next.new.self.left left d c.clear.new.self numbers nearest c.self.invariant.slotted.stored;
      listed = found_are f test keys numbers c.self.invariant.slotted passing c.list_found.new.into o.moved c.self.invariant.by_id o.order;
      some = next_some d w.from w.left c.next.new.self.left numbers c.list_found.new.into (found_many f test keys numbers c.self.invariant.slotted passing c.list_found.new.into o.moved) (rw c.clear.ensures at nearest);
      given = refl;
    })

pub returns-in-None-clause-ok : goal.returns-in-None-clause-ok
returns-in-None-clause-ok g c =
    let w = c.self.inside.walk in
    let f = get c.self.inside.slots.now in
    let keys = c.self.inside.keys.now.items in
    let going = not_given_up w.given_up c.in-Ok.ensures.from_then_on in
    let none = rw c.in-None.is at c.in-Ok.ensures.ok in
    let old : Nearing = record { objects = objects_at f keys; from = w.from; given = c.self.inside.given } in
    rw (← c.self.view_is) (none_farther f keys w.from c.self.inside.given w.left c.self.invariant.slotted.stored (c.self.invariant.left going) none.0, ap (λ (p : Point). record old { from = p }) c.next.ensures.from)
