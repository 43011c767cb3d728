use Rattle.std.proofs.Common.{◌∙◌, ℕ, ap, List, ◌++◌, inl, inr}
use Rattle.std.proofs.lemmas.Result.{on_ok_weaker}
use Rattle.slab.specs.Slab.{get}
use Rattle.rtree.specs.Pairs.{ids_meeting}
use Rattle.planar_geom.specs.Points.{boxes_meet}
use Rattle.collection.proofs.Passing.{found_are, meeting_passing, none_boxed, whole_objects}
use Rattle.collection.proofs.object_lists.ObjectList.met.Goals as goal

pub returns-in-Ok-clause-found : goal.returns-in-Ok-clause-found
returns-in-Ok-clause-found g c =
    let f = get c.self.inside.slots in
    let keys = c.self.inside.keys.items in
    let found = rw c.in-Ok.is at c.search.ensures.ok in
    let is = found ∙ ap (λ (l : List ℕ). l ++ ids_meeting c.args.b c.self.inside.boxes.pairs) c.new-numbers.ensures in
    let passing = meeting_passing f keys c.self.inside.boxes.pairs c.args.b c.search.new.into c.self.invariant.in_tree.boxed is in
    let by_id = rw (← c.self.view_is) at c.requires in
    rw (← c.self.view_is) (on_ok_weaker c.list_found.result (λ o. found_are f (λ b. boxes_meet b c.args.b) keys c.search.new.into c.self.invariant.slotted passing c.list_found.new.into o.moved by_id o.order) c.list_found.ensures)

pub returns-in-Ok-clause-whole : goal.returns-in-Ok-clause-whole
returns-in-Ok-clause-whole g c = rw (← c.self.view_is) (whole_objects (get c.self.inside.slots) c.self.inside.keys.items c.self.invariant.slotted.stored c.self.invariant.in_tree.whole)

pub returns-in-Ok-clause-visits : goal.returns-in-Ok-clause-visits
returns-in-Ok-clause-visits g c =
    let none = none_boxed (get c.self.inside.slots) c.self.inside.keys.items c.self.inside.boxes.pairs c.self.invariant.in_tree.boxed in
    rw (← c.self.view_is) (elim c.search.ensures.root [ inl e ↦ inl (none e) | inr e ↦ inr e ])

pub returns-clause-whole : goal.returns-clause-whole
returns-clause-whole g c = rw (← c.self.view_is) (whole_objects (get c.self.inside.slots) c.self.inside.keys.items c.self.invariant.slotted.stored c.self.invariant.in_tree.whole)

pub returns-clause-visits : goal.returns-clause-visits
returns-clause-visits g c =
    let none = none_boxed (get c.self.inside.slots) c.self.inside.keys.items c.self.inside.boxes.pairs c.self.invariant.in_tree.boxed in
    rw (← c.self.view_is) (elim c.search.ensures.root [ inl e ↦ inl (none e) | inr e ↦ inr e ])
