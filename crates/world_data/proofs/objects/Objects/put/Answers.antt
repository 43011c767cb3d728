use Rattle.std.proofs.Common.{◌≡◌, true, sym, subst}
use Rattle.ordered_lists.specs.Lists.{put_in}
use Rattle.world_data.specs.Worlds.{are_objects, object_before}
use Rattle.ordered_lists.specs.Ascending.{put_in-set, put_in-insert, ascends-put_in}
use Rattle.ordered_lists.specs.Reading.{either_way, on_ok_as}
use Rattle.world_data.specs.WorldLaws.{object_asym, object_trans, object_tie}
use Rattle.world_data.proofs.objects.Objects.put.Goals as goal

pub returns-in-Ok-clause-ok : goal.returns-in-Ok-clause-ok
returns-in-Ok-clause-ok c =
    let held = rw c.as_slice.ensures.value at c.in-Ok.ensures.held in
    rw (← c.self.view_is) (sym (put_in-set object_before object_asym c.args.object c.self.inside.list.items c.in-Ok.at held.front held.within held.tie))

pub invariant_of-self : goal.invariant_of-self
invariant_of-self c =
    let held = rw c.as_slice.ensures.value at c.in-Ok.ensures.held in
    subst (λ os. are_objects os ≡ true) (put_in-set object_before object_asym c.args.object c.self.inside.list.items c.in-Ok.at held.front held.within held.tie) (ascends-put_in object_before object_trans object_tie c.args.object c.self.inside.list.items c.self.invariant)

pub returns-in-Err-clause-ok : goal.returns-in-Err-clause-ok
returns-in-Err-clause-ok c =
    let free = rw c.as_slice.ensures.value at c.in-Err.ensures.free in
    rw (← c.self.view_is) (on_ok_as _ _ _ _ c.insert_at.ensures.ok (sym (put_in-insert object_before object_asym c.args.object c.self.inside.list.items c.in-Err.at free.front free.behind)))

pub invariant_of-self-in-Err : goal.invariant_of-self-in-Err
invariant_of-self-in-Err c =
    let free = rw c.as_slice.ensures.value at c.in-Err.ensures.free in
    either_way c.insert_at.result c.insert_at.new.list.items (put_in object_before c.args.object c.self.inside.list.items) c.self.inside.list.items (λ os. are_objects os ≡ true)
    (on_ok_as _ _ _ _ c.insert_at.ensures.ok (sym (put_in-insert object_before object_asym c.args.object c.self.inside.list.items c.in-Err.at free.front free.behind))) c.insert_at.ensures.err
    (ascends-put_in object_before object_trans object_tie c.args.object c.self.inside.list.items c.self.invariant) c.self.invariant
