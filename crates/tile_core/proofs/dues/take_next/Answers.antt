use Rattle.std.proofs.Common.{◌+◌, ◌∙◌, ap, sym, List, [], ◌∷◌, ◌++◌, subst, arith}
use Rattle.world_data.specs.Worlds.{is_at}
use Rattle.world_data.specs.declared.objects.Object.{Object}
use Rattle.keyspace.specs.Entries.{objects_in}
use Rattle.tile_core.specs.Dues.{HaveRoom}
use Rattle.record_writer.specs.Lengths.{HasFewFields}
use Rattle.object_plans.specs.Standing.{found_holds}
use Rattle.tile_core.proofs.Taken.{room_more, weighs}
use Rattle.tile_core.proofs.dues.take_next.Goals as goal

pub put_len-requires : goal.put_len-requires
put_len-requires g c = let o = c.in-Some.object in found_holds (is_at o.key o.id) o HasFewFields (objects_in c.args.objects.now) c.in-Some.ensures.taken c.requires.few

pub overflow_sub-gone : goal.overflow_sub-gone
overflow_sub-gone g c = omega (arith, weighs (objects_in c.args.objects.now) c.in-Some.object c.in-Some.ensures.taken, c.put_len.ensures.value, c.requires.rest)

pub returns-clause-taken : goal.returns-clause-taken
returns-clause-taken g c =
    let o = c.in-Some.object in
    let less = weighs (objects_in c.args.objects.now) o c.in-Some.ensures.taken in
    λ is. record {
      object = o;
      first = c.in-Some.ensures.first;
      here = c.in-Some.ensures.taken;
      left = c.in-Some.ensures.objects;
      held_is = c.push_reserved.ensures.items ∙ ap (λ (os : List Object). os ++ o ∷ []) c.reserve.ensures.items;
      length_is = ap (λ n. c.args.gone.now.length + n) c.del_len.ensures.value;
      rest_is = omega (arith, less, c.put_len.ensures.value, c.requires.rest);
    }

pub returns-clause-room : goal.returns-clause-room
returns-clause-room g c =
    let o = c.in-Some.object in
    let held = c.args.gone.now.held.items in
    let items = c.push_reserved.ensures.items ∙ ap (λ (os : List Object). os ++ o ∷ []) c.reserve.ensures.items in
    subst (HaveRoom c.take_due.new.self) (sym items) (room_more c.args.objects.now held o c.take_due.new.self c.requires.room c.in-Some.ensures.kept)
