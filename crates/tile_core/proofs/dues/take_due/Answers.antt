use Rattle.std.proofs.Common.{◌≡◌, ◌∙◌, ap, sym, subst, List, length, arith}
use Rattle.std.specs.Prelude.{Ok}
use Rattle.keyspace.specs.Entries.{objects_in}
use Rattle.world_data.specs.declared.objects.Object.{Object}
use Rattle.tile_core.specs.Dues.{IsTaken, HaveRoom}
use Rattle.tile_core.proofs.Taken.{are_few, fewer, taken_more, taken_none}
use Rattle.tile_core.proofs.dues.take_due.Goals as goal

pub loop-gone-smaller : goal.loop-gone-smaller
loop-gone-smaller g c =
    let g = c.loop-gone.gone in
    let new = c.take_next.new.gone in
    let out = c.take_next.ensures.taken (c.in-Ok-true.is ∙ ap Ok c.in-Ok-true.field-0-test) in
    fewer (objects_in c.loop-gone.objects) c.args.now (objects_in c.take_next.new.objects) g.held.items new.held.items g.length new.length g.weight new.weight out

pub loop-gone-preserved : goal.loop-gone-preserved
loop-gone-preserved g c =
    let old = objects_in c.args.objects.now in
    let g = c.loop-gone.gone in
    let new = c.take_next.new.gone in
    let out = c.take_next.ensures.taken (c.in-Ok-true.is ∙ ap Ok c.in-Ok-true.field-0-test) in
    record {
      taken = taken_more old c.args.now c.args.total (objects_in c.loop-gone.objects) g.held.items g.length g.weight c.loop-gone.invariant.taken (objects_in c.take_next.new.objects) new.held.items new.length new.weight out;
      room = c.take_next.ensures.room;
    }

pub put_back-requires-clause-few : goal.put_back-requires-clause-few
put_back-requires-clause-few g c =
    let t : IsTaken (objects_in c.args.objects.now) c.args.now c.args.total (objects_in c.loop-gone.objects) c.loop-gone.gone.held.items c.loop-gone.gone.length c.loop-gone.gone.weight = c.loop-gone.invariant.taken in
    let err = c.in-Err.is in
    let objects : length (objects_in c.take_next.new.objects) ≡ length (objects_in c.loop-gone.objects) = ap length (c.take_next.ensures.stays (λ ok. absurd (cc))) in
    let held : length c.take_next.new.gone.held.items ≡ length c.loop-gone.gone.held.items = ap length (c.take_next.ensures.held (λ ok. absurd (cc))) in
    omega (arith, objects, held, t.count, are_few (objects_in c.args.objects.now) c.args.total c.requires)

pub loop-gone-init : goal.loop-gone-init
loop-gone-init g c =
    let xs = objects_in c.args.objects.now in
    record {
      taken = subst (λ (held : List Object). IsTaken xs c.args.now c.args.total xs held 0 c.args.total) (sym c.new.ensures.items) (taken_none xs c.args.now c.args.total c.requires);
      room = subst (HaveRoom c.args.objects.now) (sym c.new.ensures.items) (λ key. omega arith);
    }
