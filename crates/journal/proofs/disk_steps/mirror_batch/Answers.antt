use Rattle.std.proofs.lemmas.Result.{on_ok_weaker}
use Rattle.outside.specs.Sides.{side_of, other_side}
use Rattle.outside.specs.CrashLaws.{begins}
use Rattle.log_sides.specs.Texts.{StandsFor, committed}
use Rattle.log_sides.specs.Making.{IsShut}
use Rattle.journal.specs.Logs.{HoldsOf}
use Rattle.journal.specs.Standing.{holds_of, shut_behind}
use Rattle.journal.proofs.Steps.{kept_copied, leaves_beside}
use Rattle.journal.proofs.disk_steps.mirror_batch.Goals as goal

pub returns-in-Some-clause-kept : goal.returns-in-Some-clause-kept
returns-in-Some-clause-kept g c side version generation gate batches copied records is all =
    let D = g.D.Disk in
    let r = c.in-Some.new_side in
    let kept = rw c.in-Some.is at all in
    on_ok_weaker c.mirror.result
    (λ grown. kept_copied D.crashes D.seen D.images D.moment D.left_since side version generation gate r c.mirror.new.self batches copied (committed copied records) c.args.disk.now c.mirror.new.disk
    c.mirror.ensures.told c.mirror.ensures.side c.mirror.ensures.generation kept (c.mirror.ensures.either kept.beside.new.shut) grown)
    (c.mirror.ensures.grown copied records is kept.beside.new)

pub returns-in-Some-clause-leaves : goal.returns-in-Some-clause-leaves
returns-in-Some-clause-leaves g c side version generation gate batches copied all told =
    let D = g.D.Disk in
    let r = c.in-Some.new_side in
    let kept = rw c.in-Some.is at all in
    leaves_beside D.crashes D.seen D.images D.moment D.left_since side r.side IsShut (StandsFor version generation batches) (HoldsOf version generation batches) c.args.disk.now c.mirror.new.disk told kept.beside.beside kept.log.safe
    (c.mirror.ensures.either kept.beside.new.shut)
    (λ x stands shut. holds_of x side version generation batches stands (shut_behind generation (side_of x (other_side side)) shut))

pub returns-in-None-clause-leaves : goal.returns-in-None-clause-leaves
returns-in-None-clause-leaves g c side version generation gate batches copied all told =
    let D = g.D.Disk in
    begins D.moment D.left_since c.args.disk.now (HoldsOf version generation batches)
