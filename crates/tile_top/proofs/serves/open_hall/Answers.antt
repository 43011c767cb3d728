use Rattle.std.proofs.Common.{◌≤◌, ◌∙◌, refl, sym, ap, subst}
use Rattle.std.specs.Prelude.{min}
use Rattle.outside.specs.Causes.{most_count}
use Rattle.world_model.specs.Seats.{Knows}
use Rattle.durable_core.specs.Logged.{disk_of}
use Rattle.replay_run.specs.BackLaws.{given_up}
use Rattle.shared_hall.specs.Cores.{IsOpenedOn}
use Rattle.shared_hall.specs.OpeningLaws.{is_opened_on}
use Rattle.tile_top.specs.Fronts.{IsFirst}
use Rattle.tile_top.proofs.Fronting.{count_later, opened_as}
use Rattle.tile_top.proofs.serves.open_hall.Goals as goal

pub new-requires : goal.new-requires
new-requires g c = subst (IsOpenedOn g.D.Disk.crashes g.D.Disk.seen g.D.Disk.images g.D.Disk.moment g.D.Disk.left_since g.D.Disk.faults c.in-Ok.core) (sym c.of-handed.ensures)
    (is_opened_on g.D.Disk.crashes g.D.Disk.seen g.D.Disk.images g.D.Disk.moment g.D.Disk.left_since g.D.Disk.faults c.in-Ok.core c.args.disk
    c.in-Ok.ensures.hall c.in-Ok.ensures.sound c.in-Ok.ensures.told c.in-Ok.ensures.log c.in-Ok.ensures.safe c.in-Ok.ensures.grown c.in-Ok.ensures.leaves_grown)

pub returns-in-Ok-new-clause-first : goal.returns-in-Ok-new-clause-first
returns-in-Ok-new-clause-first g c =
    let e = c.in-Ok.ensures in
    subst (IsFirst (g.D.Disk.seen c.args.disk)) (sym c.in-Ok-new.ensures.knows) (record {
      opens = record { sound = e.sound; recovered = e.recovers; length = e.len };
      unseen = refl;
      unmade = refl;
      front = refl;
    })

pub returns-in-Ok-new-clause-begun : goal.returns-in-Ok-new-clause-begun
returns-in-Ok-new-clause-begun g c = subst (λ (k : Knows). min (g.D.Disk.faults c.args.disk) most_count ≤ k.opening.count) (sym c.in-Ok-new.ensures.knows)
    (count_later (g.D.Disk.faults c.args.disk) _ c.in-Ok.ensures.later)

pub returns-in-Ok-new-clause-writing : goal.returns-in-Ok-new-clause-writing
returns-in-Ok-new-clause-writing g c s told =
    let e = c.in-Ok.ensures in
    opened_as _ c.in-Ok.core s c.in-Ok-new.ensures.opened e.idle (e.generation s told)

pub returns-in-Err-new-clause-back : goal.returns-in-Err-new-clause-back
returns-in-Err-new-clause-back g c =
    let e = c.in-Ok.ensures in
    given_up g.D.Disk.crashes g.D.Disk.seen g.D.Disk.images g.D.Disk.moment g.D.Disk.left_since c.args.disk _ c.in-Ok.core _ (c.into_disk.ensures ∙ ap disk_of c.in-Err-new.ensures.back) refl e.log e.recovers e.leaves

pub returns-in-Err-clause-back : goal.returns-in-Err-clause-back
returns-in-Err-clause-back g c = record { reads = c.in-Err.ensures.same; leaves = c.in-Err.ensures.leaves }
