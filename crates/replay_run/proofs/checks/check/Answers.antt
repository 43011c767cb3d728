use Rattle.std.proofs.Common.{◌≡◌, ◌⊎◌, ◌∙◌, false, ap, subst, sym, [], ◌∷◌}
use Rattle.outside.specs.Crashes.{LeavesOnly}
use Rattle.outside.specs.Sides.{Sides}
use Rattle.world_model.specs.Halls.{Hall}
use Rattle.log_record.specs.AnswerLaws.{call_failed}
use Rattle.log_record.specs.Recovery.{Recovers}
use Rattle.durable_core.specs.Kept.{settled_log}
use Rattle.durable_core.specs.Logged.{hall_of, disk_of}
use Rattle.durable_core.specs.Written.{Sided}
use Rattle.replay_run.specs.Traces.{opens}
use Rattle.replay_run.specs.Plays.{Retires, retired}
use Rattle.replay_run.specs.Standing.{IsSafeFor}
use Rattle.replay_run.proofs.Playing.{retire_answers}
use Rattle.replay_run.proofs.Reopening.{generation_left, held_as, look_leaves, opening_stands, retires_safe, some_of}
use Rattle.replay_run.proofs.checks.check.Goals as goal

pub returns-in-Ok-clause-found : goal.returns-in-Ok-clause-found
returns-in-Ok-clause-found g c =
    let e = c.in-Ok.ensures in
    let r = c.retire-answer.ensures in
    let old = c.in-Ok.core in
    let new = c.retire-answer.new.self in
    let h = hall_of old in
    let log = settled_log h.world in
    let goes : h.stopped ≡ false = ap (λ (z : Hall). z.stopped) e.hall in (
      h.world,
      h.logged,
      record {
        opens = record { sound = e.sound; recovered = e.recovers; length = e.len };
        objects_are = c.objects-objects.ensures;
        channels_are = c.channels-channels.ensures;
        retires = subst (λ (z : Hall). Retires z c.retire-answer.result) e.hall (record { end = hall_of new; step = r.step });
        fine = retire_answers h (hall_of new) c.retire-answer.result goes r.step;
      },
      record {
        holds = λ is ok.
            let s = some_of (g.D.Disk.seen c.args.disk) is in
            held_as g.D.Disk.seen _ _ _ _ (sym c.into_disk.ensures) r.world (r.left log (λ still. e.log s.0 s.1) ok);
        counted = λ is ok.
            let s = some_of (g.D.Disk.seen c.args.disk) is in
            let k = (e.log s.0 s.1).kept in
            let opened : Sided = record { batches = k.batches; copied = k.copied } in
            generation_left g.D.Disk.crashes g.D.Disk.seen g.D.Disk.images old new c.into_disk.result c.generation-generation.result opened
            k.keeps (r.written ok) c.generation-generation.ensures r.generation c.into_disk.ensures;
        safe = λ s told crash.
            let stands = opening_stands g.D.Disk.crashes g.D.Disk.seen g.D.Disk.images g.D.Disk.moment g.D.Disk.left_since g.D.Disk.faults old (g.D.Disk.moment c.args.disk) _ (e.safe s told crash) e.hall e.sound (e.log s told) (e.told ∙ crash) in
            subst (λ d. IsSafeFor g.D.Disk.images g.D.Disk.left_since d (opens h.world h.logged ∷ retired c.retire-answer.result)) (sym c.into_disk.ensures)
            (retires_safe g.D.Disk.crashes g.D.Disk.seen g.D.Disk.images g.D.Disk.moment g.D.Disk.left_since g.D.Disk.faults (λ d. record { counts_now = g.met.D.Disk.counts_now d; only_now = g.met.D.Disk.only_now d }) old new c.retire-answer.result (opens h.world h.logged ∷ []) stands r.step r.later (λ f. r.cause (call_failed c.retire-answer.result f)) r.log);
        leaves = λ s told crash.
            subst (λ d. LeavesOnly g.D.Disk.moment g.D.Disk.left_since c.args.disk d (λ image. g.D.Disk.images c.args.disk image ⊎ Recovers image h.world)) (sym c.into_disk.ensures)
            (look_leaves g.D.Disk.crashes g.D.Disk.seen g.D.Disk.images g.D.Disk.moment g.D.Disk.left_since g.D.Disk.faults c.args.disk (disk_of old) (disk_of new) s h.world (e.recovers s told) (e.leaves s told crash)
            (((r.log log (λ still. e.log s told)).owes (e.told ∙ crash)).turn.leaves goes));
      },
    )

pub returns-in-Err-clause-back : goal.returns-in-Err-clause-back
returns-in-Err-clause-back g c = record { reads = c.in-Err.ensures.same; leaves = c.in-Err.ensures.leaves }
