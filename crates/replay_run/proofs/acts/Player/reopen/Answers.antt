use Rattle.std.proofs.Common.{◌≤◌, List, [], subst, sym}
use Rattle.outside.specs.Causes.{Rose}
use Rattle.log_sides.specs.Texts.{newest}
use Rattle.durable_core.specs.HistoryLaws.{writing_is}
use Rattle.durable_core.specs.Logged.{hall_of, disk_of}
use Rattle.replay_run.specs.declared.readers.Reader.{Reader}
use Rattle.replay_run.specs.Scripts.{Reopens}
use Rattle.replay_run.specs.Players.{played}
use Rattle.replay_run.proofs.Playing.{not_ok}
use Rattle.replay_run.proofs.Reopening.{unretired, unopened_again, opened_again}
use Rattle.replay_run.proofs.acts.Player.reopen.Goals as goal

pub returns-in-Ok-open-clause-again : goal.returns-in-Ok-open-clause-again
returns-in-Ok-open-clause-again g c =
    let e = c.in-Ok.ensures in
    let o = c.in-Ok-open.ensures in
    let r = opened_again g.D.Disk.crashes g.D.Disk.seen g.D.Disk.images g.D.Disk.moment g.D.Disk.left_since g.D.Disk.faults (λ d. record { counts_now = g.met.D.Disk.counts_now d; only_now = g.met.D.Disk.only_now d }) c.args.self.core c.retire-answer.new.self c.in-Ok-open.core c.into_disk-disk.result c.args.self.readers.items c.into_disk-disk.ensures e.step e.later e.told e.log e.left
    g.met.D.Disk.as_read (λ s h. c.held_batches_are_recovered.ensures.held newest [] s tt h) o.leaves o.hall o.sound o.recovers o.log o.safe o.told o.later (writing_is c.retire-answer.new.self _ _ e.rewriting e.generation) e.found o.idle o.generation in
    (r.0, λ told logs. subst (λ (rs : List Reader). Reopens told (played c.args.self) r.0 (record { hall = hall_of c.in-Ok-open.core; readers = rs })) (sym c.new.ensures.items) (r.1 told logs), r.2)

pub returns-in-Ok-clause-failed : goal.returns-in-Ok-clause-failed
returns-in-Ok-clause-failed g c =
    let e = c.in-Ok.ensures in
    unopened_again g.D.Disk.crashes g.D.Disk.seen g.D.Disk.images g.D.Disk.moment g.D.Disk.left_since g.D.Disk.faults (λ d. record { counts_now = g.met.D.Disk.counts_now d; only_now = g.met.D.Disk.only_now d }) c.args.self.core c.retire-answer.new.self c.into_disk-disk.result c.in-Err.unopened.disk c.args.self.readers.items c.in-Err.unopened.why c.into_disk-disk.ensures e.step e.stopped e.later e.told e.log e.left
    g.met.D.Disk.as_read (λ s h. c.held_batches_are_recovered.ensures.held newest [] s tt h) c.in-Err.ensures.leaves c.in-Err.ensures.damaged

pub returns : goal.returns
returns g c =
    let e = c.retire-answer.ensures in
    let old = c.args.self.core in
    let mid = c.retire-answer.new.self in
    let failed = not_ok (hall_of old) (hall_of mid) c.retire-answer.result c.requires.goes e.step c.in_default.not-Ok in
    record {
      again = tt;
      goes = tt;
      failed = unretired g.D.Disk.crashes g.D.Disk.seen g.D.Disk.images g.D.Disk.moment g.D.Disk.left_since g.D.Disk.faults (λ d. record { counts_now = g.met.D.Disk.counts_now d; only_now = g.met.D.Disk.only_now d }) old mid c.into_disk-disk.result c.args.self.readers.items c.retire-answer.result c.into_disk-disk.ensures c.in_default.not-Ok c.requires.goes e.step e.stopped e.later e.cause e.log;
      later = tt;
      left = subst (λ d. g.D.Disk.faults (disk_of old) ≤ g.D.Disk.faults d) (sym c.into_disk-disk.ensures) e.later;
      cause = λ w. subst (λ d. Rose (g.D.Disk.faults (disk_of old)) (g.D.Disk.faults d)) (sym c.into_disk-disk.ensures) (e.cause failed);
    }
