use Rattle.std.proofs.Common.{List, [], subst, sym}
use Rattle.byte_text.specs.Names.{Bytes}
use Rattle.world_data.specs.declared.worlds.World.{World}
use Rattle.journal.specs.Journals.{Keeps}
use Rattle.log_record.specs.RecoveryLaws.{recovered_is_whole}
use Rattle.world_recovery.specs.Opened.{IsOpened, AreRecorded}
use Rattle.world_recovery.proofs.Opens.{opens}
use Rattle.world_recovery.proofs.Recorded.{world_recorded}
use Rattle.world_recovery.proofs.openings.open_world.Goals as goal

pub returns-in-Ok-clause-opened : goal.returns-in-Ok-clause-opened
returns-in-Ok-clause-opened g c =
    let kept = λ (batches : List Bytes). Keeps g.D.Disk.crashes g.D.Disk.seen g.D.Disk.images c.in-Ok.opened.journal batches [] in
    let opened = opens g.D.Disk.crashes g.D.Disk.seen g.D.Disk.moment g.D.Disk.left_since c.args.disk c.in-Ok.opened.journal.disk c.open.new.replay c.in-Ok.opened.journal.log.version kept c.in-Ok.ensures.opened in
    subst (λ (w : World). IsOpened g.D.Disk.crashes g.D.Disk.seen g.D.Disk.moment g.D.Disk.left_since c.args.disk c.in-Ok.opened.journal.disk w c.in-Ok.opened.journal.log.version kept) (sym c.into_world.ensures) opened

pub returns-in-Ok-clause-whole : goal.returns-in-Ok-clause-whole
returns-in-Ok-clause-whole g c = λ s told side place damaged.
    let kept = λ (batches : List Bytes). Keeps g.D.Disk.crashes g.D.Disk.seen g.D.Disk.images c.in-Ok.opened.journal batches [] in
    let opened = opens g.D.Disk.crashes g.D.Disk.seen g.D.Disk.moment g.D.Disk.left_since c.args.disk c.in-Ok.opened.journal.disk c.open.new.replay c.in-Ok.opened.journal.log.version kept c.in-Ok.ensures.opened in
    recovered_is_whole s c.open.new.replay.world side place (opened.recovers s told) damaged

pub returns-in-Ok-clause-recorded : goal.returns-in-Ok-clause-recorded
returns-in-Ok-clause-recorded g c =
    let kept = λ (batches : List Bytes). Keeps g.D.Disk.crashes g.D.Disk.seen g.D.Disk.images c.in-Ok.opened.journal batches [] in
    let opened = opens g.D.Disk.crashes g.D.Disk.seen g.D.Disk.moment g.D.Disk.left_since c.args.disk c.in-Ok.opened.journal.disk c.open.new.replay c.in-Ok.opened.journal.log.version kept c.in-Ok.ensures.opened in
    subst AreRecorded (sym c.into_world.ensures) (world_recorded c.in-Ok.opened.journal.log.version opened.batches c.open.new.replay.world opened.whole opened.world_is)

pub returns-in-Err-clause-damaged : goal.returns-in-Err-clause-damaged
returns-in-Err-clause-damaged g c = λ s told side place is. c.damage_is_damage.ensures s side place (c.in-Err.ensures.damaged s told side place is)
