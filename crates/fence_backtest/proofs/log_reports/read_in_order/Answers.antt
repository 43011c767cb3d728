use Rattle.std.proofs.Common.{◌∙◌, sym}
use Rattle.log_record.specs.RecoveryLaws.{recovered_is_whole}
use Rattle.world_recovery.specs.Recorded.{world_in}
use Rattle.fence_backtest.proofs.log_reports.read_in_order.Goals as goal

pub returns-in-Ok-one-clause-read : goal.returns-in-Ok-one-clause-read
returns-in-Ok-one-clause-read g c =
    let read = c.in-Ok.ensures.read in
    record {
      records_are = λ s told. c.in-Ok-one.ensures ∙ c.into_changes.ensures ∙ read.taken.changes_are ∙ sym (c.logs_are_their_records.ensures read.version read.batches s read.whole (read.holds s told));
      undamaged = λ s told side place damaged.
          recovered_is_whole s (world_in read.version read.batches) side place (c.held_batches_are_recovered.ensures.held read.version read.batches s read.whole (read.holds s told)) damaged;
    }

pub returns-in-Err-clause-damaged : goal.returns-in-Err-clause-damaged
returns-in-Err-clause-damaged g c s told side place is = c.damage_is_damage.ensures s side place (c.in-Err.ensures.damaged s told side place is)
