use Rattle.std.proofs.Common.{◌∙◌, flat_map, sym, ap, subst}
use Rattle.journal.specs.Openings.{AreWhole}
use Rattle.log_record.specs.RecoveryLaws.{recovered_is_whole}
use Rattle.world_recovery.specs.Recorded.{changes_in, record_fault, world_in}
use Rattle.fence_backtest.proofs.log_reports.read_at_once.Goals as goal

pub returns-in-Ok-read_batches-clause-read : goal.returns-in-Ok-read_batches-clause-read
returns-in-Ok-read_batches-clause-read g c =
    let read = c.in-Ok.ensures.read in
    let found = c.in-Ok-read_batches.ensures in
    let same = c.as_slice.ensures ∙ read.taken.batches_are in
    let version = c.version.ensures ∙ read.taken.version_is in
    let are = found.changes ∙ ap (λ v. flat_map (changes_in v) c.as_slice.result.now) version ∙ ap (flat_map (changes_in read.version)) same in
    let whole = subst (AreWhole (record_fault read.version)) same (subst (λ v. AreWhole (record_fault v) c.as_slice.result.now) version found.whole) in
    record {
      records_are = λ s told. are ∙ sym (c.logs_are_their_records.ensures read.version read.batches s whole (read.holds s told));
      undamaged = λ s told side place damaged.
          recovered_is_whole s (world_in read.version read.batches) side place (c.held_batches_are_recovered.ensures.held read.version read.batches s whole (read.holds s told)) damaged;
    }
