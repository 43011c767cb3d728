-- What is left of a disk that was not opened, by the calls that it comes back from.
use Rattle.std.proofs.Common.{◌≡◌, ℕ, Bool, true, refl, sym, subst, inl, inr}
use Rattle.std.specs.Prelude.{Option, Some}
use Rattle.outside.specs.Sides.{Sides}
use Rattle.outside.specs.Crashes.{LeavesOnly}
use Rattle.outside.specs.CrashLaws.{begins}
use Rattle.world_data.specs.declared.worlds.World.{World}
use Rattle.journal.specs.KeptLaws.{kept_told, kept_now}
use Rattle.journal.specs.declared.openings.OpenFault.{OpenFault}
use Rattle.journal.specs.declared.openings.OpenFault.TheVariants as fault_of
use Rattle.log_record.specs.Recovery.{Recovers}
use Rattle.world_recovery.specs.BatchesHeld.{held_recovers}
use Rattle.durable_core.specs.Kept.{settled_log}
use Rattle.durable_core.specs.Logged.{hall_of, disk_of, IsLogOf}
use Rattle.durable_core.specs.Opened.{ReadsAlike, IsLeftByStart}
use Rattle.durable_core.specs.declared.cores.DurableCore.{DurableCore}
use Rattle.replay_run.specs.HandedBack.{IsBackUnopened}

-- what a core was opened on reads as a log of the core's world
reads_alike : {D : Type 0} (crashes : D → Bool) (seen : D → Option Sides) (images : D → Sides → Type 0) (c : DurableCore D) (s : Sides)
    → IsLogOf crashes seen images c (settled_log (hall_of c).world) → Recovers s (hall_of c).world → ReadsAlike (seen (disk_of c)) s fault_of.Memory
reads_alike crashes seen images c s log before =
    let j = c.tail.journal in
    let kept = log.kept in
    let told = kept_told (crashes j.disk) (seen j.disk) (images j.disk) j.log.side j.log.version j.log.generation j.log.gate j.rewriter kept.batches kept.copied
    kept.keeps in
    let held = kept_now (crashes j.disk) (seen j.disk) (images j.disk) j.log.side j.log.version j.log.generation j.log.gate j.rewriter kept.batches kept.copied
    kept.keeps in
    record {
      cause = refl;
      world = (hall_of c).world;
      before = before;
      now = told.0;
      told = told.1;
      after = subst (λ (w : World). Recovers told.0 w) (sym kept.committed) (held_recovers j.log.version kept.batches told.0 kept.whole (held told.0 told.1));
    }

module _ {D : Type 0} (crashes : D → Bool) (seen : D → Option Sides) (images : D → Sides → Type 0) (moment : D → ℕ) (left_since : D → ℕ → Sides
    → Type 0) where
  -- a disk that was not touched
  pub untouched : (disk : D) (why : OpenFault) → IsBackUnopened crashes seen images moment left_since disk disk why
  untouched disk why = record {
    reads = λ s told. inl (inl told);
    leaves = λ s told crash. begins moment left_since disk (IsLeftByStart (images disk) s);
  }

  -- one that was opened, where memory wanted for what is made of the core
  pub given_up : (disk left : D) (c : DurableCore D) (why : OpenFault) → left ≡ disk_of c → why ≡ fault_of.Memory
      → ((s : Sides) → seen disk ≡ Some s → IsLogOf crashes seen images c (settled_log (hall_of c).world))
      → ((s : Sides) → seen disk ≡ Some s → Recovers s (hall_of c).world)
      → ((s : Sides) → seen disk ≡ Some s → crashes disk ≡ true → LeavesOnly moment left_since disk (disk_of c) (IsLeftByStart (images disk) s))
      → IsBackUnopened crashes seen images moment left_since disk left why
  given_up disk left c why is memory log before leaves =
      subst (λ (f : OpenFault). IsBackUnopened crashes seen images moment left_since disk left f) (sym memory)
      (subst (λ (d : D). IsBackUnopened crashes seen images moment left_since disk d fault_of.Memory) (sym is) (record {
        reads = λ s told. inr (inl (reads_alike crashes seen images c s (log s told) (before s told)));
        leaves = leaves;
      }))
