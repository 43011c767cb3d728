-- A session is entered, which has a reader from then on.
use Rattle.std.proofs.Common.{◌≡◌, ◌≤◌, ◌≢◌, ℕ, Bool, true, false, refl, sym, ap, ◌∙◌, List, [], ◌∷◌, inr, arith}
use Rattle.std.specs.Prelude.{Option, Some, is_some, Result, Ok, Err, IfOk, IfErr}
use Rattle.byte_text.specs.Names.{Bytes}
use Rattle.outside.specs.Sides.{Sides}
use Rattle.world_model.specs.Histories.{Step, answer, is_log_fault}
use Rattle.world_model.specs.declared.events.CallOutcome.TheVariants as called
use Rattle.world_model.specs.declared.events.Event.TheVariants as event
use Rattle.world_model.specs.declared.events.Outcome.{Outcome}
use Rattle.log_record.specs.Journals.{Journal, TellsNow}
use Rattle.durable_core.specs.HistoryLaws.{writing_stays}
use Rattle.durable_core.specs.Logged.{hall_of, disk_of, KeepsLogOf, GoesOn}
use Rattle.durable_core.specs.declared.cores.DurableCore.{DurableCore}
use Rattle.durable_core.specs.declared.tails.Tail.{Tail}
use Rattle.replay_run.specs.declared.halts.Halt.{Halt}
use Rattle.replay_run.specs.declared.halts.Halt.TheVariants as halted
use Rattle.replay_run.specs.declared.readers.Reader.{Reader}
use Rattle.replay_run.specs.Outputs.{printed}
use Rattle.replay_run.specs.Readers.{with_entered}
use Rattle.replay_run.specs.Traces.{does, trace}
use Rattle.replay_run.specs.Scripts.{Enters}
use Rattle.replay_run.specs.Undone.{IsLacking, Fails}
use Rattle.replay_run.specs.Standing.{StaysSafe, Comes}
use Rattle.replay_run.proofs.GoingOn.{goes_on}
use Rattle.replay_run.proofs.Standing.{stays_safe}
use Rattle.replay_run.proofs.Calling.{event_ok, event_lost}

not_failed : (o : Outcome) → is_log_fault o ≡ false → o ≢ answer called.LogFault
not_failed o fine is = let fault : is_log_fault o ≡ true = ap is_log_fault is in absurd (cc)

module _ {D : Type 0} (crashes : D → Bool) (seen : D → Option Sides) (images : D → Sides → Type 0) (moment : D → ℕ) (left_since : D → ℕ → Sides → Type 0) (faults : D → ℕ) (tells : (d : D) → TellsNow images moment left_since d)
    (old new : DurableCore D) (readers readers' : List Reader) (o : Outcome) where
  still_safe : Step (hall_of old) event.Enter o (hall_of new) → new.tail ≡ old.tail → is_log_fault o ≡ false
      → ((j : Journal) → KeepsLogOf crashes seen images old j → GoesOn crashes seen images moment left_since old new event.Enter o j)
      → StaysSafe crashes seen images moment left_since faults old new (does event.Enter o ∷ [])
  still_safe step same fine log =
      let later : faults (disk_of old) ≤ faults (disk_of new) = let is = ap (λ (t : Tail D). faults t.journal.disk) same in omega (arith, is) in
      stays_safe crashes seen images moment left_since faults tells old new event.Enter o refl step (λ _. writing_stays old new same) (ap (λ (t : Tail D). crashes t.journal.disk) same) later (λ f. absurd (cc)) log

  -- memory wanted for it
  pub enter_lost : (halt : Halt) → halt ≡ halted.Memory → IsLacking o → Step (hall_of old) event.Enter o (hall_of new)
      → new.tail ≡ old.tail → is_log_fault o ≡ false
      → ((j : Journal) → KeepsLogOf crashes seen images old j → GoesOn crashes seen images moment left_since old new event.Enter o j)
      → Comes crashes seen images moment left_since faults old new
      (λ out deeds. Enters (record { hall = hall_of old; readers = readers }) (trace deeds out) (record { hall = hall_of new; readers = readers' })) (λ halt deeds. Fails halt (hall_of old) event.Enter deeds (hall_of new)) (Err halt)
  enter_lost halt memory lacks step same fine log =
      let later : faults (disk_of old) ≤ faults (disk_of new) = let is = ap (λ (t : Tail D). faults t.journal.disk) same in omega (arith, is) in
      event_lost crashes seen images moment left_since faults old new event.Enter o _ _ halt memory (still_safe step same fine log) later (inr (o, step, refl, lacks))

  -- it was told
  pub enter_comes : (text : Bytes) (r : Result Bytes Halt) → (hall_of old).stopped ≡ false → Step (hall_of old) event.Enter o (hall_of new) → new.tail ≡ old.tail → is_log_fault o ≡ false
      → ((j : Journal) → KeepsLogOf crashes seen images old j → GoesOn crashes seen images moment left_since old new event.Enter o j)
      → printed o ≡ Some text → readers' ≡ with_entered o readers → IfOk r (λ t. t ≡ text) → IfErr r (λ halt. halt ≡ halted.Memory)
      → Comes crashes seen images moment left_since faults old new
      (λ out deeds. Enters (record { hall = hall_of old; readers = readers }) (trace deeds out) (record { hall = hall_of new; readers = readers' })) (λ halt deeds. Fails halt (hall_of old) event.Enter deeds (hall_of new)) r
  enter_comes text (Ok t) goes step same fine log prints has is memory =
      let later : faults (disk_of old) ≤ faults (disk_of new) = let z = ap (λ (t : Tail D). faults t.journal.disk) same in omega (arith, z) in
      event_ok crashes seen images moment left_since faults old new event.Enter o _ _ t (still_safe step same fine log) later (goes_on (hall_of old) (hall_of new) event.Enter o refl (not_failed o fine) goes step)
      (record { outcome = o; step = step; made = refl; prints = prints ∙ ap (λ (z : Bytes). Some z) (sym is) }, has)
  enter_comes text (Err halt) goes step same fine log prints has is memory = enter_lost halt memory (inr (ap (λ (z : Option Bytes). is_some z) prints)) step same fine log
