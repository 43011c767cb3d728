-- What the calls of a core do to a rewriting, as their clauses say it.
use Rattle.std.proofs.Common.{◌≡◌, ◌≢◌, ◌∙◌, ℕ, false, sym, ap, true≢false}
use Rattle.world_model.specs.Histories.{is_log_fault}
use Rattle.world_model.specs.declared.events.CallOutcome.{CallOutcome}
use Rattle.world_model.specs.declared.events.CallOutcome.TheVariants as called
use Rattle.world_model.specs.declared.events.Event.TheVariants.{Rewrite}
use Rattle.world_model.specs.declared.events.Outcome.TheVariants.{Answered}
use Rattle.durable_core.specs.Histories.{Writing, is_failed_step, writing_of, written}
use Rattle.durable_core.specs.Logged.{generation_of, hall_of}
use Rattle.durable_core.specs.declared.cores.DurableCore.{DurableCore}
use Rattle.durable_core.specs.declared.rewritings.Rewriting.{Rewriting}
use Rattle.durable_core.specs.declared.tails.Tail.{Tail}

abbrev put : Rewriting → ℕ → Writing
put r g = record { rewriting = r; generation = g }

-- told of its parts
pub writing_is : {D : Type 0} (c : DurableCore D) (r : Rewriting) (g : ℕ) → c.tail.rewriting ≡ r → generation_of c ≡ g
    → writing_of c ≡ record { rewriting = r; generation = g }
writing_is c r g p q = ap (λ (x : Rewriting). put x (generation_of c)) p ∙ ap (λ (x : ℕ). put r x) q

-- the end of the log stayed as it was
pub writing_stays : {D : Type 0} (c d : DurableCore D) → d.tail ≡ c.tail → writing_of d ≡ writing_of c
writing_stays {D} c d same = ap (λ (t : Tail D). put t.rewriting t.journal.log.generation) same

-- a step of rewriting in which the log did not fail
pub step_written : {D : Type 0} (c d : DurableCore D) (answer : CallOutcome)
    → (answer ≢ called.LogFault → writing_of d ≡ written (hall_of c) Rewrite (Answered answer) (writing_of c))
    → is_failed_step Rewrite (Answered answer) ≡ false → writing_of d ≡ written (hall_of c) Rewrite (Answered answer) (writing_of c)
step_written c d answer is fine =
    is (λ failed. true≢false (sym (ap (λ (a : CallOutcome). is_log_fault (Answered a)) failed) ∙ fine))
