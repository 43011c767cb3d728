-- What comes of one call of a core.
use Rattle.std.proofs.Common.{arith, ◌+◌, ◌++◌, ◌≡◌, ◌≢◌, ◌≤◌, ℕ, Bool, true, false, refl, sym, ap, subst, ◌∙◌, List, [], ◌∷◌, inr}
use Rattle.std.specs.Prelude.{Option, Some, None, is_some, Result, Ok, Err, IfOk, IfErr, min}
use Rattle.std.proofs.Math.Nat.{min-le_left, min-le_right, le-min}
use Rattle.byte_text.specs.Names.{Bytes}
use Rattle.outside.specs.Causes.{Rose, most_count}
use Rattle.outside.specs.Sides.{Sides}
use Rattle.world_model.specs.Halls.{Hall}
use Rattle.world_model.specs.Histories.{Step, answer, is_log_fault}
use Rattle.world_model.specs.declared.events.CallOutcome.TheVariants as called
use Rattle.world_model.specs.declared.events.Event.{Event}
use Rattle.world_model.specs.declared.events.Outcome.{Outcome}
use Rattle.log_record.specs.Journals.{Journal, TellsNow, is_retire}
use Rattle.durable_core.specs.Histories.{is_failed_step, writing_of, written}
use Rattle.durable_core.specs.Logged.{hall_of, disk_of, KeepsLogOf, GoesOn}
use Rattle.durable_core.specs.declared.cores.DurableCore.{DurableCore}
use Rattle.replay_run.specs.declared.halts.Halt.{Halt}
use Rattle.replay_run.specs.declared.halts.Halt.TheVariants as halted
use Rattle.replay_run.specs.Outputs.{printed}
use Rattle.replay_run.specs.Traces.{Deed, does, trace}
use Rattle.replay_run.specs.Scripts.{Makes}
use Rattle.replay_run.specs.Undone.{Fails, IsUnprinted}
use Rattle.replay_run.specs.Standing.{StaysSafe, Comes}
use Rattle.replay_run.proofs.GoingOn.{goes_on, found_spent}
use Rattle.replay_run.proofs.Standing.{stays_safe, stays_same, stays_more}

-- what is printed of an ending tells that the log did not fail
works : (o : Outcome) (out : Bytes) → printed o ≡ Some out → o ≢ answer called.LogFault
works o out is e = let none : printed o ≡ None = ap printed e in absurd (cc)

pub fails_of : (halt : Halt) (h next : Hall) (e : Event) (o : Outcome) → h.stopped ≡ false → Step h e o next → IsUnprinted halt o → Fails halt h e (does e o ∷ []) next
fails_of halted.Spent h next e o goes s is =
    let step : Step h e (answer called.Spent) next = subst (λ (z : Outcome). Step h e z next) is s in
    let spent = found_spent h next e goes step in
    (spent.0, spent.1, ap (λ (z : Outcome). does e z ∷ []) is)
fails_of halted.DiskFault h next e o goes s is = (subst (λ (z : Outcome). Step h e z next) is s, ap (λ (z : Outcome). does e z ∷ []) is)
fails_of (halted.Damaged side place) h next e o goes s is = absurd is
fails_of halted.Memory h next e o goes s is = inr (o, s, refl, is)

-- a text that was made, or memory wanted
pub printed_as : (r : Result Bytes Halt) (o : Outcome) (x : Bytes) → printed o ≡ Some x → IfOk r (λ t. t ≡ x) → IfOk r (λ out. printed o ≡ Some out)
printed_as (Ok t) o x is same = is ∙ ap (λ (z : Bytes). Some z) (sym same)
printed_as (Err halt) o x is same = tt

pub wants_memory : (r : Result Bytes Halt) (o : Outcome) → is_some (printed o) ≡ true → IfErr r (λ halt. halt ≡ halted.Memory)
    → IfErr r (λ halt. IsUnprinted halt o)
wants_memory (Ok t) o some is = tt
wants_memory (Err halt) o some is = subst (λ (z : Halt). IsUnprinted z o) (sym is) (inr some)

-- a count that rose behind a first part rose
pub rose_before : (a b c : ℕ) → a ≤ b → Rose b c → Rose a c
rose_before a b c le rose =
    let left = min-le_left (a + 1) most_count in
    let right = min-le_right (a + 1) most_count in
    let most : min (a + 1) most_count ≤ min (b + 1) most_count = le-min (omega (arith, left, le)) right in
    omega (arith, most, rose)

module _ {D : Type 0} (crashes : D → Bool) (seen : D → Option Sides) (images : D → Sides → Type 0) (moment : D → ℕ) (left_since : D → ℕ → Sides → Type 0) (faults : D → ℕ) (tells : (d : D) → TellsNow images moment left_since d) (old new : DurableCore D) (e : Event) (o : Outcome) where
  comes_by : (r : Result Bytes Halt) → (hall_of old).stopped ≡ false → Step (hall_of old) e o (hall_of new) → is_retire e ≡ false
      → faults (disk_of old) ≤ faults (disk_of new) → (is_log_fault o ≡ true → Rose (faults (disk_of old)) (faults (disk_of new)))
      → StaysSafe crashes seen images moment left_since faults old new (does e o ∷ [])
      → IfOk r (λ out. printed o ≡ Some out) → IfErr r (λ halt. IsUnprinted halt o)
      → Comes crashes seen images moment left_since faults old new (λ out deeds. Makes (hall_of old) e (trace deeds out) (hall_of new)) (λ halt deeds. Fails halt (hall_of old) e deeds (hall_of new)) r
  comes_by (Ok out) goes step other later cause safe done failed = record {
    done = (does e o ∷ [], record { outcome = o; step = step; made = refl; prints = done }, safe);
    failed = tt;
    goes = goes_on (hall_of old) (hall_of new) e o other (works o out done) goes step;
    cause = tt;
    later = later;
  }
  comes_by (Err halt) goes step other later cause safe done failed = record {
    done = tt;
    failed = (does e o ∷ [], fails_of halt (hall_of old) (hall_of new) e o goes step failed, safe);
    goes = tt;
    cause = λ is. cause (let fault : o ≡ answer called.LogFault = subst (λ (z : Halt). IsUnprinted z o) is failed in ap is_log_fault fault);
    later = later;
  }

  -- of a call whose answer is printed
  pub comes_of : (r : Result Bytes Halt) → is_retire e ≡ false → (hall_of old).stopped ≡ false → Step (hall_of old) e o (hall_of new)
      → (is_failed_step e o ≡ false → writing_of new ≡ written (hall_of old) e o (writing_of old))
      → crashes (disk_of new) ≡ crashes (disk_of old) → faults (disk_of old) ≤ faults (disk_of new) → (is_log_fault o ≡ true → Rose (faults (disk_of old)) (faults (disk_of new)))
      → ((j : Journal) → KeepsLogOf crashes seen images old j → GoesOn crashes seen images moment left_since old new e o j)
      → IfOk r (λ out. printed o ≡ Some out) → IfErr r (λ halt. IsUnprinted halt o)
      → Comes crashes seen images moment left_since faults old new (λ out deeds. Makes (hall_of old) e (trace deeds out) (hall_of new)) (λ halt deeds. Fails halt (hall_of old) e deeds (hall_of new)) r
  comes_of r other goes step writes told later cause log done failed =
      comes_by r goes step other later cause (stays_safe crashes seen images moment left_since faults tells old new e o other step writes told later cause log) done failed

module _ {D : Type 0} (crashes : D → Bool) (seen : D → Option Sides) (images : D → Sides → Type 0) (moment : D → ℕ) (left_since : D → ℕ → Sides → Type 0) (faults : D → ℕ) where
  -- what comes of calls that were done, or not, seen otherwise
  pub comes_ok : {T U : Type 0} (old new : DurableCore D) (P : T → List Deed → Type 0) (R : U → List Deed → Type 0) (Q S : Halt → List Deed → Type 0) (x : T) (y : U)
      → Comes crashes seen images moment left_since faults old new P Q (Ok x) → ((deeds : List Deed) → P x deeds → R y deeds) → Comes crashes seen images moment left_since faults old new R S (Ok y)
  comes_ok old new P R Q S x y c so = record { done = (c.done.0, so c.done.0 c.done.1, c.done.2); failed = tt; goes = c.goes; cause = tt; later = c.later }

  pub comes_err : {T U : Type 0} (old new : DurableCore D) (P : T → List Deed → Type 0) (R : U → List Deed → Type 0) (Q S : Halt → List Deed → Type 0) (halt : Halt)
      → Comes crashes seen images moment left_since faults old new P Q (Err halt) → ((deeds : List Deed) → Q halt deeds → S halt deeds) → Comes crashes seen images moment left_since faults old new R S (Err halt)
  comes_err old new P R Q S halt c so = record { done = tt; failed = (c.failed.0, so c.failed.0 c.failed.1, c.failed.2); goes = tt; cause = c.cause; later = c.later }

  pub comes_as : {T : Type 0} (old new : DurableCore D) (P R : T → List Deed → Type 0) (Q S : Halt → List Deed → Type 0) (r : Result T Halt)
      → Comes crashes seen images moment left_since faults old new P Q r → ((x : T) (deeds : List Deed) → P x deeds → R x deeds) → ((halt : Halt) (deeds : List Deed) → Q halt deeds → S halt deeds)
      → Comes crashes seen images moment left_since faults old new R S r
  comes_as old new P R Q S (Ok x) c so fail = comes_ok old new P R Q S x x c (so x)
  comes_as old new P R Q S (Err halt) c so fail = comes_err old new P R Q S halt c (fail halt)

  -- nothing was called
  pub comes_still : {T : Type 0} (core : DurableCore D) (P : T → List Deed → Type 0) (Q : Halt → List Deed → Type 0) (r : Result T Halt) → (hall_of core).stopped ≡ false
      → IfOk r (λ x. P x []) → IfErr r (λ halt. (halt ≡ halted.Memory) × Q halted.Memory []) → Comes crashes seen images moment left_since faults core core P Q r
  comes_still core P Q (Ok x) goes done failed = record { done = ([], done, stays_same crashes seen images moment left_since faults core); failed = tt; goes = goes; cause = tt; later = omega arith }
  comes_still core P Q (Err halt) goes done failed = record {
    done = tt;
    failed = ([], subst (λ (z : Halt). Q z []) (sym failed.0) failed.1, stays_same crashes seen images moment left_since faults core);
    goes = tt;
    cause = λ is. let clash : halted.Memory ≡ halted.DiskFault = sym failed.0 ∙ is in absurd (cc);
    later = omega arith;
  }

  -- behind a first part, and before it
  pub comes_then : {T : Type 0} (a b c : DurableCore D) (first : List Deed) (P R : T → List Deed → Type 0) (Q S : Halt → List Deed → Type 0) (r : Result T Halt) → StaysSafe crashes seen images moment left_since faults a b first
      → faults (disk_of a) ≤ faults (disk_of b) → Comes crashes seen images moment left_since faults b c P Q r → ((x : T) (deeds : List Deed) → P x deeds → R x (first ++ deeds)) → ((halt : Halt) (deeds : List Deed) → Q halt deeds → S halt (first ++ deeds))
      → Comes crashes seen images moment left_since faults a c R S r
  comes_then a b c first P R Q S (Ok x) safe before t so fail = record {
    done = (first ++ t.done.0, so x t.done.0 t.done.1, stays_more crashes seen images moment left_since faults a b c first t.done.0 safe t.done.2);
    failed = tt;
    goes = t.goes;
    cause = tt;
    later = let now : faults (disk_of b) ≤ faults (disk_of c) = t.later in omega (arith, before, now);
  }
  comes_then a b c first P R Q S (Err halt) safe before t so fail = record {
    done = tt;
    failed = (first ++ t.failed.0, fail halt t.failed.0 t.failed.1, stays_more crashes seen images moment left_since faults a b c first t.failed.0 safe t.failed.2);
    goes = tt;
    cause = λ is. rose_before (faults (disk_of a)) (faults (disk_of b)) (faults (disk_of c)) before (t.cause is);
    later = let now : faults (disk_of b) ≤ faults (disk_of c) = t.later in omega (arith, before, now);
  }

  -- calls were done, and then memory wanted
  pub comes_lost : {T U : Type 0} (old new : DurableCore D) (P : T → List Deed → Type 0) (R : U → List Deed → Type 0) (Q S : Halt → List Deed → Type 0) (x : T) (halt : Halt) → halt ≡ halted.Memory
      → Comes crashes seen images moment left_since faults old new P Q (Ok x) → ((deeds : List Deed) → P x deeds → S halted.Memory deeds) → Comes crashes seen images moment left_since faults old new R S (Err halt)
  comes_lost old new P R Q S x halt memory c so = record {
    done = tt;
    failed = (c.done.0, subst (λ (z : Halt). S z c.done.0) (sym memory) (so c.done.0 c.done.1), c.done.2);
    goes = tt;
    cause = λ is. let clash : halted.Memory ≡ halted.DiskFault = sym memory ∙ is in absurd (cc);
    later = c.later;
  }

  -- a result that is this one
  pub comes_at : {T : Type 0} (old new : DurableCore D) (P : T → List Deed → Type 0) (Q : Halt → List Deed → Type 0) (r : Result T Halt) (x halt : Halt) → r ≡ Err x → x ≡ halt
      → Comes crashes seen images moment left_since faults old new P Q (Err halt) → Comes crashes seen images moment left_since faults old new P Q r
  comes_at {T} old new P Q r x halt is same c = subst (λ (z : Result T Halt). Comes crashes seen images moment left_since faults old new P Q z) (sym (is ∙ ap (λ (z : Halt). Err z) same)) c

  -- one event, and its answer
  pub event_ok : {T : Type 0} (old new : DurableCore D) (e : Event) (o : Outcome) (P : T → List Deed → Type 0) (Q : Halt → List Deed → Type 0) (x : T) → StaysSafe crashes seen images moment left_since faults old new (does e o ∷ [])
      → faults (disk_of old) ≤ faults (disk_of new) → (hall_of new).stopped ≡ false → P x (does e o ∷ []) → Comes crashes seen images moment left_since faults old new P Q (Ok x)
  event_ok old new e o P Q x safe later goes done = record { done = (does e o ∷ [], done, safe); failed = tt; goes = goes; cause = tt; later = later }

  pub event_lost : {T : Type 0} (old new : DurableCore D) (e : Event) (o : Outcome) (P : T → List Deed → Type 0) (Q : Halt → List Deed → Type 0) (halt : Halt) → halt ≡ halted.Memory → StaysSafe crashes seen images moment left_since faults old new (does e o ∷ [])
      → faults (disk_of old) ≤ faults (disk_of new) → Q halted.Memory (does e o ∷ []) → Comes crashes seen images moment left_since faults old new P Q (Err halt)
  event_lost old new e o P Q halt memory safe later failed = record {
    done = tt;
    failed = (does e o ∷ [], subst (λ (z : Halt). Q z (does e o ∷ [])) (sym memory) failed, safe);
    goes = tt;
    cause = λ is. let clash : halted.Memory ≡ halted.DiskFault = sym memory ∙ is in absurd (cc);
    later = later;
  }
