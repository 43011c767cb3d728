-- Steps of a hall that has stopped, whose log fails, or that goes on.
use Rattle.std.specs.Prelude.{if◌then◌else◌}
use Rattle.std.proofs.Common.{◌≡◌, ◌∙◌, ℕ, Bool, true, false, [], ◌∷◌, Option, Some, None, refl, sym, ap, subst, inl, inr}
use Rattle.world_model.specs.Halls.{Hall, session_of}
use Rattle.world_model.specs.Histories.{Ending, Step, StepBy, answer, doing, ended, first_of, full, gone, idle, is_spent, may_fail, may_lack_memory}
use Rattle.world_model.specs.Histories.{given, refusal, refusal_going, stopped, when_stopped}
use Rattle.world_model.specs.declared.events.Asked.{Asked}
use Rattle.world_model.specs.declared.events.CallOutcome.TheVariants as called
use Rattle.world_model.specs.declared.events.Event.{Event}
use Rattle.world_model.specs.declared.events.Event.TheVariants.{Call, Take, Tick}
use Rattle.world_model.specs.declared.events.Outcome.{Outcome}
use Rattle.world_model.specs.declared.events.Outcome.TheVariants as outcome
use Rattle.tile_core.specs.Answered.{MayCall, MayTake}

-- a hall that has stopped, as far as it says so itself
pub same_hall : (h : Hall) (b : Bool) → h.stopped ≡ b → record h { stopped = b } ≡ h
same_hall h b is = ap (λ (s : Bool). record h { stopped = s }) (sym is)

-- a stopped hall refuses, and stays
pub stops : (h : Hall) (event : Event) → h.stopped ≡ true → Step h event (when_stopped event) h
stops h event is = subst (λ (b : Bool). StepBy (if b then Some (when_stopped event, h) else refusal_going h event) h event (when_stopped event) h)
    (sym is) (refl, refl)

-- what a hall that goes on refuses
pub goes_on : (h : Hall) (event : Event) → h.stopped ≡ false → refusal h event ≡ refusal_going h event
goes_on h event is = ap (λ (b : Bool). if b then Some (when_stopped event, h) else refusal_going h event) is

-- the log may fail where nothing is refused
pub fails : (h next : Hall) (event : Event) → may_fail event ≡ true → h.stopped ≡ false → refusal_going h event ≡ None → next ≡ stopped h
    → Step h event (answer called.LogFault) next
fails h next event may is none to =
    subst (λ (r : Option Ending). StepBy r h event (answer called.LogFault) next) (sym (goes_on h event is ∙ none)) (inl (may, (refl, to)))

-- or memory be lacking
pub lacks : (h next : Hall) (event : Event) → may_lack_memory event ≡ true → h.stopped ≡ false → refusal_going h event ≡ None → next ≡ h
    → Step h event (answer called.Memory) next
lacks h next event may is none to =
    subst (λ (r : Option Ending). StepBy r h event (answer called.Memory) next) (sym (goes_on h event is ∙ none)) (inr (inl (may, (refl, to))))

-- an event of which nothing is refused is done
pub does : (h next : Hall) (event : Event) → h.stopped ≡ false → refusal_going h event ≡ None → next ≡ (doing h event).1
    → Step h event (doing h event).0 next
does h next event is none to = subst (λ (r : Option Ending). StepBy r h event (doing h event).0 next) (sym (goes_on h event is ∙ none))
    (inr (inr (refl, to)))

-- no test holds
none_holds : (a : Bool) (x : Ending) (rest : Option Ending) → a ≡ false → rest ≡ None → (if a then Some x else rest) ≡ None
none_holds true x rest is none = absurd (cc is)
none_holds false x rest is none = none

pub call_goes : (h : Hall) (n moment : ℕ) (asked : Asked) → MayCall h n → refusal_going h (Call n moment asked) ≡ None
call_goes h n moment asked may =
    none_holds (is_spent h) _ _ may.0 (none_holds (gone (session_of h n)) _ _ may.1 (none_holds (full (session_of h n)) _ _ may.2 refl))

pub tick_goes : (h : Hall) (moment : ℕ) → is_spent h ≡ false → refusal_going h (Tick moment) ≡ None
tick_goes h moment may = none_holds (is_spent h) _ _ may refl

pub take_goes : (h : Hall) (n : ℕ) → MayTake h n → refusal_going h (Take n) ≡ None
take_goes h n may = none_holds (ended (session_of h n)) _ _ may.0 (none_holds (idle (session_of h n)) _ _ may.1 refl)

-- a take of a session that has no frame gives none
gives_none : (a b : Bool) (h end : Hall) (n : ℕ) (o : Outcome) (next : Hall) → ((a ≡ false) × (b ≡ false) → ⊥)
    → StepBy (first_of ((a, (outcome.Ended, end)) ∷ (b, (outcome.Empty, h)) ∷ [])) h (Take n) o next → given o ≡ false
gives_none true b h end n o next none step = ap given step.0
gives_none false true h end n o next none step = ap given step.0
gives_none false false h end n o next none step = absurd (none (refl, refl))

pub takes_nothing : (h next : Hall) (n : ℕ) (o : Outcome) → h.stopped ≡ false → (MayTake h n → ⊥) → Step h (Take n) o next → given o ≡ false
takes_nothing h next n o is none step =
    gives_none (ended (session_of h n)) (idle (session_of h n)) h _ n o next none
    (subst (λ (r : Option Ending). StepBy r h (Take n) o next) (goes_on h (Take n) is) step)
