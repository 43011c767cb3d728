-- What an answer says of the log: a stopped hall says nothing of it, nor does an entering.
use Rattle.std.proofs.Common.{◌≡◌, ◌≢◌, ℕ, true, false, List, Result, Ok, Err, refl}
use Rattle.byte_text.specs.Names.{Bytes}
use Rattle.world_model.specs.Halls.{Hall}
use Rattle.world_model.specs.Histories.{answer, doing, when_stopped, is_log_fault, is_fine}
use Rattle.world_model.specs.Outcomes.{enter_outcome, take_outcome}
use Rattle.world_model.specs.declared.events.CallOutcome.{CallOutcome}
use Rattle.world_model.specs.declared.events.CallOutcome.TheVariants as called
use Rattle.world_model.specs.declared.events.EnterFault.{EnterFault}
use Rattle.world_model.specs.declared.events.EnterFault.TheVariants as refused
use Rattle.world_model.specs.declared.events.Event.{Event}
use Rattle.world_model.specs.declared.events.Event.TheVariants.{Enter, Call, Take, Tick, Close, Remove, Rewrite, Retire}
use Rattle.world_model.specs.declared.events.Outcome.{Outcome}
use Rattle.world_model.specs.declared.events.Taken.{Taken}
use Rattle.world_model.specs.declared.events.Taken.TheVariants as taken
use Rattle.log_record.specs.Journals.{shows}

-- no writes were done, the log did not fail, and a crash may still leave what was before
pub record SaysNothing (event : Event) (outcome : Outcome) : Type 0 where
  pub not_fine : is_fine outcome ≡ false
  pub no_fault : is_log_fault outcome ≡ false
  pub not_shown : shows event outcome ≡ false

pub stopped_says : (event : Event) → SaysNothing event (when_stopped event)
stopped_says Enter = record { not_fine = refl; no_fault = refl; not_shown = refl }
stopped_says (Call n moment asked) = record { not_fine = refl; no_fault = refl; not_shown = refl }
stopped_says (Take n) = record { not_fine = refl; no_fault = refl; not_shown = refl }
stopped_says (Tick moment) = record { not_fine = refl; no_fault = refl; not_shown = refl }
stopped_says (Close n) = record { not_fine = refl; no_fault = refl; not_shown = refl }
stopped_says (Remove n) = record { not_fine = refl; no_fault = refl; not_shown = refl }
stopped_says Rewrite = record { not_fine = refl; no_fault = refl; not_shown = refl }
stopped_says Retire = record { not_fine = refl; no_fault = refl; not_shown = refl }

pub entering_says : (r : Result ℕ EnterFault) → SaysNothing Enter (enter_outcome r)
entering_says (Ok n) = record { not_fine = refl; no_fault = refl; not_shown = refl }
entering_says (Err refused.TooMany) = record { not_fine = refl; no_fault = refl; not_shown = refl }
entering_says (Err refused.Stopped) = record { not_fine = refl; no_fault = refl; not_shown = refl }
entering_says (Err refused.Memory) = record { not_fine = refl; no_fault = refl; not_shown = refl }

-- a call says that the log failed where that is what it answers
pub call_failed : (c : CallOutcome) → is_log_fault (answer c) ≡ true → c ≡ called.LogFault
call_failed called.Ok is = absurd (cc)
call_failed called.Full is = absurd (cc)
call_failed called.Gone is = absurd (cc)
call_failed called.LogFault is = refl
call_failed called.Stopped is = absurd (cc)
call_failed called.Spent is = absurd (cc)
call_failed called.Memory is = absurd (cc)

pub take_failed : (t : Taken) (frames : List Bytes) → is_log_fault (take_outcome t frames) ≡ true → t ≡ taken.LogFault
take_failed (taken.Some n) frames is = absurd (cc)
take_failed taken.Empty frames is = absurd (cc)
take_failed taken.Ended frames is = absurd (cc)
take_failed taken.LogFault frames is = refl
take_failed taken.Stopped frames is = absurd (cc)

-- an event that is done answers neither that the log failed, nor that the hall has stopped, nor that the log is at its greatest length
pub record SaysDone (outcome : Outcome) : Type 0 where
  pub no_fault : is_log_fault outcome ≡ false
  pub goes_on : outcome ≢ answer called.Stopped
  pub has_room : outcome ≢ answer called.Spent

pub doing_says : (h : Hall) (event : Event) → SaysDone (doing h event).0
doing_says h Enter = record { no_fault = refl; goes_on = λ is. cc; has_room = λ is. cc }
doing_says h (Call n moment asked) = record { no_fault = refl; goes_on = λ is. cc; has_room = λ is. cc }
doing_says h (Take n) = record { no_fault = refl; goes_on = λ is. cc; has_room = λ is. cc }
doing_says h (Tick moment) = record { no_fault = refl; goes_on = λ is. cc; has_room = λ is. cc }
doing_says h (Close n) = record { no_fault = refl; goes_on = λ is. cc; has_room = λ is. cc }
doing_says h (Remove n) = record { no_fault = refl; goes_on = λ is. cc; has_room = λ is. cc }
doing_says h Rewrite = record { no_fault = refl; goes_on = λ is. cc; has_room = λ is. cc }
doing_says h Retire = record { no_fault = refl; goes_on = λ is. cc; has_room = λ is. cc }
