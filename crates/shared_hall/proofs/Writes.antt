-- How far the log is rewritten behind a history, act by act.
use Rattle.std.proofs.Common.{◌≡◌, false, List, [], ◌∷◌, ◌++◌, map, refl, ap, subst}
use Rattle.world_model.specs.Halls.{Hall}
use Rattle.world_model.specs.Histories.{Step, when_stopped}
use Rattle.world_model.specs.Seats.{Act, act_of}
use Rattle.world_model.specs.declared.events.Entry.{Entry}
use Rattle.world_model.specs.declared.events.Event.{Event}
use Rattle.world_model.specs.declared.events.Event.TheVariants.{Enter, Call, Take, Tick, Close, Remove, Rewrite, Retire}
use Rattle.durable_core.specs.Histories.{Writing, Writes, is_failed_step, written}
use Rattle.shared_hall.specs.Times.{Time}
use Rattle.shared_hall.proofs.Raising.{raised}

-- one act more
pub writes_last : (acts : List Act) (a : Act) (h mid last : Hall) (w m end : Writing) → Writes h w acts mid m → Step mid a.0 a.1 last
    → (is_failed_step a.0 a.1 ≡ false → end ≡ written mid a.0 a.1 m) → Writes h w (acts ++ a ∷ []) last end
writes_last [] a h mid last w m end made step on =
    subst (λ (g : Hall). Writes g w (a ∷ []) last end) made.0 (subst (λ (x : Writing). Writes mid x (a ∷ []) last end) made.1 (last, end, step, on, (refl, refl)))
writes_last (b ∷ acts) a h mid last w m end made step on =
    (made.0, made.1, made.2, made.3, writes_last acts a made.0 mid last made.1 m end made.4 step on)

pub acts_last : (log : List Entry) (e : Entry) → map act_of (log ++ e ∷ []) ≡ map act_of log ++ act_of e ∷ []
acts_last [] e = refl
acts_last (d ∷ log) e = ap (λ (l : List Act). act_of d ∷ l) (acts_last log e)

-- entries that end later are of the same acts
pub raised_acts : (t : Time) (before es : List Entry) → map act_of (before ++ map (raised t) es) ≡ map act_of (before ++ es)
raised_acts t [] [] = refl
raised_acts t [] (e ∷ es) = ap (λ (l : List Act). act_of e ∷ l) (raised_acts t [] es)
raised_acts t (b ∷ before) es = ap (λ (l : List Act). act_of b ∷ l) (raised_acts t before es)

-- a hall that has stopped writes nothing
pub nothing_written : (h : Hall) (event : Event) (w : Writing) → w ≡ written h event (when_stopped event) w
nothing_written h Enter w = refl
nothing_written h (Call n m asked) w = refl
nothing_written h (Take n) w = refl
nothing_written h (Tick m) w = refl
nothing_written h (Close n) w = refl
nothing_written h (Remove n) w = refl
nothing_written h Rewrite w = refl
nothing_written h Retire w = refl
