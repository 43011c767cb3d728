-- Steps of a machine that has not stopped.
use Rattle.std.proofs.Common.{◌≡◌, ◌≢◌, ℕ, ◌<◌, ◌-◌, true, false, List, [], ◌∷◌, length, refl, sym, ap, ◌∙◌, subst, arith, inl, inr, drop}
use Rattle.std.specs.Prelude.{Option, Some, None, Bool, if◌then◌else◌, ◌&&◌, ◌==◌, not, find, map, option_map}
use Rattle.std.proofs.lemmas.Bool.Decides.{nat_tests}
use Rattle.std.proofs.lemmas.List.{length-drop}
use Rattle.byte_text.specs.Names.{Bytes}
use Rattle.world_data.specs.Limits.{take_frames}
use Rattle.world_model.specs.Halls.{Hall, Session, is_live, is_session, session_of, without_session}
use Rattle.world_model.specs.Histories.{Step, StepBy, answer, first_of, frames_of, no_frames, taken, ended, idle, refusal_going, when_stopped}
use Rattle.world_model.specs.declared.events.CallOutcome.TheVariants as called
use Rattle.world_model.specs.declared.events.Event.{Event}
use Rattle.world_model.specs.declared.events.Event.TheVariants.{Take}
use Rattle.world_model.specs.declared.events.Outcome.{Outcome}
use Rattle.world_model.specs.declared.events.Outcome.TheVariants.{Given, Empty, Ended}
use Rattle.work_gen.specs.Steps.{is_hindered}
use Rattle.work_gen.specs.Asking.{waiting}

-- an outcome that nothing hinders is none of the two
pub no_log_fault : (o : Outcome) → is_hindered o ≡ false → o ≢ answer called.LogFault
no_log_fault o free e = let w : true ≡ false = subst (λ (x : Outcome). is_hindered x ≡ false) e free in absurd (cc)

pub no_memory : (o : Outcome) → is_hindered o ≡ false → o ≢ answer called.Memory
no_memory o free e = let w : true ≡ false = subst (λ (x : Outcome). is_hindered x ≡ false) e free in absurd (cc)

-- a hall that goes on decides by its tests
going : (old new : Hall) (event : Event) (o : Outcome) → old.stopped ≡ false → Step old event o new → StepBy (refusal_going old event) old event o new
going old new event o goes step = subst (λ (b : Bool). StepBy (if b then Some (when_stopped event, old) else refusal_going old event) old event o new) goes step

-- the session of a number, where those of the number are changed
module _ (f : Session → Session) (keeps : (s : Session) → (f s).number ≡ s.number) (n : ℕ) where
  abbrev at_number : Session → Session
  at_number s = if is_session n s then f s else s

  at_true : (s : Session) → is_session n s ≡ true → at_number s ≡ f s
  at_true s e = rw e refl

  at_false : (s : Session) → is_session n s ≡ false → at_number s ≡ s
  at_false s e = rw e refl

  found : (s : Session) (rest : List Session) (b : Bool) → is_session n s ≡ b → find (is_session n) (s ∷ rest) ≡ (if b then Some s else find (is_session n) rest)
  found s rest b e = ap (λ (c : Bool). if c then Some s else find (is_session n) rest) e

  changed_by : (s : Session) (b : Bool) (rest : List Session) → is_session n s ≡ b → find (is_session n) (map at_number rest) ≡ option_map f (find (is_session n) rest)
      → find (is_session n) (map at_number (s ∷ rest)) ≡ option_map f (find (is_session n) (s ∷ rest))
  changed_by s true rest e ih =
      ap (λ (t : Session). find (is_session n) (t ∷ map at_number rest)) (at_true s e) ∙ found (f s) (map at_number rest) true (ap (λ (m : ℕ). m == n) (keeps s) ∙ e)
      ∙ ap (λ (o : Option Session). option_map f o) (sym (found s rest true e))
  changed_by s false rest e ih =
      ap (λ (t : Session). find (is_session n) (t ∷ map at_number rest)) (at_false s e) ∙ found s (map at_number rest) false e
      ∙ ih ∙ ap (λ (o : Option Session). option_map f o) (sym (found s rest false e))

  changed : (sessions : List Session) → find (is_session n) (map at_number sessions) ≡ option_map f (find (is_session n) sessions)
  changed [] = refl
  changed (s ∷ rest) = changed_by s _ rest refl (changed rest)

-- a take that gives frames

module _ (n : ℕ) (old new : Hall) (frames : List Bytes) where
  decide : (lv nf : Bool) → StepBy (first_of ((not lv && nf, (Ended, without_session n old)) ∷ (lv && nf, (Empty, old)) ∷ [])) old (Take n) (Given frames) new → (nf ≡ false) × (new ≡ taken n old)
  decide true true step = let e : Given frames ≡ Empty = step.0 in absurd (cc)
  decide false true step = let e : Given frames ≡ Ended = step.0 in absurd (cc)
  decide true false (inl f) = let e : Given frames ≡ answer called.LogFault = f.1.0 in absurd (cc)
  decide true false (inr (inl f)) = let e : Given frames ≡ answer called.Memory = f.1.0 in absurd (cc)
  decide true false (inr (inr d)) = (refl, d.1)
  decide false false (inl f) = let e : Given frames ≡ answer called.LogFault = f.1.0 in absurd (cc)
  decide false false (inr (inl f)) = let e : Given frames ≡ answer called.Memory = f.1.0 in absurd (cc)
  decide false false (inr (inr d)) = (refl, d.1)

  wait_for : (o : Option Session) → StepBy (first_of ((ended o, (Ended, without_session n old)) ∷ (idle o, (Empty, old)) ∷ [])) old (Take n) (Given frames) new → (0 < length (frames_of o)) × (new ≡ taken n old)
  wait_for None step = let e : Given frames ≡ Ended = step.0 in absurd (cc)
  wait_for (Some s) step =
      let d = decide (is_live s) (no_frames s) step in
      let some : (length s.frames == 0) ≡ false = d.0 in
      (grind (arith, nat_tests), d.1)

left_of : (o : Option Session) → frames_of (option_map (λ (s : Session). record s { frames = drop take_frames s.frames }) o) ≡ drop take_frames (frames_of o)
left_of None = refl
left_of (Some s) = refl

less : (k l : ℕ) → k ≡ l - take_frames → 0 < l → k < l
less k l e some = omega (arith, e, some)

-- fewer frames wait behind a take that gave some
pub take_less : (n : ℕ) (old new : Hall) (frames : List Bytes) → old.stopped ≡ false → Step old (Take n) (Given frames) new → length (waiting n new) < length (waiting n old)
take_less n old new frames goes step =
    let w = wait_for n old new frames (session_of old n) (going old new (Take n) (Given frames) goes step) in
    let left : waiting n new ≡ drop take_frames (waiting n old) =
    ap (λ (h : Hall). waiting n h) w.1
    ∙ ap (λ (o : Option Session). frames_of o) (changed (λ (s : Session). record s { frames = drop take_frames s.frames }) (λ s. refl) n old.sessions)
    ∙ left_of (session_of old n) in
    less (length (waiting n new)) (length (waiting n old)) (ap (λ (l : List Bytes). length l) left ∙ length-drop take_frames (waiting n old)) w.0
