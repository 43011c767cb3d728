-- The length of the log is told by nothing else that a step does, but where it has come to its end.
use Rattle.std.proofs.Common.{◌≡◌, ◌≢◌, ℕ, Bool, true, false, refl, sym, ap, ◌∙◌, List, [], ◌∷◌, inl, inr}
use Rattle.std.specs.Prelude.{Option, Some, None, Result, Ok, Err, option_map, map, max, if◌then◌else◌}
use Rattle.byte_text.specs.Names.{Bytes}
use Rattle.byte_text.specs.Replies.{frame_text}
use Rattle.fence_model.specs.Writes.{Write, due_writes}
use Rattle.world_model.specs.Effects.{Effect}
use Rattle.world_model.specs.Commands.{reads}
use Rattle.world_model.specs.Subscriptions.{with_subs}
use Rattle.world_model.specs.declared.commands.Command.{Command}
use Rattle.world_model.specs.declared.faults.WordFault.{WordFault}
use Rattle.world_model.specs.declared.events.Asked.{Asked}
use Rattle.world_model.specs.declared.events.Asked.TheVariants.{Words, Broken}
use Rattle.world_model.specs.declared.events.CallOutcome.TheVariants as called
use Rattle.world_model.specs.declared.events.Event.{Event}
use Rattle.world_model.specs.declared.events.Event.TheVariants.{Enter, Call, Take, Tick, Close, Remove, Rewrite, Retire}
use Rattle.world_model.specs.declared.events.Outcome.{Outcome}
use Rattle.world_model.specs.Halls.{Hall, Session, is_live, session_of, change_session, place, place_all, deliveries, apply, apply_all, due, closed_if, do_effect, effect_of, do_asked, do_live, do_call}
use Rattle.world_model.specs.Histories.{Ending, StepBy, Step, answer, is_spent, gone, full, first_of, enter_tests, take_tests, refusal_going, when_stopped, doing, stopped}
use Rattle.replay_run.specs.OneOutput.{silent}

quiet_all : (h : Hall) (ds : List (ℕ × Bytes)) → silent (place_all h ds) ≡ place_all (silent h) ds
quiet_all h [] = refl
quiet_all h (d ∷ ds) = quiet_all (place h d) ds

quiet_apply : (h : Hall) (d : Write) → silent (apply h d) ≡ silent (apply (silent h) d)
unfolding apply
quiet_apply h d = quiet_all _ (deliveries h.world h.sessions d) ∙ sym (quiet_all _ (deliveries h.world h.sessions d))

quiet_writes : (h : Hall) (ds : List Write) → silent (apply_all h ds) ≡ silent (apply_all (silent h) ds)
quiet_writes h [] = refl
quiet_writes h (d ∷ ds) = quiet_writes (apply h d) ds ∙ ap (λ (z : Hall). silent (apply_all z ds)) (quiet_apply h d) ∙ sym (quiet_writes (apply (silent h) d) ds)

quiet_due : (h : Hall) (m : ℕ) → silent (due h m) ≡ silent (due (silent h) m)
quiet_due h m = quiet_writes (record h { now = max h.now m }) (due_writes h.world (max h.now m))

quiet_closed : (c : Bool) (n : ℕ) (h : Hall) → silent (closed_if c n h) ≡ closed_if c n (silent h)
quiet_closed true n h = refl
quiet_closed false n h = refl

-- the replies of an effect are placed
abbrev replied : Hall → ℕ → Effect → Hall
replied h n e = place_all (change_session (λ s. record s { subs = with_subs s.subs e.subs }) n h) (map (λ r. (n, frame_text r)) e.replies)

quiet_replied : (h : Hall) (n : ℕ) (e : Effect) → silent (replied h n e) ≡ replied (silent h) n e
quiet_replied h n e = quiet_all (change_session (λ s. record s { subs = with_subs s.subs e.subs }) n h) (map (λ r. (n, frame_text r)) e.replies)

quiet_effect : (h : Hall) (n : ℕ) (e : Effect) → silent (do_effect h n e) ≡ silent (do_effect (silent h) n e)
quiet_effect h n e =
    quiet_closed e.closes n (apply_all (replied h n e) e.writes)
    ∙ ap (closed_if e.closes n) (quiet_writes (replied h n e) e.writes ∙ ap (λ (z : Hall). silent (apply_all z e.writes)) (quiet_replied h n e))
    ∙ sym (quiet_closed e.closes n (apply_all (replied (silent h) n e) e.writes))

same_effect : (h : Hall) (s : Session) (a : Result Command WordFault) → effect_of h s a ≡ effect_of (silent h) s a
same_effect h s (Ok c) = refl
same_effect h s (Err f) = refl

quiet_asked : (h : Hall) (s : Session) (asked : Asked) → silent (do_asked h s asked) ≡ silent (do_asked (silent h) s asked)
quiet_asked h s (Words words) =
    quiet_effect h s.number (effect_of h s (reads words))
    ∙ ap (λ (e : Effect). silent (do_effect (silent h) s.number e)) (same_effect h s (reads words))
quiet_asked h s (Broken f) = refl

quiet_if : (t : Bool) (h : Hall) (s : Session) (asked : Asked) → silent (if t then do_asked h s asked else h) ≡ silent (if t then do_asked (silent h) s asked else silent h)
quiet_if true h s asked = quiet_asked h s asked
quiet_if false h s asked = refl

quiet_live : (h : Hall) (o : Option Session) (asked : Asked) → silent (do_live h o asked) ≡ silent (do_live (silent h) o asked)
quiet_live h None asked = refl
quiet_live h (Some s) asked = quiet_if (is_live s) h s asked

quiet_call : (h : Hall) (n : ℕ) (asked : Asked) → silent (do_call h n asked) ≡ silent (do_call (silent h) n asked)
unfolding do_call
quiet_call h n asked = quiet_live h (session_of h n) asked

quiet_called : (h : Hall) (n m : ℕ) (asked : Asked) → silent (do_call (due h m) n asked) ≡ silent (do_call (due (silent h) m) n asked)
quiet_called h n m asked =
    quiet_call (due h m) n asked ∙ ap (λ (z : Hall). silent (do_call z n asked)) (quiet_due h m) ∙ sym (quiet_call (due (silent h) m) n asked)

quiet_doing : (h : Hall) (e : Event) → ((doing (silent h) e).0 ≡ (doing h e).0) × (silent (doing (silent h) e).1 ≡ silent (doing h e).1)
quiet_doing h Enter = (refl, refl)
quiet_doing h (Call n m asked) = (refl, sym (quiet_called h n m asked))
quiet_doing h (Take n) = (refl, refl)
quiet_doing h (Tick m) = (refl, sym (quiet_due h m))
quiet_doing h (Close n) = (refl, refl)
quiet_doing h (Remove n) = (refl, refl)
quiet_doing h Rewrite = (refl, refl)
quiet_doing h Retire = (refl, refl)

-- an ending, but for the length of the log
abbrev quiet : Ending → Ending
quiet e = (e.0, silent e.1)

abbrev quiet_tests : List (Bool × Ending) → List (Bool × Ending)
quiet_tests tests = map (λ t. (t.0, quiet t.1)) tests

quiet_test : (b : Bool) (e : Ending) (o p : Option Ending) → option_map quiet o ≡ p → option_map quiet (if b then Some e else o) ≡ (if b then Some (quiet e) else p)
quiet_test true e o p same = refl
quiet_test false e o p same = same

quiet_first : (tests : List (Bool × Ending)) → option_map quiet (first_of tests) ≡ first_of (quiet_tests tests)
quiet_first [] = refl
quiet_first (t ∷ tests) = quiet_test t.0 t.1 (first_of tests) (first_of (quiet_tests tests)) (quiet_first tests)

-- the same event of the same hall with an empty log ends so
abbrev QuietBy : Option Ending → Hall → Event → Outcome → Hall → Type 0
QuietBy r h e o next = (other : Hall) × StepBy r (silent h) e o other × (silent other ≡ silent next)

quiet_by : (r : Option Ending) (h next : Hall) (e : Event) (o : Outcome) → StepBy r h e o next → QuietBy (option_map quiet r) h e o next
quiet_by (Some x) h next e o s = (silent x.1, (s.0, refl), ap silent (sym s.1))
quiet_by None h next e o (inl f) = (silent (stopped h), inl (f.0, (f.1.0, refl)), ap silent (sym f.1.1))
quiet_by None h next e o (inr (inl m)) = (silent h, inr (inl (m.0, (m.1.0, refl))), ap silent (sym m.1.1))
quiet_by None h next e o (inr (inr d)) = ((doing (silent h) e).1, inr (inr (d.0 ∙ sym (quiet_doing h e).0, refl)), (quiet_doing h e).1 ∙ ap silent (sym d.1))

quiet_as : (r p : Option Ending) (h next : Hall) (e : Event) (o : Outcome) → option_map quiet r ≡ p → StepBy r h e o next → QuietBy p h e o next
quiet_as r p h next e o same s = rw (sym same) (quiet_by r h next e o s)

-- the log is not at its end
past_spent : (b : Bool) (rest others : Option Ending) (h next : Hall) (e : Event) (o : Outcome) → o ≢ answer called.Spent → option_map quiet rest ≡ others
    → StepBy (if b then Some (answer called.Spent, h) else rest) h e o next → QuietBy (if is_spent (silent h) then Some (answer called.Spent, silent h) else others) h e o next
past_spent true rest others h next e o goes same s = absurd (goes s.0)
past_spent false rest others h next e o goes same s = quiet_as rest others h next e o same s

quiet_going : (h next : Hall) (e : Event) (o : Outcome) → o ≢ answer called.Spent → StepBy (refusal_going h e) h e o next → QuietBy (refusal_going (silent h) e) h e o next
quiet_going h next Enter o goes s = quiet_as (refusal_going h Enter) (refusal_going (silent h) Enter) h next Enter o (quiet_first (enter_tests h)) s
quiet_going h next (Call n m asked) o goes s =
    past_spent (is_spent h) (first_of ((gone (session_of h n), (answer called.Gone, h)) ∷ (full (session_of h n), (answer called.Full, h)) ∷ []))
    (first_of ((gone (session_of h n), (answer called.Gone, silent h)) ∷ (full (session_of h n), (answer called.Full, silent h)) ∷ [])) h next (Call n m asked) o goes (quiet_first ((gone (session_of h n), (answer called.Gone, h)) ∷ (full (session_of h n), (answer called.Full, h)) ∷ [])) s
quiet_going h next (Take n) o goes s = quiet_as (refusal_going h (Take n)) (refusal_going (silent h) (Take n)) h next (Take n) o (quiet_first (take_tests h n)) s
quiet_going h next (Tick m) o goes s = past_spent (is_spent h) None None h next (Tick m) o goes refl s
quiet_going h next (Close n) o goes s = quiet_by None h next (Close n) o s
quiet_going h next (Remove n) o goes s = quiet_by None h next (Remove n) o s
quiet_going h next Rewrite o goes s = quiet_by None h next Rewrite o s
quiet_going h next Retire o goes s = quiet_by None h next Retire o s

by_stop : (b : Bool) (h next : Hall) (e : Event) (o : Outcome) → o ≢ answer called.Spent → StepBy (if b then Some (when_stopped e, h) else refusal_going h e) h e o next
    → QuietBy (if b then Some (when_stopped e, silent h) else refusal_going (silent h) e) h e o next
by_stop true h next e o goes s = quiet_by (Some (when_stopped e, h)) h next e o s
by_stop false h next e o goes s = quiet_going h next e o goes s

-- a step that was not refused for the length of the log is one of a hall with an empty log
pub quiet_step : (h next : Hall) (e : Event) (o : Outcome) → o ≢ answer called.Spent → Step h e o next → (other : Hall) × Step (silent h) e o other × (silent other ≡ silent next)
quiet_step h next e o goes s = by_stop h.stopped h next e o goes s
