-- A hall that goes on goes on behind an event, unless the log failed or it was retired; and what its answers say.
use Rattle.std.proofs.Common.{◌≡◌, ◌≢◌, ℕ, ◌+◌, Bool, true, false, true≢false, refl, sym, subst, ◌∙◌, List, [], ◌∷◌}
use Rattle.std.specs.Prelude.{Option, Some, None, max, map, if◌then◌else◌}
use Rattle.std.proofs.lemmas.Bool.{leb-true}
use Rattle.byte_text.specs.Names.{Bytes}
use Rattle.fence_model.specs.Writes.{Write, due_writes}
use Rattle.byte_text.specs.Replies.{frame_text}
use Rattle.world_model.specs.Subscriptions.{with_subs}
use Rattle.world_data.specs.Limits.{most_logged}
use Rattle.world_data.specs.Worlds.{after}
use Rattle.world_data.specs.Records.{record_len}
use Rattle.world_model.specs.Effects.{Effect}
use Rattle.world_model.specs.Commands.{reads}
use Rattle.world_model.specs.declared.events.Asked.{Asked}
use Rattle.world_model.specs.declared.events.Asked.TheVariants.{Words, Broken}
use Rattle.world_model.specs.declared.events.CallOutcome.TheVariants as called
use Rattle.world_model.specs.declared.events.Event.{Event}
use Rattle.world_model.specs.declared.events.Event.TheVariants.{Enter, Call, Take, Tick, Close, Remove, Rewrite, Retire}
use Rattle.world_model.specs.declared.events.Outcome.{Outcome}
use Rattle.world_model.specs.Halls.{Hall, Session, is_live, session_of, change_session, place, place_all, deliveries, apply, apply_all, due, closed_if, do_effect, effect_of, do_asked, do_live, do_call}
use Rattle.world_model.specs.Histories.{StepBy, refusal, Step, answer, is_spent, refusal_going, when_stopped, doing, stopped}
use Rattle.log_record.specs.AnswerLaws.{doing_says}
use Rattle.log_record.specs.Journals.{is_retire}
use Rattle.log_record.specs.StepCases.{step_by_cases, refusal_by_cases}
use Rattle.replay_run.specs.Undone.{IsSpent}

placed_on : (h : Hall) (ds : List (ℕ × Bytes)) → (place_all h ds).stopped ≡ h.stopped
placed_on h [] = refl
placed_on h (d ∷ ds) = placed_on (place h d) ds

applied_on : (h : Hall) (d : Write) → (apply h d).stopped ≡ h.stopped
unfolding apply
applied_on h d = placed_on (record h { world = after h.world d.change; logged = h.logged + record_len d.change }) (deliveries h.world h.sessions d)

all_applied_on : (h : Hall) (ds : List Write) → (apply_all h ds).stopped ≡ h.stopped
all_applied_on h [] = refl
all_applied_on h (d ∷ ds) = all_applied_on (apply h d) ds ∙ applied_on h d

closed_on : (c : Bool) (n : ℕ) (h : Hall) → (closed_if c n h).stopped ≡ h.stopped
closed_on true n h = refl
closed_on false n h = refl

-- the replies of an effect are placed
abbrev replied : Hall → ℕ → Effect → Hall
replied h n e = place_all (change_session (λ s. record s { subs = with_subs s.subs e.subs }) n h) (map (λ r. (n, frame_text r)) e.replies)

effect_on : (h : Hall) (n : ℕ) (e : Effect) → (do_effect h n e).stopped ≡ h.stopped
effect_on h n e = closed_on e.closes n (apply_all (replied h n e) e.writes) ∙ all_applied_on (replied h n e) e.writes
    ∙ placed_on (change_session (λ s. record s { subs = with_subs s.subs e.subs }) n h) (map (λ r. (n, frame_text r)) e.replies)

asked_on : (h : Hall) (s : Session) (asked : Asked) → (do_asked h s asked).stopped ≡ h.stopped
asked_on h s (Words words) = effect_on h s.number (effect_of h s (reads words))
asked_on h s (Broken f) = refl

if_on : (t : Bool) (h : Hall) (s : Session) (asked : Asked) → (if t then do_asked h s asked else h).stopped ≡ h.stopped
if_on true h s asked = asked_on h s asked
if_on false h s asked = refl

live_on : (h : Hall) (o : Option Session) (asked : Asked) → (do_live h o asked).stopped ≡ h.stopped
live_on h None asked = refl
live_on h (Some s) asked = if_on (is_live s) h s asked

call_on : (h : Hall) (n : ℕ) (asked : Asked) → (do_call h n asked).stopped ≡ h.stopped
unfolding do_call
call_on h n asked = live_on h (session_of h n) asked

due_on : (h : Hall) (m : ℕ) → (due h m).stopped ≡ h.stopped
due_on h m = all_applied_on (record h { now = max h.now m }) (due_writes h.world (max h.now m))

doing_on : (h : Hall) (e : Event) → is_retire e ≡ false → (doing h e).1.stopped ≡ h.stopped
doing_on h Enter other = refl
doing_on h (Call n m asked) other = call_on (due h m) n asked ∙ due_on h m
doing_on h (Take n) other = refl
doing_on h (Tick m) other = due_on h m
doing_on h (Close n) other = refl
doing_on h (Remove n) other = refl
doing_on h Rewrite other = refl
doing_on h Retire other = absurd (cc)

-- a hall that goes on is asked
pub while_going : (b : Bool) (h next : Hall) (e : Event) (o : Outcome) → b ≡ false → StepBy (if b then Some (when_stopped e, h) else refusal_going h e) h e o next → StepBy (refusal_going h e) h e o next
while_going true h next e o goes s = absurd (cc)
while_going false h next e o goes s = s

pub goes_on : (h next : Hall) (e : Event) (o : Outcome) → is_retire e ≡ false → o ≢ answer called.LogFault → h.stopped ≡ false → Step h e o next → next.stopped ≡ false
goes_on h next e o other works goes s = step_by_cases (λ p n. p ≢ answer called.LogFault → n.stopped ≡ h.stopped) (refusal h e) h e o next
    (refusal_by_cases (λ x. x.0 ≢ answer called.LogFault → x.1.stopped ≡ h.stopped) h e (λ _ _. refl) (record {
      too_many = λ _ _. refl;
      spent = λ _ _. refl;
      no_session = λ _ _ _. refl;
      no_room = λ _ _ _. refl;
      at_end = λ _ _ _. refl;
      nothing_now = λ _ _ _. refl;
    }))
    (λ never. absurd (never refl)) (λ _. refl) (λ _. doing_on h e other) s works ∙ goes

-- a hall that goes on is not found stopped
pub not_found_stopped : (h next : Hall) (e : Event) (o : Outcome) → h.stopped ≡ false → Step h e o next → o ≢ answer called.Stopped
not_found_stopped h next e o goes = step_by_cases (λ p n. p ≢ answer called.Stopped) (refusal h e) h e o next
    (refusal_by_cases (λ x. x.0 ≢ answer called.Stopped) h e (λ stops. absurd (true≢false (sym stops ∙ goes))) (record {
      too_many = λ _ is. cc;
      spent = λ _ is. cc;
      no_session = λ _ _ is. cc;
      no_room = λ _ _ is. cc;
      at_end = λ _ _ is. cc;
      nothing_now = λ _ _ is. cc;
    }))
    (λ is. cc) (λ is. cc) (doing_says h e).goes_on

-- the log is at its greatest length, and nothing is done
abbrev IsLong : Hall → Hall → Type 0
IsLong h next = (is_spent h ≡ true) × (next ≡ h)

spent_is_long : (h next : Hall) (e : Event) (o : Outcome) → h.stopped ≡ false → Step h e o next → o ≡ answer called.Spent → IsLong h next
spent_is_long h next e o goes = step_by_cases (λ p n. p ≡ answer called.Spent → IsLong h n) (refusal h e) h e o next
    (refusal_by_cases (λ x. x.0 ≡ answer called.Spent → IsLong h x.1) h e (λ stops. absurd (true≢false (sym stops ∙ goes))) (record {
      too_many = λ _ is. absurd (cc);
      spent = λ long _. (long, refl);
      no_session = λ _ _ is. absurd (cc);
      no_room = λ _ _ is. absurd (cc);
      at_end = λ _ _ is. absurd (cc);
      nothing_now = λ _ _ is. absurd (cc);
    }))
    (λ is. absurd (cc)) (λ is. absurd (cc)) (λ is. absurd ((doing_says h e).has_room is))

pub found_spent : (h next : Hall) (e : Event) → h.stopped ≡ false → Step h e (answer called.Spent) next → IsSpent h e × (next ≡ h)
found_spent h next e goes s =
    let long = spent_is_long h next e (answer called.Spent) goes s refl in
    (record { long = leb-true most_logged h.logged long.0; step = subst (λ (z : Hall). Step h e (answer called.Spent) z) long.1 s }, long.1)
