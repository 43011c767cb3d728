-- The writes that a step does.
use Rattle.std.proofs.Common.{◌≡◌, ℕ, ◌+◌, max, Bool, true, false, List, [], ◌∷◌, ◌++◌, map, Option, Some, None, refl, sym, ap, subst, ◌∙◌, arith}
use Rattle.std.specs.Prelude.{IfSome, if◌then◌else◌}
use Rattle.byte_text.specs.Names.{Bytes}
use Rattle.byte_text.specs.Replies.{frame_text}
use Rattle.world_model.specs.Subscriptions.{with_subs}
use Rattle.fence_model.specs.Writes.{Write}
use Rattle.world_model.specs.Effects.{Effect}
use Rattle.world_model.specs.Commands.{reads}
use Rattle.world_data.specs.Records.{record_len}
use Rattle.world_data.specs.Worlds.{after}
use Rattle.world_model.specs.Halls.{Hall, Session, is_live, session_of, place, place_all, deliveries, apply, apply_all, change_session, due}
use Rattle.world_model.specs.Halls.{close_session, closed_if, do_effect, effect_of, do_asked, do_live, do_call}
use Rattle.world_model.specs.Histories.{Ending, refusal, doing, stopped, is_fine}
use Rattle.world_data.specs.declared.worlds.World.{World}
use Rattle.world_data.specs.declared.worlds.Change.{Change}
use Rattle.world_model.specs.declared.events.Asked.{Asked}
use Rattle.world_model.specs.declared.events.Asked.TheVariants.{Words, Broken}
use Rattle.world_model.specs.declared.events.Event.{Event}
use Rattle.world_model.specs.declared.events.Event.TheVariants.{Enter, Call, Take, Tick, Close, Remove, Rewrite, Retire}
use Rattle.log_record.specs.Folding.{folded}
use Rattle.log_record.specs.EventWrites.{changes_of, logged_by, tick_writes, asked_writes, live_writes, call_writes, writes_of, writes_by}
use Rattle.log_record.specs.EventWrites.{Does}
use Rattle.log_record.specs.Laws.{StepsMakeTheirWrites}
use Rattle.log_record.specs.StepCases.{step_by_cases, refusal_by_cases}
use Rattle.log_record.specs.AnswerLaws.{stopped_says}

pub folded-append : (w : World) (one other : List Change) → folded w (one ++ other) ≡ folded (folded w one) other
folded-append w [] other = refl
folded-append w (c ∷ one) other = folded-append (after w c) one other

changes-append : (one other : List Write) → changes_of (one ++ other) ≡ changes_of one ++ changes_of other
changes-append [] other = refl
changes-append (d ∷ one) other = ap (λ l. d.change ∷ l) (changes-append one other)

logged-append : (one other : List Write) → logged_by (one ++ other) ≡ logged_by one + logged_by other
logged-append [] other = omega arith
logged-append (d ∷ one) other = omega (arith, logged-append one other)

-- nothing, and one thing behind another
does_none : (old new : Hall) → new.world ≡ old.world → new.logged ≡ old.logged → Does old new []
does_none old new world logged = record { world = world; logged = omega (arith, logged) }

does_then : (old mid new : Hall) (one other : List Write) → Does old mid one → Does mid new other → Does old new (one ++ other)
does_then old mid new one other first second = record {
  world = second.world ∙ ap (λ w. folded w (changes_of other)) first.world ∙ sym (folded-append old.world (changes_of one) (changes_of other))
      ∙ ap (folded old.world) (sym (changes-append one other));
  logged = omega (arith, second.logged, first.logged, logged-append one other);
}

-- placing frames changes neither
place_all_keeps : (h : Hall) (ds : List (ℕ × Bytes)) → ((place_all h ds).world ≡ h.world) × ((place_all h ds).logged ≡ h.logged)
place_all_keeps h [] = (refl, refl)
place_all_keeps h (d ∷ ds) = place_all_keeps (place h d) ds

apply_does : (h : Hall) (d : Write) → Does h (apply h d) (d ∷ [])
unfolding apply
apply_does h d = let kept = place_all_keeps (record h { world = after h.world d.change; logged = h.logged + record_len d.change })
    (deliveries h.world h.sessions d) in
    record { world = kept.0; logged = omega (arith, kept.1) }

apply_all_does : (h : Hall) (writes : List Write) → Does h (apply_all h writes) writes
apply_all_does h [] = does_none h h refl refl
apply_all_does h (d ∷ writes) = does_then h (apply h d) (apply_all (apply h d) writes) (d ∷ []) writes (apply_does h d)
    (apply_all_does (apply h d) writes)

-- before and behind writes a hall may be changed otherwise
does_from : (old mid new : Hall) (writes : List Write) → mid.world ≡ old.world → mid.logged ≡ old.logged → Does mid new writes → Does old new writes
does_from old mid new writes world logged does =
    record { world = does.world ∙ ap (λ w. folded w (changes_of writes)) world; logged = omega (arith, does.logged, logged) }

does_to : (old mid new : Hall) (writes : List Write) → new.world ≡ mid.world → new.logged ≡ mid.logged → Does old mid writes → Does old new writes
does_to old mid new writes world logged does = record { world = world ∙ does.world; logged = logged ∙ does.logged }

due_does : (h : Hall) (moment : ℕ) → Does h (due h moment) (tick_writes h moment)
due_does h moment = let later = record h { now = max h.now moment } in
    does_from h later (due h moment) (tick_writes h moment) refl refl (apply_all_does later (tick_writes h moment))

closed_does : (closes : Bool) (n : ℕ) (old h : Hall) (writes : List Write) → Does old h writes → Does old (closed_if closes n h) writes
closed_does true n old h writes does = does_to old h (close_session n h) writes refl refl does
closed_does false n old h writes does = does

effect_does : (h : Hall) (n : ℕ) (e : Effect) → Does h (do_effect h n e) e.writes
effect_does h n e =
    let subscribed : Hall = change_session (λ s. record s { subs = with_subs s.subs e.subs }) n h in
    let frames : List (ℕ × Bytes) = map (λ r. (n, frame_text r)) e.replies in
    let placed : Hall = place_all subscribed frames in
    let kept = place_all_keeps subscribed frames in
    closed_does e.closes n h (apply_all placed e.writes) e.writes
    (does_from h placed (apply_all placed e.writes) e.writes kept.0 kept.1 (apply_all_does placed e.writes))

asked_does : (h : Hall) (s : Session) (asked : Asked) → Does h (do_asked h s asked) (asked_writes h s asked)
asked_does h s (Words words) = effect_does h s.number (effect_of h s (reads words))
asked_does h s (Broken fault) = does_none h (do_asked h s (Broken fault)) refl refl

live_does : (h : Hall) (s : Option Session) (asked : Asked) → Does h (do_live h s asked) (live_writes h s asked)
live_does h None asked = does_none h h refl refl
live_does h (Some s) asked = elim (is_live s) as (λ b. Does h (if b then do_asked h s asked else h) (if b then asked_writes h s asked else []))
    [ true ↦ asked_does h s asked | false ↦ does_none h h refl refl ]

call_does : (h : Hall) (n : ℕ) (asked : Asked) → Does h (do_call h n asked) (call_writes h n asked)
unfolding do_call
call_does h n asked = live_does h (session_of h n) asked

done_does : (h : Hall) (event : Event) → Does h (doing h event).1 (writes_by h event (doing h event).0)
done_does h Enter = does_none h (doing h Enter).1 refl refl
done_does h (Call n moment asked) = does_then h (due h moment) (do_call (due h moment) n asked) (tick_writes h moment)
    (call_writes (due h moment) n asked) (due_does h moment) (call_does (due h moment) n asked)
done_does h (Take n) = does_none h (doing h (Take n)).1 refl refl
done_does h (Tick moment) = due_does h moment
done_does h (Close n) = does_none h (doing h (Close n)).1 refl refl
done_does h (Remove n) = does_none h (doing h (Remove n)).1 refl refl
done_does h Rewrite = does_none h h refl refl
done_does h Retire = does_none h (stopped h) refl refl

-- a refusal does nothing
abbrev Idle : Hall → Ending → Type 0
Idle h e = (is_fine e.0 ≡ false) × (e.1.world ≡ h.world) × (e.1.logged ≡ h.logged)

refusal_idle : (h : Hall) (event : Event) → IfSome (refusal h event) (Idle h)
refusal_idle h event = refusal_by_cases (Idle h) h event (λ stops. ((stopped_says event).not_fine, refl, refl)) (record {
  too_many = λ holds. (refl, refl, refl);
  spent = λ holds. (refl, refl, refl);
  no_session = λ n holds. (refl, refl, refl);
  no_room = λ n holds. (refl, refl, refl);
  at_end = λ n holds. (refl, refl, refl);
  nothing_now = λ n holds. (refl, refl, refl);
})

idle_does : (h : Hall) (event : Event) (x : Option Ending) → IfSome x (Idle h) → IfSome x (λ e. Does h e.1 (writes_by h event e.0))
idle_does h event None idle = tt
idle_does h event (Some e) idle = subst (λ b. Does h e.1 (if b then writes_of h event else [])) (sym idle.0) (does_none h e.1 idle.1 idle.2)

pub steps_make_their_writes : StepsMakeTheirWrites
steps_make_their_writes old new event outcome step =
    step_by_cases (λ outcome n. Does old n (writes_by old event outcome)) (refusal old event) old event outcome new
    (idle_does old event (refusal old event) (refusal_idle old event))
    (does_none old (stopped old) refl refl) (does_none old old refl refl) (done_does old event) step
