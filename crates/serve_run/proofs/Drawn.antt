-- No session number is given out twice.
use Rattle.std.proofs.Common.{◌≡◌, ◌⊎◌, ◌≤◌, ◌<◌, ◌+◌, ℕ, Bool, true, false, List, [], ◌∷◌, ◌++◌, refl, sym, ap, ◌∙◌, subst, inl, inr, arith}
use Rattle.std.specs.Prelude.{Option, Some, None, map, max, ◌||◌, if◌then◌else◌}
use Rattle.std.specs.List.{AllByRecursion}
use Rattle.byte_text.specs.Names.{Bytes}
use Rattle.byte_text.specs.Replies.{frame_text}
use Rattle.fence_model.specs.Writes.{Write, due_writes}
use Rattle.world_data.specs.Records.{record_len}
use Rattle.world_data.specs.Worlds.{after}
use Rattle.world_model.specs.Commands.{reads}
use Rattle.world_model.specs.Effects.{Effect}
use Rattle.world_model.specs.Halls.{Hall, Session, is_live, session_of, change_session, place, place_all, apply, apply_all, due, closed_if, do_effect, effect_of, do_asked, do_live, do_call, deliveries}
use Rattle.world_model.specs.Histories.{Ending, Step, StepBy, Leads, refusal, refusal_going, when_stopped, first_of, enter_tests, call_tests, take_tests, tick_tests, doing, gives_disk}
use Rattle.world_model.specs.Seats.{Act, act_of}
use Rattle.world_model.specs.Subscriptions.{with_subs}
use Rattle.world_model.specs.declared.events.Asked.{Asked}
use Rattle.world_model.specs.declared.events.Asked.TheVariants.{Words, Broken}
use Rattle.world_model.specs.declared.events.Entry.{Entry}
use Rattle.world_model.specs.declared.events.Event.{Event}
use Rattle.world_model.specs.declared.events.Event.TheVariants.{Enter, Call, Take, Tick, Close, Remove, Rewrite, Retire}
use Rattle.world_model.specs.declared.events.Outcome.{Outcome}
use Rattle.world_model.specs.declared.events.Outcome.TheVariants.{Entered}

-- ---- what an event does to the last number that was given out

placed_drawn : (h : Hall) (ds : List (ℕ × Bytes)) → (place_all h ds).drawn ≡ h.drawn
placed_drawn h [] = refl
placed_drawn h (d ∷ ds) = placed_drawn (place h d) ds

apply_drawn : (h : Hall) (d : Write) → (apply h d).drawn ≡ h.drawn
unfolding apply
apply_drawn h d = placed_drawn (record h { world = after h.world d.change; logged = h.logged + record_len d.change }) (deliveries h.world h.sessions d)

applied_drawn : (h : Hall) (ds : List Write) → (apply_all h ds).drawn ≡ h.drawn
applied_drawn h [] = refl
applied_drawn h (d ∷ ds) = applied_drawn (apply h d) ds ∙ apply_drawn h d

due_drawn : (h : Hall) (moment : ℕ) → (due h moment).drawn ≡ h.drawn
due_drawn h moment = applied_drawn (record h { now = max h.now moment }) (due_writes h.world (max h.now moment))

closed_drawn : (b : Bool) (n : ℕ) (h : Hall) → (closed_if b n h).drawn ≡ h.drawn
closed_drawn true n h = refl
closed_drawn false n h = refl

effect_drawn : (h : Hall) (n : ℕ) (e : Effect) → (do_effect h n e).drawn ≡ h.drawn
effect_drawn h n e =
    let subscribed : Hall = change_session (λ s. record s { subs = with_subs s.subs e.subs }) n h in
    let replied : Hall = place_all subscribed (map (λ r. (n, frame_text r)) e.replies) in
    closed_drawn e.closes n (apply_all replied e.writes) ∙ applied_drawn replied e.writes ∙ placed_drawn subscribed (map (λ r. (n, frame_text r)) e.replies)

asked_drawn : (h : Hall) (s : Session) (asked : Asked) → (do_asked h s asked).drawn ≡ h.drawn
asked_drawn h s (Words words) = effect_drawn h s.number (effect_of h s (reads words))
asked_drawn h s (Broken f) = refl

live_drawn : (b : Bool) (h : Hall) (s : Session) (asked : Asked) → (if b then do_asked h s asked else h).drawn ≡ h.drawn
live_drawn true h s asked = asked_drawn h s asked
live_drawn false h s asked = refl

found_drawn : (h : Hall) (o : Option Session) (asked : Asked) → (do_live h o asked).drawn ≡ h.drawn
found_drawn h None asked = refl
found_drawn h (Some s) asked = live_drawn (is_live s) h s asked

call_drawn : (h : Hall) (n : ℕ) (asked : Asked) → (do_call h n asked).drawn ≡ h.drawn
unfolding do_call
call_drawn h n asked = found_drawn h (session_of h n) asked

no_less : (a b : ℕ) → b ≡ a → a ≤ b
no_less a b e = omega (arith, e)

doing_drawn : (h : Hall) (event : Event) → h.drawn ≤ (doing h event).1.drawn
doing_drawn h Enter = omega arith
doing_drawn h (Call n moment asked) = no_less h.drawn (do_call (due h moment) n asked).drawn (call_drawn (due h moment) n asked ∙ due_drawn h moment)
doing_drawn h (Take n) = omega arith
doing_drawn h (Tick moment) = no_less h.drawn (due h moment).drawn (due_drawn h moment)
doing_drawn h (Close n) = omega arith
doing_drawn h (Remove n) = omega arith
doing_drawn h Rewrite = omega arith
doing_drawn h Retire = omega arith

-- an ending that is decided alone leaves it
abbrev Stays : Hall → Bool × Ending → Type 0
Stays h e = e.1.1.drawn ≡ h.drawn

picked : (b : Bool) (e found : Ending) (rest : Option Ending) (h : Hall) → e.1.drawn ≡ h.drawn → (rest ≡ Some found → found.1.drawn ≡ h.drawn)
    → (if b then Some e else rest) ≡ Some found → found.1.drawn ≡ h.drawn
picked true e found rest h here later f = let same : e ≡ found = cc in subst (λ (x : Ending). x.1.drawn ≡ h.drawn) same here
picked false e found rest h here later f = later f

first_stays : (endings : List (Bool × Ending)) (found : Ending) (h : Hall) → AllByRecursion (Stays h) endings → first_of endings ≡ Some found → found.1.drawn ≡ h.drawn
first_stays [] found h all f = absurd (cc)
first_stays (e ∷ endings) found h all f = picked e.0 e.1 found (first_of endings) h all.0 (first_stays endings found h all.1) f

going_stays : (h : Hall) (event : Event) (found : Ending) → refusal_going h event ≡ Some found → found.1.drawn ≡ h.drawn
going_stays h Enter found f = first_stays (enter_tests h) found h (refl, tt) f
going_stays h (Call n moment asked) found f = first_stays (call_tests h n) found h (refl, (refl, (refl, tt))) f
going_stays h (Take n) found f = first_stays (take_tests h n) found h (refl, (refl, tt)) f
going_stays h (Tick moment) found f = first_stays (tick_tests h) found h (refl, tt) f
going_stays h (Close n) found f = absurd (cc)
going_stays h (Remove n) found f = absurd (cc)
going_stays h Rewrite found f = absurd (cc)
going_stays h Retire found f = absurd (cc)

refusal_stays : (b : Bool) (h : Hall) (event : Event) (found : Ending) → (if b then Some (when_stopped event, h) else refusal_going h event) ≡ Some found
    → found.1.drawn ≡ h.drawn
refusal_stays true h event found f = let same : (when_stopped event, h) ≡ found = cc in subst (λ (x : Ending). x.1.drawn ≡ h.drawn) same refl
refusal_stays false h event found f = going_stays h event found f

by_refusal : (o : Option Ending) (old new : Hall) (event : Event) (outcome : Outcome) → ((e : Ending) → o ≡ Some e → e.1.drawn ≡ old.drawn)
    → StepBy o old event outcome new → old.drawn ≤ new.drawn
by_refusal (Some e) old new event outcome stays step = no_less old.drawn new.drawn (ap (λ (h : Hall). h.drawn) step.1 ∙ stays e refl)
by_refusal None old new event outcome stays (inl step) = no_less old.drawn new.drawn (ap (λ (h : Hall). h.drawn) step.1.1)
by_refusal None old new event outcome stays (inr (inl step)) = no_less old.drawn new.drawn (ap (λ (h : Hall). h.drawn) step.1.1)
by_refusal None old new event outcome stays (inr (inr step)) = subst (λ (h : Hall). old.drawn ≤ h.drawn) (sym step.1) (doing_drawn old event)

step_drawn : (old new : Hall) (event : Event) (outcome : Outcome) → Step old event outcome new → old.drawn ≤ new.drawn
step_drawn old new event outcome step = by_refusal (refusal old event) old new event outcome (λ e f. refusal_stays old.stopped old event e f) step

-- ---- an Enter gives out the next number

too_many : (b : Bool) (old : Hall) (e : Ending) (n : ℕ) → first_of ((b, (Rattle.world_model.specs.declared.events.Outcome.TheVariants.TooMany, old)) ∷ []) ≡ Some e → e.0 ≡ Entered n → ⊥
too_many true old e n f is = absurd (cc)
too_many false old e n f is = absurd (cc)

not_refused : (b : Bool) (old : Hall) (e : Ending) (n : ℕ) → (if b then Some (when_stopped Enter, old) else refusal_going old Enter) ≡ Some e → e.0 ≡ Entered n → ⊥
not_refused true old e n f is = absurd (cc)
not_refused false old e n f is = too_many _ old e n f is

same_number : (a b : ℕ) → Entered a ≡ Entered b → a ≡ b
same_number a b e = cc

enters : (o : Option Ending) (old new : Hall) (n : ℕ) → ((e : Ending) → o ≡ Some e → e.0 ≡ Entered n → ⊥) → StepBy o old Enter (Entered n) new
    → (n ≡ old.drawn + 1) × (new.drawn ≡ old.drawn + 1)
enters (Some e) old new n none step = absurd (none e refl (sym step.0))
enters None old new n none (inl step) = absurd (cc)
enters None old new n none (inr (inl step)) = absurd (cc)
enters None old new n none (inr (inr step)) = (same_number n (old.drawn + 1) step.0, ap (λ (h : Hall). h.drawn) step.1)

enter_drawn : (old new : Hall) (n : ℕ) → Step old Enter (Entered n) new → (n ≡ old.drawn + 1) × (new.drawn ≡ old.drawn + 1)
enter_drawn old new n step = enters (refusal old Enter) old new n (λ e f is. not_refused old.stopped old e n f is) step

-- ---- over a history

-- an entry of this event and outcome is among these
abbrev pub HasAct : Act → List Entry → Type 0
HasAct a [] = ⊥
HasAct a (e ∷ entries) = (act_of e ≡ a) ⊎ HasAct a entries

pub has_more : (a : Act) (entries more : List Entry) → HasAct a entries → HasAct a (entries ++ more)
has_more a [] more i = absurd i
has_more a (e ∷ entries) more (inl is) = inl is
has_more a (e ∷ entries) more (inr i) = inr (has_more a entries more i)

pub has_last : (a : Act) (entries : List Entry) (e : Entry) → act_of e ≡ a → HasAct a (entries ++ e ∷ [])
has_last a [] e is = inl is
has_last a (x ∷ entries) e is = inr (has_last a entries e is)

enter_step : (h next : Hall) (e : Entry) (n : ℕ) → act_of e ≡ (Enter, Entered n) → Step h e.event e.outcome next → (n ≡ h.drawn + 1) × (next.drawn ≡ h.drawn + 1)
enter_step h next e n is step = enter_drawn h next n
    (subst (λ (o : Outcome). Step h Enter o next) (ap (λ (a : Act). a.1) is) (subst (λ (x : Event). Step h x e.outcome next) (ap (λ (a : Act). a.0) is) step))

above : (h last : Hall) (moment count : ℕ) (is_out : Bool) (entries : List Entry) (e : Entry) (n : ℕ) → Leads h moment count is_out (entries ++ e ∷ []) last
    → act_of e ≡ (Enter, Entered n) → h.drawn < n
above h last moment count is_out [] e n l is = let s = enter_step h l.0 e n is l.1 in omega (arith, s.0)
above h last moment count is_out (x ∷ entries) e n l is =
    let more = above l.0 last x.moment x.count (is_out || gives_disk x) entries e n l.3 is in
    let s = step_drawn h l.0 x.event x.outcome l.1 in
    omega (arith, more, s)

-- a number that was given out is below the next one that is
below_next : (h last : Hall) (moment count : ℕ) (is_out : Bool) (entries : List Entry) (e : Entry) (k n : ℕ) → Leads h moment count is_out (entries ++ e ∷ []) last
    → act_of e ≡ (Enter, Entered n) → HasAct (Enter, Entered k) entries → k < n
below_next h last moment count is_out [] e k n l is i = absurd i
below_next h last moment count is_out (x ∷ entries) e k n l is (inl i) =
    let more = above l.0 last x.moment x.count (is_out || gives_disk x) entries e n l.3 is in
    let s = enter_step h l.0 x k i l.1 in
    omega (arith, more, s.0, s.1)
below_next h last moment count is_out (x ∷ entries) e k n l is (inr i) = below_next l.0 last x.moment x.count (is_out || gives_disk x) entries e k n l.3 is i

pub given_once : (h last : Hall) (moment count : ℕ) (is_out : Bool) (entries : List Entry) (e : Entry) (n : ℕ) → Leads h moment count is_out (entries ++ e ∷ []) last
    → act_of e ≡ (Enter, Entered n) → HasAct (Enter, Entered n) entries → ⊥
given_once h last moment count is_out entries e n l is i = let less = below_next h last moment count is_out entries e n n l is i in absurd (omega (arith, less))
