-- Sessions that an event is not about.
use Rattle.std.proofs.Common.{◌≡◌, inl, inr, ◌+◌, ℕ, Bool, true, false, not, refl, sym, ◌∙◌, ap, subst, List, [], ◌∷◌, ◌++◌, ◌==◌, arith}
use Rattle.std.specs.Prelude.{Option, Some, None, find, map, filter, if◌then◌else◌, option_map, max, drop}
use Rattle.std.proofs.lemmas.Bool.Decides.{nat_tests}
use Rattle.byte_text.specs.Names.{Bytes}
use Rattle.world_model.specs.Halls.{Hall, Session, closing, effect_of, is_live, is_session, session_of, change_session, without_session, placed, placed_each, place, place_all, apply, apply_all, due, closed_if, close_session, do_effect, do_asked, do_live, do_call, deliveries}
use Rattle.world_model.specs.Effects.{Effect}
use Rattle.fence_model.specs.Writes.{Write, due_writes}
use Rattle.world_model.specs.SessionLaws.{number_of, placed_number, each_append, found_map, found_number, other_way}
use Rattle.world_model.specs.Laws.{OnlyPlaced, is_about}
use Rattle.world_data.specs.Worlds.{after}
use Rattle.world_data.specs.Records.{record_len}
use Rattle.world_model.specs.Subscriptions.{with_subs}
use Rattle.world_model.specs.Commands.{reads}
use Rattle.world_model.specs.Refusals.{broken_reply}
use Rattle.byte_text.specs.Replies.{frame_text}
use Rattle.std.specs.List.{AllByRecursion}
use Rattle.world_data.specs.Limits.{take_frames}
use Rattle.world_model.specs.Histories.{Ending, Step, StepBy, refusal, refusal_going, when_stopped, first_of, enter_tests, call_tests, take_tests, tick_tests, doing}
use Rattle.world_model.specs.declared.events.Event.{Event}
use Rattle.world_model.specs.declared.events.Event.TheVariants.{Enter, Call, Take, Tick, Close, Remove, Rewrite, Retire}
use Rattle.world_model.specs.declared.events.Outcome.{Outcome}
use Rattle.world_model.specs.declared.events.Asked.{Asked}
use Rattle.world_model.specs.declared.events.Asked.TheVariants.{Words, Broken}

-- placing on sessions, in turn

only_refl : (o : Option Session) → OnlyPlaced o o
only_refl None = tt
only_refl (Some s) = ([], refl)

only_trans : (o p q : Option Session) → OnlyPlaced o p → OnlyPlaced p q → OnlyPlaced o q
only_trans None None q a b = b
only_trans None (Some t) q a b = absurd a
only_trans (Some s) None q a b = absurd a
only_trans (Some s) (Some t) None a b = absurd b
only_trans (Some s) (Some t) (Some u) a b = (a.0 ++ b.0, b.1 ∙ ap (λ x. placed_each x b.0) a.1 ∙ sym (each_append s a.0 b.0))

only_same : (o p : Option Session) → p ≡ o → OnlyPlaced o p
only_same o p e = subst (OnlyPlaced o) (sym e) (only_refl o)

-- numbers that differ
differs : (n m k : ℕ) → (n == m) ≡ false → (k == n) ≡ true → (k == m) ≡ false
differs n m k e f = grind (arith, nat_tests)

-- a change of one session, as a change of all
abbrev at_number : (Session → Session) → ℕ → Session → Session
at_number f m s = if is_session m s then f s else s

keeps_at : (f : Session → Session) (m : ℕ) → ((s : Session) → (f s).number ≡ s.number) → (s : Session) → (at_number f m s).number ≡ s.number
keeps_at f m keeps s = number_of (is_session m s) (f s) s s.number (keeps s) refl

unnamed_found : (f : Session → Session) (n m : ℕ) (o : Option Session) → (n == m) ≡ false → ((s : Session) → o ≡ Some s → is_session n s ≡ true) → option_map (at_number f m) o ≡ o
unnamed_found f n m None e is = refl
unnamed_found f n m (Some s) e is = let other : is_session m s ≡ false = differs n m s.number e (is s refl) in rw other refl

-- a change of another session
unnamed : (f : Session → Session) (n m : ℕ) (h : Hall) → ((s : Session) → (f s).number ≡ s.number) → (n == m) ≡ false → session_of (change_session f m h) n ≡ session_of h n
unnamed f n m h keeps e = found_map (at_number f m) (keeps_at f m keeps) n h.sessions ∙ unnamed_found f n m (session_of h n) e (λ s. found_number n s h.sessions)

placed_on : (frame : Bytes) (m : ℕ) (o : Option Session) → OnlyPlaced o (option_map (at_number (placed frame) m) o)
placed_on frame m None = tt
placed_on frame m (Some s) = by_session _ refl
  where
    by_session : (b : Bool) → is_session m s ≡ b → (frames : List Bytes) × (at_number (placed frame) m s ≡ placed_each s frames)
    by_session true is = (frame ∷ [], rw is refl)
    by_session false is = ([], rw is refl)

place_only : (h : Hall) (d : ℕ × Bytes) (n : ℕ) → OnlyPlaced (session_of h n) (session_of (place h d) n)
place_only h d n = subst (OnlyPlaced (session_of h n)) (sym (found_map (at_number (placed d.1) d.0) (keeps_at (placed d.1) d.0 (placed_number d.1)) n h.sessions)) (placed_on d.1 d.0 (session_of h n))

place_all_only : (h : Hall) (ds : List (ℕ × Bytes)) (n : ℕ) → OnlyPlaced (session_of h n) (session_of (place_all h ds) n)
place_all_only h [] n = only_refl (session_of h n)
place_all_only h (d ∷ ds) n = only_trans (session_of h n) (session_of (place h d) n) (session_of (place_all (place h d) ds) n) (place_only h d n) (place_all_only (place h d) ds n)

apply_only : (h : Hall) (d : Write) (n : ℕ) → OnlyPlaced (session_of h n) (session_of (apply h d) n)
unfolding apply
apply_only h d n = place_all_only (record h { world = after h.world d.change; logged = h.logged + record_len d.change }) (deliveries h.world h.sessions d) n

apply_all_only : (h : Hall) (ds : List Write) (n : ℕ) → OnlyPlaced (session_of h n) (session_of (apply_all h ds) n)
apply_all_only h [] n = only_refl (session_of h n)
apply_all_only h (d ∷ ds) n = only_trans (session_of h n) (session_of (apply h d) n) (session_of (apply_all (apply h d) ds) n) (apply_only h d n) (apply_all_only (apply h d) ds n)

due_only : (h : Hall) (moment n : ℕ) → OnlyPlaced (session_of h n) (session_of (due h moment) n)
due_only h moment n = apply_all_only (record h { now = max h.now moment }) (due_writes h.world (max h.now moment)) n

closing_number : (s : Session) → (if is_live s then record s { stage = closing; subs = [] } else s).number ≡ s.number
closing_number s = number_of (is_live s) (record s { stage = closing; subs = [] }) s s.number refl refl

closed_same : (b : Bool) (n m : ℕ) (h : Hall) → (n == m) ≡ false → session_of (closed_if b m h) n ≡ session_of h n
closed_same true n m h e = unnamed (λ s. if is_live s then record s { stage = closing; subs = [] } else s) n m h closing_number e
closed_same false n m h e = refl

effect_only : (h : Hall) (m : ℕ) (e : Effect) (n : ℕ) → (n == m) ≡ false → OnlyPlaced (session_of h n) (session_of (do_effect h m e) n)
effect_only h m e n other =
    let subscribed : Hall = change_session (λ s. record s { subs = with_subs s.subs e.subs }) m h in
    let replied : Hall = place_all subscribed (map (λ r. (m, frame_text r)) e.replies) in
    let changed : Hall = apply_all replied e.writes in
    only_trans (session_of h n) (session_of subscribed n) (session_of (do_effect h m e) n)
    (only_same (session_of h n) (session_of subscribed n) (unnamed (λ s. record s { subs = with_subs s.subs e.subs }) n m h (λ s. refl) other))
    (only_trans (session_of subscribed n) (session_of replied n) (session_of (do_effect h m e) n)
    (place_all_only subscribed (map (λ r. (m, frame_text r)) e.replies) n)
    (only_trans (session_of replied n) (session_of changed n) (session_of (do_effect h m e) n)
    (apply_all_only replied e.writes n)
    (only_same (session_of changed n) (session_of (do_effect h m e) n) (closed_same e.closes n m changed other))))

asked_only : (h : Hall) (s : Session) (asked : Asked) (n : ℕ) → (n == s.number) ≡ false → OnlyPlaced (session_of h n) (session_of (do_asked h s asked) n)
asked_only h s (Words words) n other = effect_only h s.number (effect_of h s (reads words)) n other
asked_only h s (Broken f) n other =
    let told : Hall = place h (s.number, frame_text (broken_reply f)) in
    only_trans (session_of h n) (session_of told n) (session_of (close_session s.number told) n) (place_only h (s.number, frame_text (broken_reply f)) n)
    (only_same (session_of told n) (session_of (close_session s.number told) n) (unnamed (λ t. if is_live t then record t { stage = closing; subs = [] } else t) n s.number told closing_number other))

live_only : (b : Bool) (h : Hall) (s : Session) (asked : Asked) (n : ℕ) → (n == s.number) ≡ false → OnlyPlaced (session_of h n) (session_of (if b then do_asked h s asked else h) n)
live_only true h s asked n other = asked_only h s asked n other
live_only false h s asked n other = only_refl (session_of h n)

session_differs : (n m k : ℕ) → (n == m) ≡ false → (k == m) ≡ true → (n == k) ≡ false
session_differs n m k e f = grind (arith, nat_tests)

found_only : (h : Hall) (o : Option Session) (m : ℕ) (asked : Asked) (n : ℕ) → (n == m) ≡ false → ((s : Session) → o ≡ Some s → is_session m s ≡ true) → OnlyPlaced (session_of h n) (session_of (do_live h o asked) n)
found_only h None m asked n other is = only_refl (session_of h n)
found_only h (Some s) m asked n other is = live_only (is_live s) h s asked n (session_differs n m s.number other (is s refl))

call_only : (h : Hall) (m : ℕ) (asked : Asked) (n : ℕ) → (n == m) ≡ false → OnlyPlaced (session_of h n) (session_of (do_call h m asked) n)
unfolding do_call
call_only h m asked n other = found_only h (session_of h m) m asked n other (λ s. found_number m s h.sessions)

-- sessions that come and go

behind : (n : ℕ) (sessions : List Session) (t : Session) (b : Bool) → is_session n t ≡ false → find (is_session n) (sessions ++ t ∷ []) ≡ find (is_session n) sessions
behind n [] t b other = rw other refl
behind n (s ∷ rest) t b other = rw (behind n rest t b other) refl

kept_found : (n m : ℕ) (s : Session) (rest : List Session) (a b : Bool) → is_session m s ≡ a → is_session n s ≡ b → (a ≡ true → b ≡ false)
    → find (is_session n) (filter (λ t. not (is_session m t)) rest) ≡ find (is_session n) rest → find (is_session n) (filter (λ t. not (is_session m t)) (s ∷ rest)) ≡ find (is_session n) (s ∷ rest)
kept_found n m s rest true true e f no_both ih = absurd (grind arith)
kept_found n m s rest true false e f no_both ih = rw (e, f) ih
kept_found n m s rest false true e f no_both ih = rw (e, f) refl
kept_found n m s rest false false e f no_both ih = rw (e, f) ih

not_both : (n m k : ℕ) → (n == m) ≡ false → (k == m) ≡ true → (k == n) ≡ false
not_both n m k e f = grind (arith, nat_tests)

without_other : (n m : ℕ) (sessions : List Session) → (n == m) ≡ false → find (is_session n) (filter (λ t. not (is_session m t)) sessions) ≡ find (is_session n) sessions
without_other n m [] e = refl
without_other n m (s ∷ rest) e = kept_found n m s rest _ _ refl refl (not_both n m s.number e) (without_other n m rest e)

-- each ending of a list leaves the session as it was
abbrev Leaves : Hall → ℕ → Bool × Ending → Type 0
Leaves h n e = session_of e.1.1 n ≡ session_of h n

picked : (b : Bool) (e : Ending) (rest : Option Ending) (found : Ending) (h : Hall) (n : ℕ) → session_of e.1 n ≡ session_of h n → (rest ≡ Some found → session_of found.1 n ≡ session_of h n)
    → (if b then Some e else rest) ≡ Some found → session_of found.1 n ≡ session_of h n
picked true e rest found h n here later f = let same : e ≡ found = cc in subst (λ x. session_of x.1 n ≡ session_of h n) same here
picked false e rest found h n here later f = later f

first_leaves : (endings : List (Bool × Ending)) (found : Ending) (h : Hall) (n : ℕ) → AllByRecursion (Leaves h n) endings → first_of endings ≡ Some found → session_of found.1 n ≡ session_of h n
first_leaves [] found h n all f = absurd cc
first_leaves (e ∷ endings) found h n all f = picked e.0 e.1 (first_of endings) found h n all.0 (first_leaves endings found h n all.1) f

going_leaves : (h : Hall) (event : Event) (n : ℕ) (found : Ending) → is_about h event n ≡ false → refusal_going h event ≡ Some found → session_of found.1 n ≡ session_of h n
going_leaves h Enter n found other f = first_leaves (enter_tests h) found h n (refl, tt) f
going_leaves h (Call m moment asked) n found other f = first_leaves (call_tests h m) found h n (refl, (refl, (refl, tt))) f
going_leaves h (Take m) n found other f = first_leaves (take_tests h m) found h n (without_other n m h.sessions other, (refl, tt)) f
going_leaves h (Tick moment) n found other f = first_leaves (tick_tests h) found h n (refl, tt) f
going_leaves h (Close m) n found other f = absurd cc
going_leaves h (Remove m) n found other f = absurd cc
going_leaves h Rewrite n found other f = absurd cc
going_leaves h Retire n found other f = absurd cc

refusal_leaves : (b : Bool) (h : Hall) (event : Event) (n : ℕ) (found : Ending) → is_about h event n ≡ false → (if b then Some (when_stopped event, h) else refusal_going h event) ≡ Some found → session_of found.1 n ≡ session_of h n
refusal_leaves true h event n found other f = let same : (when_stopped event, h) ≡ found = cc in subst (λ (x : Ending). session_of x.1 n ≡ session_of h n) same refl
refusal_leaves false h event n found other f = going_leaves h event n found other f

taken_number : (s : Session) → (record s { frames = drop take_frames s.frames }).number ≡ s.number
taken_number s = refl

doing_only : (h : Hall) (event : Event) (n : ℕ) → is_about h event n ≡ false → OnlyPlaced (session_of h n) (session_of (doing h event).1 n)
doing_only h Enter n other = only_same (session_of h n) (session_of (doing h Enter).1 n) (behind n h.sessions _ true (other_way n (h.drawn + 1) other))
doing_only h (Call m moment asked) n other = only_trans (session_of h n) (session_of (due h moment) n) (session_of (do_call (due h moment) m asked) n) (due_only h moment n) (call_only (due h moment) m asked n other)
doing_only h (Take m) n other = only_same (session_of h n) (session_of (doing h (Take m)).1 n) (unnamed (λ s. record s { frames = drop take_frames s.frames }) n m h taken_number other)
doing_only h (Tick moment) n other = due_only h moment n
doing_only h (Close m) n other = only_same (session_of h n) (session_of (close_session m h) n) (unnamed (λ s. if is_live s then record s { stage = closing; subs = [] } else s) n m h closing_number other)
doing_only h (Remove m) n other = only_same (session_of h n) (session_of (without_session m h) n) (without_other n m h.sessions other)
doing_only h Rewrite n other = only_refl (session_of h n)
doing_only h Retire n other = only_refl (session_of h n)

by_refusal : (o : Option Ending) (old new : Hall) (event : Event) (outcome : Outcome) (n : ℕ) → is_about old event n ≡ false → ((e : Ending) → o ≡ Some e → session_of e.1 n ≡ session_of old n)
    → StepBy o old event outcome new → OnlyPlaced (session_of old n) (session_of new n)
by_refusal (Some e) old new event outcome n other leaves step = only_same (session_of old n) (session_of new n) (ap (λ h. session_of h n) step.1 ∙ leaves e refl)
by_refusal None old new event outcome n other leaves (inl step) = only_same (session_of old n) (session_of new n) (ap (λ h. session_of h n) step.1.1)
by_refusal None old new event outcome n other leaves (inr (inl step)) = only_same (session_of old n) (session_of new n) (ap (λ h. session_of h n) step.1.1)
by_refusal None old new event outcome n other leaves (inr (inr step)) = subst (λ h. OnlyPlaced (session_of old n) (session_of h n)) (sym step.1) (doing_only old event n other)

pub others_placed_on : (old new : Hall) (event : Event) (outcome : Outcome) (n : ℕ) → is_about old event n ≡ false → Step old event outcome new → OnlyPlaced (session_of old n) (session_of new n)
others_placed_on old new event outcome n other step = by_refusal (refusal old event) old new event outcome n other (λ e f. refusal_leaves old.stopped old event n e other f) step
