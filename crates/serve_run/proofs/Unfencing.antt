-- A session that leaves the hall, and the end of its live fence.
use Rattle.std.proofs.Common.{◌≡◌, ◌==◌, ℕ, Bool, true, false, List, [], ◌∷◌, ◌++◌, refl, sym, ◌∙◌, subst, inl, inr}
use Rattle.std.specs.Prelude.{Option, Some, None, ◌||◌, length}
use Rattle.std.proofs.Math.Bool.{or-false}
use Rattle.std.proofs.lemmas.List.{append-nil}
use Rattle.world_model.specs.declared.events.Asked.{Asked}
use Rattle.world_model.specs.declared.events.Asked.TheVariants as asks_for
use Rattle.world_model.specs.declared.events.CallOutcome.{CallOutcome}
use Rattle.world_model.specs.declared.events.Event.TheVariants as event
use Rattle.world_model.specs.declared.events.Outcome.{Outcome}
use Rattle.world_model.specs.declared.events.Outcome.TheVariants as outcome
use Rattle.world_model.specs.Outcomes.{call_act, call_acts, IsCount}
use Rattle.world_model.specs.Seats.{Knows, Act, Adds, AddsCalls, AddsNamed}
use Rattle.live_fence.specs.LiveFences.{end_request}
use Rattle.session_run.specs.Calls.{Call}
use Rattle.session_run.specs.Gains.{Gains, made, gains_one, gains_more}
use Rattle.session_run.specs.Sessions.{SessionState}
use Rattle.session_run.specs.SoFar.{AskedSoFar, WrittenSoFar}
use Rattle.serve_run.specs.declared.tends.ServeEnd.{ServeEnd}
use Rattle.serve_run.specs.Tends.{IsTold, shrink_end, unfence_acts}
use Rattle.serve_run.specs.Steps.{Step, Removed, Unfenced, Unended, Unasked, step_acts, steps_acts, calls_of, takes_of, ends_in, ends_fence, IsTimely}
use Rattle.serve_run.specs.Feeds.{feeds_at}
use Rattle.serve_run.specs.SessionSteps.{IsOf, StepsOn, RemovesSession, RemovesTo, Unfences, UnfencesOn}
use Rattle.serve_run.proofs.Fencing.{same_number}
use Rattle.serve_run.proofs.Shrinking.{one_call, one_gain}
use Rattle.serve_run.proofs.Stepping.{same_test, fed_more, fed_one}

-- ---- what is asked by a session of the server's own

pub unfences_not : (told : Option ℕ) (gone : ℕ) (k : Knows) → Unfences told gone k k None
unfences_not told gone k = inl refl

pub unfences_refused : (told : Option ℕ) (gone : ℕ) (old new : Knows) (o : Outcome) → Adds event.Enter o old new → Unfences told gone old new None
unfences_refused told gone old new o adds = inr (inl (o, gains_one old new (event.Enter, o) (made event.Enter o old new adds)))

by_end : (told : Option ℕ) (gone : ℕ) (old new : Knows) (n m : ℕ) (c : CallOutcome) (o : Option ServeEnd) → IsTold told m → o ≡ shrink_end c
    → Gains old new (unfence_acts gone n m c) → Unfences told gone old new o
by_end told gone old new n m c None t is gains = inr (inr (n, m, c, t, gains))
by_end told gone old new n m c (Some e) t is gains =
    record { last = unfence_acts gone n m c; gains = gains; is_last = (gone, m, n, c, t, sym is, refl) }

pub unfences_all : (told : Option ℕ) (gone : ℕ) (k0 k1 k2 k3 : Knows) (n m served : ℕ) (end : CallOutcome) (asked : List Asked) (named : List ℕ)
    (o : Option ServeEnd) → IsTold told m → asked ≡ asks_for.Words (end_request gone) ∷ [] → o ≡ shrink_end end
    → Adds event.Enter (outcome.Entered n) k0 k1 → IsCount served end (length asked) → AddsNamed (call_acts n m asked served end) named k1 k2
    → Adds (event.Remove n) outcome.Done k2 k3 → Unfences told gone k0 k3 o
unfences_all told gone k0 k1 k2 k3 n m served end asked named o t are is entered count adds removed =
    let a : Asked = asks_for.Words (end_request gone) in
    let one : IsCount served end 1 = subst (λ (l : List Asked). IsCount served end (length l)) are count in
    let asks : AddsCalls (call_acts n m (a ∷ []) served end) k1 k2 = subst (λ (l : List Asked). AddsCalls (call_acts n m l served end) k1 k2) are adds.adds in
    let first : Gains k0 k1 ((event.Enter, outcome.Entered n) ∷ []) = gains_one k0 k1 (event.Enter, outcome.Entered n)
    (made event.Enter (outcome.Entered n) k0 k1 entered) in
    let call : Gains k1 k2 (call_act n m end a ∷ []) = one_gain (call_acts n m (a ∷ []) served end) (call_act n m end a) k1 k2
    (one_call n m served end a one) asks in
    let last : Gains k2 k3 ((event.Remove n, outcome.Done) ∷ []) = gains_one k2 k3 (event.Remove n, outcome.Done)
    (made (event.Remove n) outcome.Done k2 k3 removed) in
    by_end told gone k0 k3 n m end o t is
    (gains_more k0 k1 k3 ((event.Enter, outcome.Entered n) ∷ []) (call_act n m end a ∷ (event.Remove n, outcome.Done) ∷ []) first
    (gains_more k1 k2 k3 (call_act n m end a ∷ []) ((event.Remove n, outcome.Done) ∷ []) call last))

-- ---- a session is removed

removed_gains : (k k' : Knows) (x : SessionState) → Adds (event.Remove x.number) outcome.Done k k' → Gains k k' (steps_acts (Removed x.number ∷ []))
removed_gains k k' x adds = gains_one k k' (event.Remove x.number, outcome.Done) (made (event.Remove x.number) outcome.Done k k' adds)

removed_alone : (told : Option ℕ) (k k' : Knows) (x : SessionState) → Adds (event.Remove x.number) outcome.Done k k' → StepsOn told k k' x x
removed_alone told k k' x adds = record {
  steps = Removed x.number ∷ [];
  own = (refl, tt);
  gains = removed_gains k k' x adds;
  timely = (tt, tt);
  fed = fed_one k k' (Removed x.number) refl (removed_gains k k' x adds);
  number = refl;
  caller = refl;
  asked = λ calls came a. subst (λ (l : List Call). AskedSoFar told l came x) (sym (append-nil calls)) a;
  ends = (λ e. inl e, λ e. inl e);
  fenced = sym (or-false x.is_fenced);
  fence_ends = λ n e. absurd (cc);
  written = λ takes came a. subst (λ (l : List Outcome). WrittenSoFar l came x) (sym (append-nil takes)) a;
}

not_fenced : (b : Bool) → b ≡ false → b ≡ true → ⊥
not_fenced true e f = cc
not_fenced false e f = cc

pub removes_alone : (told : Option ℕ) (k k' : Knows) (x : SessionState) → x.is_fenced ≡ false → Adds (event.Remove x.number) outcome.Done k k'
    → RemovesTo told k k' x None
unfolding removed_alone
removes_alone told k k' x none adds = (removed_alone told k k' x adds, ([], [], refl), λ is. absurd (not_fenced x.is_fenced none is))

module _ (told : Option ℕ) (k k' : Knows) (x : SessionState) (is : x.is_fenced ≡ true) (adds : Adds (event.Remove x.number) outcome.Done k k')
    (new : Knows) where
  -- and a step behind that, which asks for the end of its live fence
  module _ (step : Step) (own : IsOf x.number step) (timely : IsTimely told step) (gains : Gains k' new (step_acts step ++ []))
      (uncalled : calls_of x.number (Removed x.number ∷ step ∷ []) ≡ []) (untaken : takes_of x.number (Removed x.number ∷ step ∷ []) ≡ [])
      (ends : (n : ℕ) → ends_in n step ≡ (x.number == n)) (unfed : feeds_at new step ≡ []) where
    ends_here : (n : ℕ) → ends_fence n (Removed x.number ∷ step ∷ []) ≡ (x.number == n)
    ends_here n = or-false (ends_in n step) ∙ ends n

    fenced_still : x.is_fenced ≡ (x.is_fenced || false)
    fenced_still = sym (or-false x.is_fenced)

    removed_fenced : RemovesSession told k new x
    removed_fenced = (
      record {
        steps = Removed x.number ∷ step ∷ [];
        own = (refl, (own, tt));
        gains = gains_more k k' new (steps_acts (Removed x.number ∷ [])) (step_acts step ++ []) (removed_gains k k' x adds) gains;
        timely = (tt, (timely, tt));
        fed = fed_more [] [] k k' new (Removed x.number ∷ []) (step ∷ []) (fed_one k k' (Removed x.number) refl (removed_gains k k' x adds))
            (fed_one k' new step unfed (subst (λ (l : List Act). Gains k' new l) (append-nil (step_acts step)) gains));
        number = refl;
        caller = refl;
        asked = λ calls came a. subst (λ (l : List Call). AskedSoFar told (calls ++ l) came x) (sym uncalled)
            (subst (λ (l : List Call). AskedSoFar told l came x) (sym (append-nil calls)) a);
        ends = (λ e. inl e, λ e. inl e);
        fenced = rw uncalled fenced_still;
        fence_ends = λ n e. (same_number x.number n (sym (ends_here n) ∙ e), is);
        written = λ takes came a. subst (λ (l : List Outcome). WrittenSoFar (takes ++ l) came x) (sym untaken)
            (subst (λ (l : List Outcome). WrittenSoFar l came x) (sym (append-nil takes)) a);
      },
      ([], step ∷ [], refl),
      λ e. ends_here x.number ∙ same_test x.number,
    )

  more_nil : (acts : List Act) → Gains k' new acts → Gains k' new (acts ++ [])
  more_nil acts g = subst (λ (l : List Act). Gains k' new l) (sym (append-nil acts)) g

  removed_on : UnfencesOn told x.number k' new → RemovesSession told k new x
  removed_on (inl same) = removed_fenced (Unasked x.number) refl tt same refl refl (λ n. refl) refl
  removed_on (inr (inl u)) = removed_fenced (Unended x.number u.0) refl tt (more_nil ((event.Enter, u.0) ∷ []) u.1) refl refl (λ n. refl) refl
  removed_on (inr (inr u)) = removed_fenced (Unfenced x.number u.0 u.1 u.2) refl u.3 (more_nil (unfence_acts x.number u.0 u.1 u.2) u.4) refl refl (λ n. refl) refl

  pub removes_fenced : (o : Option ServeEnd) → Unfences told x.number k' new o → RemovesTo told k new x o
  removes_fenced None u = removed_on u
  removes_fenced (Some e) u = (k', removed_alone told k k' x adds, u)
