-- What the steps of a loop keep of its record.
use Rattle.std.proofs.Common.{◌≡◌, ◌⊎◌, ◌+◌, ◌==◌, ℕ, Bool, true, false, List, [], ◌∷◌, ◌++◌, refl, sym, ap, ◌∙◌, subst, inl, inr, arith, append_assoc}
use Rattle.std.specs.Prelude.{Option, Some, None, Ok, Err, IfSome, ◌||◌, slice_set}
use Rattle.std.specs.List.{slice_get}
use Rattle.std.proofs.lemmas.List.{append-nil}
use Rattle.world_model.specs.declared.events.LogState.{LogState}
use Rattle.world_model.specs.declared.events.Outcome.{Outcome}
use Rattle.world_model.specs.declared.events.Outcome.TheVariants as outcome
use Rattle.world_model.specs.Seats.{Knows, Act}
use Rattle.outside.specs.Doors.{DoorState}
use Rattle.outside.specs.Waits.{WaitState}
use Rattle.session_run.specs.Calls.{Call}
use Rattle.session_run.specs.Gains.{Gains}
use Rattle.session_run.specs.Live.{has_set}
use Rattle.session_run.specs.Sessions.{SessionState, end_of_asking}
use Rattle.session_run.specs.SoFar.{AskedSoFar, WrittenSoFar}
use Rattle.serve_run.specs.Feeds.{Feed, feeds_at, AreFed}
use Rattle.serve_run.specs.Follows.{tending_behind, MayFollow}
use Rattle.serve_run.specs.Pacing.{tended, wanted, HasGrown, HasWanted}
use Rattle.serve_run.specs.Steps.{Step, Tended, Wanting, Shrunk, Unshrunk, Joined, step_acts, calls_of, takes_of, callers_of, ends_fence, IsTimely, IsAmong}
use Rattle.serve_run.specs.Runs.{MayEnd, EndCause, one_if, times, times_shut}
use Rattle.serve_run.specs.declared.tendings.Tending.{Tending}
use Rattle.serve_run.specs.declared.tends.ServeEnd.{ServeEnd}
use Rattle.serve_run.specs.declared.tends.ServeEnd.TheVariants as end
use Rattle.serve_run.specs.Tends.{IsTold, Tends, Asks, Shrinks, ShrinksOn, broken_acts}
use Rattle.serve_run.specs.LoopEnds.{TendsTable, KeepsAside}
use Rattle.serve_run.specs.declared.terms.Terms.{Terms}
use Rattle.serve_run.specs.Loops.{Around}
use Rattle.serve_run.specs.SessionSteps.{StepsSession, StepsOn, FeedsOn, EndsEarly}
use Rattle.serve_run.specs.LoopStates.{LoopState, loop_state, IsOpen, Holds, Keeps, KeepsTable, FeedsTable, KeepsEarly, NeverJoined, time_at, times_open}
use Rattle.serve_run.proofs.Fencing.{ends_second, sets_more, fences_on, fences_quiet}
use Rattle.serve_run.proofs.Following.{own_tends, own_follow, tends_on, follow_on}
use Rattle.serve_run.proofs.Places.{set_some, times_set, less_last, times_last}
use Rattle.serve_run.proofs.Records.{Spares, spared_calls, spared_takes, others_spared, own_callers, callers_more, among_more, never_before, joined_other, open_on, runs_on, removed_on, among_later}
use Rattle.serve_run.proofs.Stepping.{all_more, timely_more, fed_more, fed_on, fed_one, calls_more, takes_more, gains_steps}

pub other_place : (owner : ℕ → Option ℕ) (n m i j : ℕ) → owner n ≡ Some i → owner m ≡ Some j → (j ≡ i → ⊥) → n ≡ m → ⊥
other_place owner n m i j p q apart e = let same : Some i ≡ Some j = sym p ∙ ap owner e ∙ q in apart (sym (some_number i j same))
  where
    some_number : (a b : ℕ) → Some a ≡ Some b → a ≡ b
    some_number a b e = cc

not_gone : (owner : ℕ → Option ℕ) (n m i : ℕ) → owner n ≡ Some i → owner m ≡ None → n ≡ m → ⊥
not_gone owner n m i p q e = let same : Some i ≡ None = sym p ∙ ap owner e ∙ q in absurd (cc)

no_callers : (steps more : List Step) (callers : List ℕ) → callers_of more ≡ [] → callers_of steps ≡ callers → callers_of (steps ++ more) ≡ callers
no_callers steps more callers none is = callers_more steps more ∙ ap (λ (l : List ℕ). callers_of steps ++ l) none ∙ append-nil (callers_of steps) ∙ is

-- ---- a session of the table goes on

either : {P Q C : Type 0} → P ⊎ Q → (P → C) → (Q → C) → C
either (inl p) f g = f p
either (inr q) f g = g q

module _ (told : Option ℕ) (terms : Terms) (old : Around) (t : Tending) (feeds : List Feed) (s : LoopState) (h : Holds told terms old t feeds s) (i : ℕ) (x y : SessionState) (k : Knows)
    (there : slice_get s.places i ≡ Some (Some x)) (early : Type 0) (may : early → MayEnd terms s.around.wait.over)
    (more all : List Feed) (is_all : all ≡ feeds ++ more) (st : StepsSession told early more s.around.knows k x y) where
  before : IsOpen told h.steps h.owner i x
  before = h.open_are i x there

  spares : (m : ℕ) → (x.number ≡ m → ⊥) → Spares st.steps m
  spares m other = others_spared x.number m other st.steps st.own

  fenced_on : y.is_fenced ≡ has_set x.number (calls_of x.number (h.steps ++ st.steps))
  fenced_on = st.fenced ∙ ap (λ (b : Bool). b || has_set x.number (calls_of x.number st.steps)) before.fenced ∙ sym (sets_more x.number h.steps st.steps)

  went_on : IsOpen told (h.steps ++ st.steps) h.owner i y
  went_on = record {
    came = before.came;
    is_new = before.is_new;
    caller = st.caller ∙ before.caller;
    joined = subst (λ (n : ℕ). IsAmong (Joined before.came.caller (outcome.Entered n)) (h.steps ++ st.steps)) (sym st.number)
        (among_more (Joined before.came.caller (outcome.Entered x.number)) h.steps st.steps before.joined);
    asked = subst (λ (n : ℕ). AskedSoFar told (calls_of n (h.steps ++ st.steps)) before.came y) (sym st.number)
        (subst (λ (l : List Call). AskedSoFar told l before.came y) (sym (calls_more x.number h.steps st.steps)) (st.asked (calls_of x.number h.steps) before.came before.asked));
    written = subst (λ (n : ℕ). WrittenSoFar (takes_of n (h.steps ++ st.steps)) before.came y) (sym st.number)
        (subst (λ (l : List Outcome). WrittenSoFar l before.came y) (sym (takes_more x.number h.steps st.steps)) (st.written (takes_of x.number h.steps) before.came before.written));
    fenced = subst (λ (n : ℕ). y.is_fenced ≡ has_set n (calls_of n (h.steps ++ st.steps))) (sym st.number) fenced_on;
    owned = ap h.owner st.number ∙ before.owned;
  }

  open_others : (j : ℕ) (z : SessionState) → ((j ≡ i) × (y ≡ z)) ⊎ ((j ≡ i → ⊥) × (slice_get s.places j ≡ Some (Some z))) → IsOpen told (h.steps ++ st.steps) h.owner j z
  open_others j z (inl e) = subst (λ (n : ℕ). IsOpen told (h.steps ++ st.steps) h.owner n z) (sym e.0)
      (subst (λ (w : SessionState). IsOpen told (h.steps ++ st.steps) h.owner i w) e.1 went_on)
  open_others j z (inr e) =
      let o = h.open_are j z e.1 in
      open_on told h.steps st.steps h.owner h.owner j z (spares z.number (other_place h.owner x.number z.number i j before.owned o.owned e.0)) refl o

  abbrev cause : SessionState → Type 0
  cause z = EndCause (MayEnd terms s.around.wait.over) (end_of_asking z.asking) z.taking

  early_now : cause y
  early_now = let b = h.early_open i x there in (λ e. either (st.ends.0 e) b.0 may, λ e. either (st.ends.1 e) b.1 may)

  early_others : (j : ℕ) (z : SessionState) → ((j ≡ i) × (y ≡ z)) ⊎ ((j ≡ i → ⊥) × (slice_get s.places j ≡ Some (Some z))) → cause z
  early_others j z (inl e) = subst (λ (w : SessionState). cause w) e.1 early_now
  early_others j z (inr e) = h.early_open j z e.1

  unused_on : (n : ℕ) → NeverJoined n (h.steps ++ st.steps) → (calls_of n (h.steps ++ st.steps) ≡ []) × (takes_of n (h.steps ++ st.steps) ≡ [])
  unused_on n never =
      let u = h.unused n (never_before n h.steps st.steps never) in
      let sp = spares n (joined_other n x.number before.came.caller h.steps (never_before n h.steps st.steps never) before.joined) in
      (spared_calls h.steps st.steps n sp ∙ u.0, spared_takes h.steps st.steps n sp ∙ u.1)

  once_on : (c : ℕ) → times_shut c h.runs + times_open c (slice_set s.places i (Some y)) ≡ times_shut c h.runs + times_open c s.places
  once_on c =
      let t = times_set c s.places i (Some x) (Some y) there in
      let e : time_at c (Some y) ≡ time_at c (Some x) = ap (λ (n : ℕ). one_if (n == c)) st.caller in
      omega (arith, t, e)

  fences_here : (n : ℕ) → ends_fence n st.steps ≡ true → has_set n (calls_of n (h.steps ++ st.steps)) ≡ true
  fences_here n e =
      let r = st.fence_ends n e in
      subst (λ (m : ℕ). has_set m (calls_of m (h.steps ++ st.steps)) ≡ true) (sym r.0) (sym fenced_on ∙ r.1)

  pub session_on : Holds told terms old t all (record s { around = record s.around { knows = k }; places = slice_set s.places i (Some y) })
  session_on = record {
    steps = h.steps ++ st.steps;
    gains = gains_steps old.knows s.around.knows k h.steps st.steps h.gains st.gains;
    timely = timely_more told h.steps st.steps h.timely st.timely;
    fed = subst (λ (l : List Feed). AreFed l old.knows k (h.steps ++ st.steps)) (sym is_all)
        (fed_more feeds more old.knows s.around.knows k h.steps st.steps h.fed st.fed);
    tends = tends_on t t h.steps st.steps h.tends (own_tends x.number t st.steps st.own);
    follow = follow_on terms t h.steps st.steps h.tends h.follow (own_follow x.number terms t st.steps st.own);
    callers = no_callers h.steps st.steps _ (own_callers x.number st.steps st.own) h.callers;
    door_links = h.door_links;
    unused = unused_on;
    owner = h.owner;
    open_are = λ j z is. open_others j z (set_some s.places i j y z is);
    runs = h.runs;
    are = runs_on told h.steps st.steps h.owner (λ n none. spares n (not_gone h.owner x.number n i before.owned none)) h.runs h.gone h.are;
    gone = h.gone;
    once = λ c. once_on c ∙ h.once c ∙ ap (times c) (sym (no_callers h.steps st.steps (callers_of h.steps) (own_callers x.number st.steps st.own) refl));
    shut = h.shut;
    starved_are = h.starved_are;
    unwatched = h.unwatched;
    early = h.early;
    early_open = λ j z is. early_others j z (set_some s.places i j y z is);
    through = h.through;
    removed = λ g. removed_on h.steps st.steps h.owner (λ n none. spares n (not_gone h.owner x.number n i before.owned none)) h.runs h.gone (h.removed g);
    fences = fences_on h.steps st.steps h.fences fences_here;
    opened = h.opened;
    door_ends = h.door_ends;
    over_cause = h.over_cause;
    door_later = h.door_later;
    wait_later = h.wait_later;
  }

  -- the session's steps are among all of them
  pub session_with : (z : Step) → IsAmong z st.steps
      → (h' : Holds told terms old t all (record s { around = record s.around { knows = k }; places = slice_set s.places i (Some y) })) × IsAmong z h'.steps
      × ((n : ℕ) → ends_fence n st.steps ≡ true → ends_fence n h'.steps ≡ true)
  unfolding session_on
  session_with z a = (session_on, among_later z h.steps st.steps a, λ n e. ends_second n h.steps st.steps e)

pub table_none : (told : Option ℕ) (terms : Terms) (k : Knows) (places : List (Option SessionState)) → KeepsTable told terms k k places places
table_none told terms k places = λ d w joined starved is_over goes_on old t feeds h. h

pub table_more : (told : Option ℕ) (terms : Terms) (k1 k2 k3 : Knows) (a b c : List (Option SessionState)) → KeepsTable told terms k1 k2 a b
    → KeepsTable told terms k2 k3 b c → KeepsTable told terms k1 k3 a c
table_more told terms k1 k2 k3 a b c p q = λ d w joined starved is_over goes_on old t feeds h.
    q d w joined starved is_over goes_on old t feeds (p d w joined starved is_over goes_on old t feeds h)

pub table_step : (told : Option ℕ) (terms : Terms) (k k' : Knows) (places : List (Option SessionState)) (i : ℕ) (x y : SessionState)
    → slice_get places i ≡ Some (Some x) → StepsOn told k k' x y → KeepsTable told terms k k' places (slice_set places i (Some y))
table_step told terms k k' places i x y there st = λ d w joined starved is_over goes_on old t feeds h.
    session_on told terms old t feeds (loop_state k d w places joined starved is_over goes_on) h i x y k' there ⊥ (λ e. absurd e) []
    feeds (sym (append-nil feeds)) st

-- the same, where asks were answered out of the log
pub feeds_none : (By : Feed → Type 0) (told : Option ℕ) (terms : Terms) (k : Knows) (places : List (Option SessionState)) → FeedsTable By told terms k k places places
feeds_none By told terms k places = (
  [],
  tt,
  λ d w joined starved is_over goes_on old t feeds h.
      subst (λ (l : List Feed). Holds told terms old t l (loop_state k d w places joined starved is_over goes_on)) (sym (append-nil feeds)) h,
)

pub feeds_table : (By : Feed → Type 0) (told : Option ℕ) (terms : Terms) (k1 k2 k3 : Knows) (a b c : List (Option SessionState)) → FeedsTable By told terms k1 k2 a b
    → FeedsTable By told terms k2 k3 b c → FeedsTable By told terms k1 k3 a c
feeds_table By told terms k1 k2 k3 a b c p q = (
  p.0 ++ q.0,
  all_more By p.0 q.0 p.1 q.1,
  λ d w joined starved is_over goes_on old t feeds h.
      subst (λ (l : List Feed). Holds told terms old t l (loop_state k3 d w c joined starved is_over goes_on)) (append_assoc feeds p.0 q.0)
      (q.2 d w joined starved is_over goes_on old t (feeds ++ p.0) (p.2 d w joined starved is_over goes_on old t feeds h)),
)

pub feeds_step : (By : Feed → Type 0) (told : Option ℕ) (terms : Terms) (k k' : Knows) (places : List (Option SessionState)) (i : ℕ) (x y : SessionState)
    → slice_get places i ≡ Some (Some x) → FeedsOn By told k k' x y → FeedsTable By told terms k k' places (slice_set places i (Some y))
feeds_step By told terms k k' places i x y there st = (
  st.0,
  st.1,
  λ d w joined starved is_over goes_on old t feeds h.
      session_on told terms old t feeds (loop_state k d w places joined starved is_over goes_on) h i x y k' there ⊥ (λ e. absurd e) st.0
      (feeds ++ st.0) refl st.2,
)

-- ---- a session is ended by the server

pub early_none : (told : Option ℕ) (terms : Terms) (k : Knows) (w : WaitState) (places : List (Option SessionState)) → KeepsEarly told terms k w places places
early_none told terms k w places = λ d joined starved is_over goes_on old t feeds h. h

pub early_step : (told : Option ℕ) (terms : Terms) (k : Knows) (w : WaitState) (places : List (Option SessionState)) (i : ℕ) (x y : SessionState)
    → MayEnd terms w.over → slice_get places i ≡ Some (Some x) → EndsEarly told k x y → KeepsEarly told terms k w places (slice_set places i (Some y))
early_step told terms k w places i x y may there st = λ d joined starved is_over goes_on old t feeds h.
    session_on told terms old t feeds (loop_state k d w places joined starved is_over goes_on) h i x y k there (Unit {0}) (λ e. may) []
    feeds (sym (append-nil feeds)) st

-- ---- entries of the seat's own, for no session of the table

module _ (told : Option ℕ) (terms : Terms) (t : Tending) (k k' : Knows) (step : Step) (timely : IsTimely told step) (may : MayFollow terms t step) (spares : (n : ℕ) → Spares (step ∷ []) n)
    (quiet : (n : ℕ) → ends_fence n (step ∷ []) ≡ false) (nobody : callers_of (step ∷ []) ≡ []) (gains : Gains k k' (step_acts step))
    (unfed : feeds_at k' step ≡ []) where
  pub table_aside : KeepsAside told terms t (tending_behind t step) k k'
  table_aside = λ places d w joined starved is_over goes_on old feeds h.
      let more : List Step = step ∷ [] in
      record {
        steps = h.steps ++ more;
        gains = gains_steps old.knows k k' h.steps more h.gains (subst (λ (l : List Act). Gains k k' l) (sym (append-nil (step_acts step))) gains);
        timely = timely_more told h.steps more h.timely (timely, tt);
        fed = fed_on feeds old.knows k k' h.steps more h.fed (fed_one k k' step unfed gains);
        tends = tends_on t (tending_behind t step) h.steps more h.tends refl;
        follow = follow_on terms t h.steps more h.tends h.follow (may, tt);
        callers = no_callers h.steps more _ nobody h.callers;
        door_links = h.door_links;
        unused = λ n never.
            let u = h.unused n (never_before n h.steps more never) in
            (spared_calls h.steps more n (spares n) ∙ u.0, spared_takes h.steps more n (spares n) ∙ u.1);
        owner = h.owner;
        open_are = λ j z is. open_on told h.steps more h.owner h.owner j z (spares z.number) refl (h.open_are j z is);
        runs = h.runs;
        are = runs_on told h.steps more h.owner (λ n none. spares n) h.runs h.gone h.are;
        gone = h.gone;
        once = λ c. h.once c ∙ ap (times c) (sym (no_callers h.steps more (callers_of h.steps) nobody refl));
        shut = h.shut;
        starved_are = h.starved_are;
        unwatched = h.unwatched;
        early = h.early;
        early_open = h.early_open;
        through = h.through;
        removed = λ g. removed_on h.steps more h.owner (λ n none. spares n) h.runs h.gone (h.removed g);
        fences = fences_quiet h.steps more quiet h.fences;
        opened = h.opened;
        door_ends = h.door_ends;
        over_cause = h.over_cause;
        door_later = h.door_later;
        wait_later = h.wait_later;
      }

pub aside_none : (told : Option ℕ) (terms : Terms) (t : Tending) (k : Knows) → KeepsAside told terms t t k k
aside_none told terms t k = λ places d w joined starved is_over goes_on old feeds h. h

aside_more : (told : Option ℕ) (terms : Terms) (t1 t2 t3 : Tending) (k1 k2 k3 : Knows) → KeepsAside told terms t1 t2 k1 k2 → KeepsAside told terms t2 t3 k2 k3
    → KeepsAside told terms t1 t3 k1 k3
aside_more told terms t1 t2 t3 k1 k2 k3 p q = λ places d w joined starved is_over goes_on old feeds h.
    q places d w joined starved is_over goes_on old feeds (p places d w joined starved is_over goes_on old feeds h)

aside_tended : (told : Option ℕ) (terms : Terms) (t : Tending) (k k' : Knows) (m : ℕ) (log : LogState) → IsTold told m → Tends m k k' (Ok log)
    → KeepsAside told terms t (tended t log) k k'
aside_tended told terms t k k' m log timely is = table_aside told terms t k k' (Tended m is.0 log) (timely, is.1) tt (λ n. (refl, refl)) (λ n. refl) refl is.2 refl

aside_asked : (told : Option ℕ) (terms : Terms) (t : Tending) (k k' : Knows) → HasGrown terms t → Asks told k k' → KeepsAside told terms t t k k'
aside_asked told terms t k k' grown (inl s) = table_aside told terms t k k' (Unshrunk s.0) tt grown (λ n. (refl, refl)) (λ n. refl) refl s.1 refl
aside_asked told terms t k k' grown (inr s) = table_aside told terms t k k' (Shrunk s.0 s.1 s.2) s.3 grown (λ n. (refl, refl)) (λ n. refl) refl s.4 refl

aside_shrunk : (told : Option ℕ) (terms : Terms) (t : Tending) (k k' : Knows) → ShrinksOn told terms t k k' → KeepsAside told terms t t k k'
aside_shrunk told terms t k k' (inl same) = subst (λ (x : Knows). KeepsAside told terms t t k x) (sym same) (aside_none told terms t k)
aside_shrunk told terms t k k' (inr s) = aside_asked told terms t k k' s.0 s.1

-- memory was wanted, and the loop goes on
wanted_table : (told : Option ℕ) (terms : Terms) (t t' : Tending) (k k' : Knows) (m : ℕ) → IsTold told m → Tends m k k' (Err end.Memory)
    → (HasWanted t m → ⊥) → t' ≡ wanted t m → KeepsAside told terms t t' k k'
wanted_table told terms t t' k k' m timely is short same =
    subst (λ (x : Tending). KeepsAside told terms t x k k') (sym same)
    (table_aside told terms t k k' (Wanting m is.0 is.1) (timely, is.2, is.3) short (λ n. (refl, refl)) (λ n. refl) refl is.4 refl)

-- the end came with a tick or a step behind it
ended_table : (told : Option ℕ) (terms : Terms) (t t' : Tending) (k k' : Knows) (m : ℕ) (e : ServeEnd) → IsTold told m → Tends m k k' (Err e)
    → (e ≡ end.Memory → HasWanted t m) → TendsTable told terms t t' k k' (Some e)
ended_table told terms t t' k k' m e timely is long = (
  k,
  t,
  aside_none told terms t k,
  record { last = broken_acts m is.0 is.1; gains = is.4; is_last = inl (m, is.0, is.1, timely, is.2, is.3, long, refl) },
)

pub broken_table : (told : Option ℕ) (terms : Terms) (t t' : Tending) (k k' : Knows) (m : ℕ) (e : ServeEnd) (o : Option ServeEnd) → IsTold told m
    → Tends m k k' (Err e) → IfSome o (λ x. (x ≡ e) × (x ≡ end.Memory → HasWanted t m))
    → (o ≡ None → (e ≡ end.Memory) × (HasWanted t m → ⊥) × (t' ≡ wanted t m)) → TendsTable told terms t t' k k' o
broken_table told terms t t' k k' m e None timely is some none =
    let n = none refl in
    wanted_table told terms t t' k k' m timely (subst (λ (x : ServeEnd). Tends m k k' (Err x)) n.0 is) n.1 n.2
broken_table told terms t t' k k' m e (Some x) timely is some none =
    ended_table told terms t t' k k' m x timely (subst (λ (y : ServeEnd). Tends m k k' (Err y)) (sym some.0) is) some.1

-- behind a Tick that brought no end it was asked that the log be rewritten, or not
pub shrunk_table : (told : Option ℕ) (terms : Terms) (t t' : Tending) (log : LogState) (k mid k' : Knows) (m : ℕ) (o : Option ServeEnd) → IsTold told m
    → Tends m k mid (Ok log) → Shrinks told terms (tended t log) mid k' o → t' ≡ tended t log → TendsTable told terms t t' k k' o
shrunk_table told terms t t' log k mid k' m None timely is s same =
    subst (λ (x : Tending). KeepsAside told terms t x k k') (sym same)
    (aside_more told terms t (tended t log) (tended t log) k mid k' (aside_tended told terms t k mid m log timely is) (aside_shrunk told terms (tended t log) mid k' s))
shrunk_table told terms t t' log k mid k' m (Some e) timely is s same = (mid, tended t log, aside_tended told terms t k mid m log timely is, s)

-- the loop ends
pub goes_off : (told : Option ℕ) (terms : Terms) (k : Knows) (d : DoorState) (w : WaitState) (places : List (Option SessionState)) (joined starved : ℕ) (is_over goes : Bool)
    → Keeps told terms (loop_state k d w places joined starved is_over goes) (loop_state k d w places joined starved is_over false)
goes_off told terms k d w places joined starved is_over goes = λ old t feeds h. record {
  steps = h.steps;
  gains = h.gains;
  timely = h.timely;
  fed = h.fed;
  tends = h.tends;
  follow = h.follow;
  callers = h.callers;
  door_links = h.door_links;
  unused = h.unused;
  owner = h.owner;
  open_are = h.open_are;
  runs = h.runs;
  are = h.are;
  gone = h.gone;
  once = h.once;
  shut = h.shut;
  starved_are = h.starved_are;
  unwatched = h.unwatched;
  early = h.early;
  early_open = h.early_open;
  through = λ is. absurd (cc);
  removed = λ is. absurd (cc);
  fences = h.fences;
  opened = h.opened;
  door_ends = h.door_ends;
  over_cause = h.over_cause;
  door_later = h.door_later;
  wait_later = h.wait_later;
}

-- a place with nobody goes
pub pop_none : (told : Option ℕ) (terms : Terms) (k : Knows) (d : DoorState) (w : WaitState) (places : List (Option SessionState)) (joined starved : ℕ) (is_over goes : Bool)
    → Keeps told terms (loop_state k d w (places ++ None ∷ []) joined starved is_over goes) (loop_state k d w places joined starved is_over false)
pop_none told terms k d w places joined starved is_over goes = λ old t feeds h. record {
  steps = h.steps;
  gains = h.gains;
  timely = h.timely;
  fed = h.fed;
  tends = h.tends;
  follow = h.follow;
  callers = h.callers;
  door_links = h.door_links;
  unused = h.unused;
  owner = h.owner;
  open_are = λ j z is. h.open_are j z (less_last places None j z is);
  runs = h.runs;
  are = h.are;
  gone = h.gone;
  once = λ c. let t = times_last c places None in let o = h.once c in omega (arith, t, o);
  shut = h.shut;
  starved_are = h.starved_are;
  unwatched = h.unwatched;
  early = h.early;
  early_open = λ j z is. h.early_open j z (less_last places None j z is);
  through = λ is. absurd (cc);
  removed = λ is. absurd (cc);
  fences = h.fences;
  opened = h.opened;
  door_ends = h.door_ends;
  over_cause = h.over_cause;
  door_later = h.door_later;
  wait_later = h.wait_later;
}
