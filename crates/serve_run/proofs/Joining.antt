-- A caller that came: a session for it, or the end of its link.
use Rattle.std.proofs.Common.{◌≡◌, ◌⊎◌, ◌≤◌, ◌+◌, ◌==◌, ℕ, Bool, true, false, List, [], ◌∷◌, ◌++◌, refl, sym, ap, ◌∙◌, subst, inl, inr, arith}
use Rattle.std.specs.Prelude.{Option, Some, None, Err, slice_set, option_map}
use Rattle.std.specs.List.{slice_get}
use Rattle.outside.specs.Causes.{Rose, next_count}
use Rattle.world_model.specs.Outcomes.{enter_outcome}
use Rattle.world_model.specs.Seats.{Knows, Adds}
use Rattle.world_model.specs.declared.events.EnterFault.{EnterFault}
use Rattle.world_model.specs.declared.events.EnterFault.TheVariants as refused
use Rattle.world_model.specs.declared.events.Event.TheVariants as event
use Rattle.world_model.specs.declared.events.Outcome.{Outcome}
use Rattle.world_model.specs.declared.events.Outcome.TheVariants as outcome
use Rattle.outside.specs.Doors.{DoorState}
use Rattle.outside.specs.Links.{LinkState, IsNew}
use Rattle.outside.specs.Waits.{WaitState}
use Rattle.session_run.specs.Calls.{Call}
use Rattle.session_run.specs.Gains.{Gains, gains_more, gains_one, made}
use Rattle.session_run.specs.Live.{has_set}
use Rattle.session_run.specs.Sessions.{SessionState, opened, end_of_asking}
use Rattle.session_run.specs.SoFar.{AskedSoFar, WrittenSoFar}
use Rattle.session_run.specs.AskedSteps.{asked_at_first}
use Rattle.session_run.specs.WrittenSteps.{written_at_first}
use Rattle.serve_run.specs.Steps.{Step, IsAmong, Joined, Removed, steps_acts, calls_of, takes_of, callers_of, ends_fence, numbered, behind_callers, AreTimely}
use Rattle.serve_run.specs.Runs.{LinkRun, LinkFate, TurnedOut, Starved, Unwatched, Served, IsRefusal, IsUnserved, fate_outcome, IsRun, AreRuns, WatchFault, MayEnd, EndCause, FateCause, IsRemoved, one_if, times, times_shut, is_through, starved_in, starved_of, told_of}
use Rattle.serve_run.specs.declared.tendings.Tending.{Tending}
use Rattle.serve_run.specs.declared.terms.Terms.{Terms}
use Rattle.serve_run.specs.Feeds.{Feed, AreFed}
use Rattle.serve_run.specs.Follows.{tending_from, AllFollow}
use Rattle.serve_run.specs.Loops.{Around}
use Rattle.serve_run.specs.LoopStates.{loop_state, IsOpen, IsGone, AreGone, Holds, NeverJoined, times_open}
use Rattle.serve_run.specs.LoopEnds.{ShutBy, HasPlace}
use Rattle.serve_run.proofs.Following.{tends_on, follow_on}
use Rattle.serve_run.proofs.Numbers.{never_joined}
use Rattle.serve_run.proofs.Owners.{reassign, owner_at, owner_other, all_gone_none}
use Rattle.serve_run.proofs.Places.{push_none, set_some, times_set, times_last}
use Rattle.serve_run.proofs.Fencing.{fences_quiet}
use Rattle.serve_run.proofs.Records.{Spares, spared_calls, spared_takes, callers_more, among_behind, joined_other, never_before, open_on, runs_on, runs_push, gone_push, shut_times, caller_times, starved_push, faults_on, faults_push, cause_on, causes_on, causes_push, removed_on, removed_push, among_second, through_push, shut_on, told_by, numbered_next, behind_next}
use Rattle.serve_run.proofs.Shutting.{shut_told, shut_untold, shut_faults, shut_over_same}
use Rattle.serve_run.proofs.Stepping.{timely_more, fed_more, fed_on, fed_one, gains_steps}

-- the places of a table are as before, but for one more with nobody
placed_less : (old new : List (Option SessionState)) → HasPlace old new → (j : ℕ) → (z : SessionState) → slice_get new j ≡ Some (Some z) → slice_get old j ≡ Some (Some z)
placed_less old new (inl same) j z is = subst (λ (l : List (Option SessionState)). slice_get l j ≡ Some (Some z)) same is
placed_less old new (inr more) j z is = push_none old j z (subst (λ (l : List (Option SessionState)). slice_get l j ≡ Some (Some z)) more is)

placed_times : (old new : List (Option SessionState)) → HasPlace old new → (c : ℕ) → times_open c new ≡ times_open c old
placed_times old new (inl same) c = ap (times_open c) same
placed_times old new (inr more) c = let t = times_last c old None in ap (times_open c) more ∙ omega (arith, t)

module _ (told : Option ℕ) (terms : Terms) (old : Around) (t : Tending) (feeds : List Feed) (d : DoorState) (w : WaitState) (k : Knows) (places : List (Option SessionState)) (joined starved : ℕ) (is_over : Bool)
    (came : LinkState) (is_new : IsNew d.links came) (h : Holds told terms old t feeds (loop_state k d w places joined starved is_over true)) where
  newly : IsNew came.caller came
  newly = record { caller_is = refl; unwritten = is_new.unwritten; unfailed = is_new.unfailed }

  caller_is : came.caller ≡ behind_callers old.door.links joined
  caller_is = is_new.caller_is ∙ h.door_links

  callers_next : (more : List Step) → callers_of more ≡ came.caller ∷ [] → callers_of (h.steps ++ more) ≡ callers_of h.steps ++ came.caller ∷ []
  callers_next more is = callers_more h.steps more ∙ ap (λ (l : List ℕ). callers_of h.steps ++ l) is

  all_callers : (more : List Step) → callers_of more ≡ came.caller ∷ [] → callers_of (h.steps ++ more) ≡ numbered old.door.links (joined + 1)
  all_callers more is =
      callers_next more is ∙ ap (λ (l : List ℕ). l ++ came.caller ∷ []) h.callers
      ∙ ap (λ (c : ℕ). numbered old.door.links joined ++ c ∷ []) caller_is ∙ sym (numbered_next old.door.links joined)

  links_next : next_count d.links ≡ behind_callers old.door.links (joined + 1)
  links_next = ap next_count h.door_links ∙ sym (behind_next old.door.links joined)

  unused_next : (more : List Step) → ((n : ℕ) → Spares more n) → (n : ℕ) → NeverJoined n (h.steps ++ more)
      → (calls_of n (h.steps ++ more) ≡ []) × (takes_of n (h.steps ++ more) ≡ [])
  unused_next more spares n never =
      let u = h.unused n (never_before n h.steps more never) in
      (spared_calls h.steps more n (spares n) ∙ u.0, spared_takes h.steps more n (spares n) ∙ u.1)

  -- no session was seated for the caller: its link was shut
  module _ (k' : Knows) (w1 w' : WaitState) (places' : List (Option SessionState)) (b : Bool) (fate : LinkFate) (more : List Step) (owner : ℕ → Option ℕ)
      (gains : Gains k k' (steps_acts more)) (fed : AreFed [] k k' more) (timely : AreTimely told more) (untold : tending_from t more ≡ t) (may : AllFollow terms t more) (one : callers_of more ≡ came.caller ∷ []) (spares : (n : ℕ) → Spares more n)
      (quiet : (n : ℕ) → ends_fence n more ≡ false)
      (run_is : IsRun told (h.steps ++ more) (record { came = came; went = came; fate = fate; is_told = b }))
      (still : (j : ℕ) → (z : SessionState) → slice_get places j ≡ Some (Some z) → owner z.number ≡ h.owner z.number)
      (gone : AreGone owner h.runs) (off : IsGone owner fate) (placed : HasPlace places places') (waits : w1.shut ≡ w.shut) (asks : w1.over ≡ w.over) (later : w.faults ≤ w1.faults)
      (shuts : ShutBy w1 w' b came) (fault : WatchFault (Rose old.wait.faults w'.faults) fate) (cause : FateCause (MayEnd terms w'.over) fate) (off_hall : IsRemoved (h.steps ++ more) fate) (through : is_through fate ≡ true) where
    abbrev run : LinkRun
    run = record { came = came; went = came; fate = fate; is_told = b }

    open_still : (j : ℕ) (z : SessionState) → slice_get places j ≡ Some (Some z) → IsOpen told (h.steps ++ more) owner j z
    open_still j z is = open_on told h.steps more h.owner owner j z (spares z.number) (still j z is) (h.open_are j z is)

    once_next : (c : ℕ) → times_shut c (h.runs ++ run ∷ []) + times_open c places' ≡ times c (callers_of (h.steps ++ more))
    once_next c =
        let t = shut_times c h.runs run in
        let p = placed_times places places' placed c in
        let u = caller_times c (callers_of h.steps) came.caller in
        let o = h.once c in
        let all : times_shut c (h.runs ++ run ∷ []) + times_open c places' ≡ times c (callers_of h.steps ++ came.caller ∷ []) = omega (arith, t, p, u, o) in
        all ∙ ap (times c) (sym (callers_next more one))

    faults : w'.faults ≡ w1.faults
    faults = shut_faults w1 w' b came shuts

    not_less : w.faults ≤ w'.faults
    not_less = let f = faults in omega (arith, f, later)

    rose_on : Rose old.wait.faults w.faults → Rose old.wait.faults w'.faults
    rose_on r = let n = not_less in omega (arith, n, r)

    over_still : w'.over ≡ w.over
    over_still = shut_over_same w1 w' b came shuts ∙ asks

    may_still : MayEnd terms w.over → MayEnd terms w'.over
    may_still m = subst (λ (o : Bool). MayEnd terms o) (sym over_still) m

    told_shut : w'.shut ≡ option_map (λ links. links ++ told_of run) w.shut
    told_shut = told_by w.shut w'.shut run b refl
        (λ is. shut_told w1 w' b came shuts is ∙ ap (option_map (λ (links : List LinkState). links ++ came ∷ [])) waits)
        (λ is. shut_untold w1 w' b came shuts is ∙ waits)

    pub turned_away : Holds told terms old t feeds (loop_state k' (record d { links = next_count d.links }) w' places' (joined + 1) (starved + starved_in fate) is_over b)
    turned_away = record {
      steps = h.steps ++ more;
      gains = gains_steps old.knows k k' h.steps more h.gains gains;
      timely = timely_more told h.steps more h.timely timely;
      fed = fed_on feeds old.knows k k' h.steps more h.fed fed;
      tends = tends_on t t h.steps more h.tends untold;
      follow = follow_on terms t h.steps more h.tends h.follow may;
      callers = all_callers more one;
      door_links = links_next;
      unused = unused_next more spares;
      owner = owner;
      open_are = λ j z is. open_still j z (placed_less places places' placed j z is);
      runs = h.runs ++ run ∷ [];
      are = runs_push told (h.steps ++ more) h.runs run (runs_on told h.steps more h.owner (λ n none. spares n) h.runs h.gone h.are) run_is;
      gone = gone_push owner h.runs run gone off;
      once = once_next;
      shut = shut_on old.wait.shut w.shut w'.shut h.runs run h.shut told_shut;
      starved_are = let more_one = starved_push h.runs run in let was : starved ≡ starved_of h.runs = h.starved_are in omega (arith, more_one, was);
      unwatched = faults_push (Rose old.wait.faults w'.faults) h.runs run (faults_on (Rose old.wait.faults w.faults) (Rose old.wait.faults w'.faults) h.runs rose_on h.unwatched) fault;
      early = causes_push (MayEnd terms w'.over) h.runs run (causes_on (MayEnd terms w.over) (MayEnd terms w'.over) h.runs may_still h.early) cause;
      early_open = λ j z is. cause_on (MayEnd terms w.over) (MayEnd terms w'.over) (end_of_asking z.asking) z.taking may_still
          (h.early_open j z (placed_less places places' placed j z is));
      through = λ is. through_push h.runs run (h.through refl) through is;
      removed = λ is. removed_push (h.steps ++ more) h.runs run (removed_on h.steps more h.owner (λ n none. spares n) h.runs h.gone (h.removed refl)) off_hall;
      fences = fences_quiet h.steps more quiet h.fences;
      opened = h.opened;
      door_ends = h.door_ends;
      over_cause = h.over_cause;
      door_later = h.door_later;
      wait_later = let n = not_less in let before : old.wait.faults ≤ w.faults = h.wait_later in omega (arith, n, before);
    }

  refusal : (o : Outcome) → IsRefusal o → fate_outcome (TurnedOut o) ≡ o
  refusal o is = refl

  -- the Enter was refused
  pub turned_out : (k' : Knows) (w' : WaitState) (b : Bool) (o : Outcome) → IsRefusal o → Adds event.Enter o k k' → ShutBy w w' b came
      → Holds told terms old t feeds (loop_state k' (record d { links = next_count d.links }) w' places (joined + 1) starved is_over b)
  turned_out k' w' b o is adds shuts =
      subst (λ (n : ℕ). Holds told terms old t feeds (loop_state k' (record d { links = next_count d.links }) w' places (joined + 1) n is_over b)) (same starved)
      (turned_away k' w w' places b (TurnedOut o) (Joined came.caller o ∷ []) h.owner
      (gains_one k k' (event.Enter, o) (made event.Enter o k k' adds))
      (fed_one k k' (Joined came.caller o) refl (gains_one k k' (event.Enter, o) (made event.Enter o k k' adds))) (tt, tt) refl (tt, tt) refl (λ n. (refl, refl)) (λ n. refl)
      (record { is_new = newly; joined = among_behind (Joined came.caller o) h.steps []; fate = (is, refl) })
      (λ j z there. refl) h.gone tt (inl refl) refl refl (omega arith) shuts tt tt tt refl)
    where
      same : (n : ℕ) → n + 0 ≡ n
      same n = omega arith

  -- the session was entered
  module _ (k1 : Knows) (n : ℕ) (adds : Adds event.Enter (outcome.Entered n) k k1) where
    never : NeverJoined n h.steps
    never = never_joined old.knows k k1 h.steps n h.gains adds

    not_open : (j : ℕ) (z : SessionState) → slice_get places j ≡ Some (Some z) → z.number ≡ n → ⊥
    not_open j z is = let o = h.open_are j z is in joined_other n z.number o.came.caller h.steps never o.joined

    removed_gains : (k2 : Knows) → Adds (event.Remove n) outcome.Done k1 k2 → Gains k k2 (steps_acts (Joined came.caller (outcome.Entered n) ∷ Removed n ∷ []))
    removed_gains k2 removed = gains_more k k1 k2 ((event.Enter, outcome.Entered n) ∷ []) ((event.Remove n, outcome.Done) ∷ [])
        (gains_one k k1 (event.Enter, outcome.Entered n) (made event.Enter (outcome.Entered n) k k1 adds))
        (gains_one k1 k2 (event.Remove n, outcome.Done) (made (event.Remove n) outcome.Done k1 k2 removed))

    removed_fed : (k2 : Knows) → Adds (event.Remove n) outcome.Done k1 k2 → AreFed [] k k2 (Joined came.caller (outcome.Entered n) ∷ Removed n ∷ [])
    removed_fed k2 removed = fed_more [] [] k k1 k2 (Joined came.caller (outcome.Entered n) ∷ []) (Removed n ∷ [])
        (fed_one k k1 (Joined came.caller (outcome.Entered n)) refl (gains_one k k1 (event.Enter, outcome.Entered n) (made event.Enter (outcome.Entered n) k k1 adds)))
        (fed_one k1 k2 (Removed n) refl (gains_one k1 k2 (event.Remove n, outcome.Done) (made (event.Remove n) outcome.Done k1 k2 removed)))

    unserved : (more : List Step) → ((m : ℕ) → Spares more m) → IsUnserved (h.steps ++ more) came came n
    unserved more spares =
        let u = h.unused n never in
        record {
          uncalled = spared_calls h.steps more n (spares n) ∙ u.0;
          untaken = spared_takes h.steps more n (spares n) ∙ u.1;
          same = refl;
        }

    -- and removed again for want of memory
    pub turned_starved : (k2 : Knows) (w' : WaitState) (places' : List (Option SessionState)) (b : Bool) → Adds (event.Remove n) outcome.Done k1 k2
        → HasPlace places places' → ShutBy w w' b came
        → Holds told terms old t feeds (loop_state k2 (record d { links = next_count d.links }) w' places' (joined + 1) (starved + 1) is_over b)
    turned_starved k2 w' places' b removed placed shuts =
        let more : List Step = Joined came.caller (outcome.Entered n) ∷ Removed n ∷ [] in
        turned_away k2 w w' places' b (Starved n) more (reassign h.owner n None) (removed_gains k2 removed) (removed_fed k2 removed) (tt, (tt, tt)) refl (tt, (tt, tt)) refl (λ m. (refl, refl)) (λ m. refl)
        (record { is_new = newly; joined = among_behind (Joined came.caller (outcome.Entered n)) h.steps (Removed n ∷ []); fate = unserved more (λ m. (refl, refl)) })
        (λ j z is. owner_other h.owner n None z.number (not_open j z is)) (all_gone_none h.owner n h.runs h.gone) (owner_at h.owner n None) placed refl refl (omega arith)
        shuts tt tt (among_second (Joined came.caller (outcome.Entered n)) (Removed n) h.steps) refl

    -- or because its link could not be watched
    pub turned_unwatched : (k2 : Knows) (w1 w' : WaitState) (places' : List (Option SessionState)) (b : Bool) → Adds (event.Remove n) outcome.Done k1 k2
        → HasPlace places places' → Rose w.faults w1.faults → w.faults ≤ w1.faults → w1 ≡ record w { faults = w1.faults } → ShutBy w1 w' b came
        → Holds told terms old t feeds (loop_state k2 (record d { links = next_count d.links }) w' places' (joined + 1) starved is_over b)
    turned_unwatched k2 w1 w' places' b removed placed rose later same shuts =
        let more : List Step = Joined came.caller (outcome.Entered n) ∷ Removed n ∷ [] in
        let before : old.wait.faults ≤ w.faults = h.wait_later in
        let f = shut_faults w1 w' b came shuts in
        let cause : Rose old.wait.faults w'.faults = omega (arith, rose, before, f) in
        subst (λ (m : ℕ). Holds told terms old t feeds (loop_state k2 (record d { links = next_count d.links }) w' places' (joined + 1) m is_over b)) (none starved)
        (turned_away k2 w1 w' places' b (Unwatched n) more (reassign h.owner n None) (removed_gains k2 removed) (removed_fed k2 removed) (tt, (tt, tt)) refl (tt, (tt, tt)) refl (λ m. (refl, refl)) (λ m. refl)
        (record { is_new = newly; joined = among_behind (Joined came.caller (outcome.Entered n)) h.steps (Removed n ∷ []); fate = unserved more (λ m. (refl, refl)) })
        (λ j z is. owner_other h.owner n None z.number (not_open j z is)) (all_gone_none h.owner n h.runs h.gone) (owner_at h.owner n None) placed
        (ap (λ (x : WaitState). x.shut) same) (ap (λ (x : WaitState). x.over) same) later shuts cause tt
        (among_second (Joined came.caller (outcome.Entered n)) (Removed n) h.steps) refl)
      where
        none : (m : ℕ) → m + 0 ≡ m
        none m = omega arith

    -- it has a place
    module _ (w' : WaitState) (mid : List (Option SessionState)) (i : ℕ) (x : SessionState) (is : x ≡ opened came n) (placed : HasPlace places mid)
        (free : slice_get mid i ≡ Some None) (same : w' ≡ w) where
      abbrev step : List Step
      step = Joined came.caller (outcome.Entered n) ∷ []

      abbrev owner_now : ℕ → Option ℕ
      owner_now = reassign h.owner n (Some i)

      spared : (m : ℕ) → Spares step m
      spared m = (refl, refl)

      uncalled : calls_of n (h.steps ++ step) ≡ []
      uncalled = let u = h.unused n never in spared_calls h.steps step n (spared n) ∙ u.0

      untaken : takes_of n (h.steps ++ step) ≡ []
      untaken = let u = h.unused n never in spared_takes h.steps step n (spared n) ∙ u.1

      opens : IsOpen told (h.steps ++ step) owner_now i (opened came n)
      opens = record {
        came = came;
        is_new = newly;
        caller = refl;
        joined = among_behind (Joined came.caller (outcome.Entered n)) h.steps [];
        asked = subst (λ (l : List Call). AskedSoFar told l came (opened came n)) (sym uncalled) (asked_at_first told came n);
        written = subst (λ (l : List Outcome). WrittenSoFar l came (opened came n)) (sym untaken) (written_at_first came n);
        fenced = sym (ap (has_set n) uncalled);
        owned = owner_at h.owner n (Some i);
      }

      open_all : (j : ℕ) (z : SessionState) → ((j ≡ i) × (x ≡ z)) ⊎ ((j ≡ i → ⊥) × (slice_get mid j ≡ Some (Some z))) → IsOpen told (h.steps ++ step) owner_now j z
      open_all j z (inl e) = subst (λ (m : ℕ). IsOpen told (h.steps ++ step) owner_now m z) (sym e.0)
          (subst (λ (y : SessionState). IsOpen told (h.steps ++ step) owner_now i y) (sym is ∙ e.1) opens)
      open_all j z (inr e) =
          let there = placed_less places mid placed j z e.1 in
          open_on told h.steps step h.owner owner_now j z (spared z.number) (owner_other h.owner n (Some i) z.number (not_open j z there)) (h.open_are j z there)

      abbrev early_cause : SessionState → Type 0
      early_cause z = EndCause (MayEnd terms w.over) (end_of_asking z.asking) z.taking

      early_first : early_cause (opened came n)
      early_first = (λ e. absurd (cc), λ e. absurd (cc))

      early_all : (j : ℕ) (z : SessionState) → ((j ≡ i) × (x ≡ z)) ⊎ ((j ≡ i → ⊥) × (slice_get mid j ≡ Some (Some z))) → early_cause z
      early_all j z (inl e) = subst (λ (y : SessionState). early_cause y) (sym is ∙ e.1) early_first
      early_all j z (inr e) = h.early_open j z (placed_less places mid placed j z e.1)

      caller_same : x.line.caller ≡ came.caller
      caller_same = ap (λ (y : SessionState). y.line.caller) is

      once_one : (c : ℕ) → times_shut c h.runs + times_open c (slice_set mid i (Some x)) ≡ times c (callers_of (h.steps ++ step))
      once_one c =
          let t = times_set c mid i None (Some x) free in
          let p = placed_times places mid placed c in
          let u = caller_times c (callers_of h.steps) came.caller in
          let o = h.once c in
          let e : one_if (x.line.caller == c) ≡ one_if (came.caller == c) = ap (λ (m : ℕ). one_if (m == c)) caller_same in
          let all : times_shut c h.runs + times_open c (slice_set mid i (Some x)) ≡ times c (callers_of h.steps ++ came.caller ∷ []) = omega (arith, t, p, u, o, e) in
          all ∙ ap (times c) (sym (callers_next step refl))

      run_other : (run : LinkRun) → IsRun told h.steps run → IsGone h.owner run.fate → IsGone owner_now run.fate
      run_other run r g = by_fate run.fate r.joined g
        where
          by_fate : (fate : LinkFate) → IsAmong (Joined run.came.caller (fate_outcome fate)) h.steps → IsGone h.owner fate → IsGone owner_now fate
          by_fate (TurnedOut o) a g = tt
          by_fate (Starved m) a g = owner_other h.owner n (Some i) m (joined_other n m run.came.caller h.steps never a) ∙ g
          by_fate (Unwatched m) a g = owner_other h.owner n (Some i) m (joined_other n m run.came.caller h.steps never a) ∙ g
          by_fate (Served m asking taking) a g = owner_other h.owner n (Some i) m (joined_other n m run.came.caller h.steps never a) ∙ g

      runs_other : (runs : List LinkRun) → AreRuns told h.steps runs → AreGone h.owner runs → AreGone owner_now runs
      runs_other [] are gone = tt
      runs_other (run ∷ runs) are gone = (run_other run are.0 gone.0, runs_other runs are.1 gone.1)

      pub seated : Holds told terms old t feeds (loop_state k1 (record d { links = next_count d.links }) w' (slice_set mid i (Some x)) (joined + 1) starved is_over true)
      seated = subst (λ (v : WaitState). Holds told terms old t feeds (loop_state k1 (record d { links = next_count d.links }) v (slice_set mid i (Some x)) (joined + 1) starved is_over true)) (sym same)
          (record {
            steps = h.steps ++ step;
            gains = gains_steps old.knows k k1 h.steps step h.gains (gains_one k k1 (event.Enter, outcome.Entered n) (made event.Enter (outcome.Entered n) k k1 adds));
            timely = timely_more told h.steps step h.timely (tt, tt);
            fed = fed_on feeds old.knows k k1 h.steps step h.fed (fed_one k k1 (Joined came.caller (outcome.Entered n)) refl
                (gains_one k k1 (event.Enter, outcome.Entered n) (made event.Enter (outcome.Entered n) k k1 adds)));
            tends = tends_on t t h.steps step h.tends refl;
            follow = follow_on terms t h.steps step h.tends h.follow (tt, tt);
            callers = all_callers step refl;
            door_links = links_next;
            unused = unused_next step spared;
            owner = owner_now;
            open_are = λ j z there. open_all j z (set_some mid i j x z there);
            runs = h.runs;
            are = runs_on told h.steps step h.owner (λ m none. spared m) h.runs h.gone h.are;
            gone = runs_other h.runs h.are h.gone;
            once = once_one;
            shut = h.shut;
            starved_are = h.starved_are;
            unwatched = h.unwatched;
            early = h.early;
            early_open = λ j z there. early_all j z (set_some mid i j x z there);
            through = h.through;
            removed = λ g. removed_on h.steps step h.owner (λ m none. spared m) h.runs h.gone (h.removed g);
            fences = fences_quiet h.steps step (λ m. refl) h.fences;
            opened = h.opened;
            door_ends = h.door_ends;
            over_cause = h.over_cause;
            door_later = h.door_later;
            wait_later = h.wait_later;
          })

pub enter_refusal : (f : EnterFault) → IsRefusal (enter_outcome (Err f))
enter_refusal refused.TooMany = tt
enter_refusal refused.Stopped = tt
enter_refusal refused.Memory = tt
