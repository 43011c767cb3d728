-- A loop's rounds, and its end.
use Rattle.std.proofs.Common.{◌≡◌, ◌⊎◌, ◌≤◌, ℕ, Bool, true, false, List, [], refl, sym, subst, inl, inr, arith}
use Rattle.std.specs.Prelude.{Option, Some, None, min}
use Rattle.std.specs.List.{AllByRecursion}
use Rattle.byte_text.specs.Names.{Bytes}
use Rattle.repl_stream.specs.declared.asks.Ask.{Ask}
use Rattle.repl_stream.specs.declared.parts.Part.{Part}
use Rattle.outside.specs.Causes.{Rose, next_count, most_count}
use Rattle.outside.specs.CauseLaws.{rose_later}
use Rattle.world_model.specs.declared.events.CallOutcome.{CallOutcome}
use Rattle.world_model.specs.declared.events.CallOutcome.TheVariants as called
use Rattle.world_model.specs.Seats.{Knows, Act}
use Rattle.outside.specs.Doors.{DoorState}
use Rattle.outside.specs.Waits.{WaitState}
use Rattle.session_run.specs.Gains.{Gains, gains_more}
use Rattle.session_run.specs.Sessions.{SessionState, end_of_asking}
use Rattle.serve_run.specs.declared.tends.ServeEnd.{ServeEnd}
use Rattle.serve_run.specs.declared.tends.ServeEnd.TheVariants as end
use Rattle.serve_run.specs.declared.tendings.Tending.{Tending}
use Rattle.serve_run.specs.declared.terms.Terms.{Terms}
use Rattle.serve_run.specs.Pacing.{untended}
use Rattle.serve_run.specs.Feeds.{Feed, FedBy}
use Rattle.serve_run.specs.Tends.{IsLast, TendsLast, UnfencesLast, serve_end, shrink_end}
use Rattle.serve_run.specs.Steps.{steps_acts}
use Rattle.serve_run.specs.Runs.{MayEnd, AreRemoved}
use Rattle.serve_run.specs.Loops.{Around, around, IsLastCaller, LoopEndsBy, ServesReady}
use Rattle.serve_run.specs.LoopStates.{LoopState, loop_state, Holds, Keeps, KeepsShutTo, NoneOpen}
use Rattle.serve_run.specs.LoopEnds.{IsLastOf, Leaves, TendsTable}
use Rattle.serve_run.proofs.Keeping.{goes_off}
use Rattle.serve_run.proofs.Places.{times_none}
use Rattle.serve_run.proofs.Records.{faults_on, shut_none, cause_on, causes_on, may_on}

abbrev Places : Type 0
Places = List (Option SessionState)

-- ---- before the first round

pub holds_at_first : (told : Option ℕ) (terms : Terms) (k : Knows) (d : DoorState) (w : WaitState) → Holds told terms (around k d w) untended [] (loop_state k d w [] 0 0 false true)
holds_at_first told terms k d w = record {
  steps = [];
  gains = refl;
  timely = tt;
  fed = (refl, refl);
  tends = refl;
  follow = tt;
  callers = refl;
  door_links = refl;
  unused = λ n never. (refl, refl);
  owner = λ n. None;
  open_are = λ i x is. absurd (cc);
  runs = [];
  are = tt;
  gone = tt;
  once = λ c. refl;
  shut = shut_none w.shut w.shut refl;
  starved_are = refl;
  unwatched = tt;
  early = tt;
  early_open = λ i x is. absurd (cc);
  through = λ is. tt;
  removed = λ is. tt;
  fences = λ n e. absurd (cc);
  opened = refl;
  door_ends = omega arith;
  over_cause = λ is. absurd (cc);
  door_later = omega arith;
  wait_later = omega arith;
}

-- ---- the door and the one that waits

-- the door told that no caller will come
over_state : (told : Option ℕ) (terms : Terms) (k : Knows) (d : DoorState) (w : WaitState) (places : Places) (joined starved : ℕ) (is_over : Bool)
    → Keeps told terms (loop_state k d w places joined starved is_over true) (loop_state k (record d { ends = next_count d.ends }) w places joined starved true true)
over_state told terms k d w places joined starved is_over = λ old t feeds h.
    let before : min old.door.ends most_count ≤ d.ends = h.door_ends in
    record {
      steps = h.steps;
      gains = h.gains;
      timely = h.timely;
      fed = h.fed;
      tends = h.tends;
      follow = h.follow;
      callers = h.callers;
      door_links = h.door_links;
      unused = h.unused;
      owner = h.owner;
      open_are = h.open_are;
      runs = h.runs;
      are = h.are;
      gone = h.gone;
      once = h.once;
      shut = h.shut;
      starved_are = h.starved_are;
      unwatched = h.unwatched;
      early = h.early;
      early_open = h.early_open;
      through = h.through;
      removed = h.removed;
      fences = h.fences;
      opened = h.opened;
      door_ends = omega (arith, before);
      over_cause = λ is. omega (arith, before);
      door_later = h.door_later;
      wait_later = h.wait_later;
    }

pub over_told : (told : Option ℕ) (terms : Terms) (k : Knows) (d d' : DoorState) (w : WaitState) (places : Places) (joined starved : ℕ) (is_over : Bool)
    → d' ≡ record d { ends = next_count d.ends } → Keeps told terms (loop_state k d w places joined starved is_over true) (loop_state k d' w places joined starved true true)
over_told told terms k d d' w places joined starved is_over is =
    subst (λ (x : DoorState). Keeps told terms (loop_state k d w places joined starved is_over true) (loop_state k x w places joined starved true true)) (sym is)
    (over_state told terms k d w places joined starved is_over)

-- the door failed, and nothing else of it changed
door_state : (told : Option ℕ) (terms : Terms) (k : Knows) (d : DoorState) (faults : ℕ) (w : WaitState) (places : Places) (joined starved : ℕ) (is_over : Bool) → d.faults ≤ faults
    → Keeps told terms (loop_state k d w places joined starved is_over true) (loop_state k (record d { faults = faults }) w places joined starved is_over false)
door_state told terms k d faults w places joined starved is_over later = λ old t feeds h.
    let before : old.door.faults ≤ d.faults = h.door_later in
    record {
      steps = h.steps;
      gains = h.gains;
      timely = h.timely;
      fed = h.fed;
      tends = h.tends;
      follow = h.follow;
      callers = h.callers;
      door_links = h.door_links;
      unused = h.unused;
      owner = h.owner;
      open_are = h.open_are;
      runs = h.runs;
      are = h.are;
      gone = h.gone;
      once = h.once;
      shut = h.shut;
      starved_are = h.starved_are;
      unwatched = h.unwatched;
      early = h.early;
      early_open = h.early_open;
      through = λ is. absurd (cc);
      removed = λ is. absurd (cc);
      fences = h.fences;
      opened = h.opened;
      door_ends = h.door_ends;
      over_cause = h.over_cause;
      door_later = omega (arith, before, later);
      wait_later = h.wait_later;
    }

pub door_failed : (told : Option ℕ) (terms : Terms) (k : Knows) (d d' : DoorState) (w : WaitState) (places : Places) (joined starved : ℕ) (is_over : Bool)
    → Rose d.faults d'.faults → d.faults ≤ d'.faults → d' ≡ record d { faults = d'.faults } → (old : Around) → (t t' : Tending) → (feeds : List Feed)
    → Holds told terms old t feeds (loop_state k d w places joined starved is_over true)
    → Leaves told terms old t' feeds (loop_state k d' w places joined starved is_over true) (Some end.DoorFault)
door_failed told terms k d d' w places joined starved is_over rose later same old t t' feeds h = (
  k,
  t,
  subst (λ (x : DoorState). Holds told terms old t feeds (loop_state k x w places joined starved is_over false)) (sym same)
      (door_state told terms k d d'.faults w places joined starved is_over later old t feeds h),
  (refl, inl (rose_later old.door.faults d.faults d'.faults h.door_later rose)),
)

-- the one that waits failed, and nothing else of it changed
failed_state : (told : Option ℕ) (terms : Terms) (k : Knows) (d : DoorState) (w : WaitState) (faults : ℕ) (places : Places) (joined starved : ℕ) (is_over : Bool) → w.faults ≤ faults
    → Keeps told terms (loop_state k d w places joined starved is_over true) (loop_state k d (record w { faults = faults }) places joined starved is_over false)
failed_state told terms k d w faults places joined starved is_over later = λ old t feeds h.
    let before : old.wait.faults ≤ w.faults = h.wait_later in
    record {
      steps = h.steps;
      gains = h.gains;
      timely = h.timely;
      fed = h.fed;
      tends = h.tends;
      follow = h.follow;
      callers = h.callers;
      door_links = h.door_links;
      unused = h.unused;
      owner = h.owner;
      open_are = h.open_are;
      runs = h.runs;
      are = h.are;
      gone = h.gone;
      once = h.once;
      shut = h.shut;
      starved_are = h.starved_are;
      unwatched = faults_on (Rose old.wait.faults w.faults) (Rose old.wait.faults faults) h.runs (λ r. omega (arith, r, later)) h.unwatched;
      early = h.early;
      early_open = h.early_open;
      through = λ is. absurd (cc);
      removed = λ is. absurd (cc);
      fences = h.fences;
      opened = h.opened;
      door_ends = h.door_ends;
      over_cause = h.over_cause;
      door_later = h.door_later;
      wait_later = omega (arith, before, later);
    }

pub wait_failed : (told : Option ℕ) (terms : Terms) (k : Knows) (d : DoorState) (w w' : WaitState) (places : Places) (joined starved : ℕ) (is_over : Bool)
    → Rose w.faults w'.faults → w.faults ≤ w'.faults → w' ≡ record w { faults = w'.faults } → (old : Around) → (t t' : Tending) → (feeds : List Feed)
    → Holds told terms old t feeds (loop_state k d w places joined starved is_over true) → Leaves told terms old t' feeds (loop_state k d w' places joined starved is_over true) (Some end.DoorFault)
wait_failed told terms k d w w' places joined starved is_over rose later same old t t' feeds h = (
  k,
  t,
  subst (λ (x : WaitState). Holds told terms old t feeds (loop_state k d x places joined starved is_over false)) (sym same)
      (failed_state told terms k d w w'.faults places joined starved is_over later old t feeds h),
  (refl, inr (rose_later old.wait.faults w.faults w'.faults h.wait_later rose)),
)

-- it waited, and the end of the server may have been asked for
looked_state : (told : Option ℕ) (terms : Terms) (k : Knows) (d : DoorState) (w : WaitState) (over : Bool) (places : Places) (joined starved : ℕ) (is_over : Bool)
    → (w.over ≡ true → over ≡ true)
    → Keeps told terms (loop_state k d w places joined starved is_over true) (loop_state k d (record w { over = over }) places joined starved is_over true)
looked_state told terms k d w over places joined starved is_over later = λ old t feeds h.
    let may : MayEnd terms w.over → MayEnd terms over = may_on terms w.over over later in
    record {
      steps = h.steps;
      gains = h.gains;
      timely = h.timely;
      fed = h.fed;
      tends = h.tends;
      follow = h.follow;
      callers = h.callers;
      door_links = h.door_links;
      unused = h.unused;
      owner = h.owner;
      open_are = h.open_are;
      runs = h.runs;
      are = h.are;
      gone = h.gone;
      once = h.once;
      shut = h.shut;
      starved_are = h.starved_are;
      unwatched = h.unwatched;
      early = causes_on (MayEnd terms w.over) (MayEnd terms over) h.runs may h.early;
      early_open = λ i x is. cause_on (MayEnd terms w.over) (MayEnd terms over) (end_of_asking x.asking) x.taking may (h.early_open i x is);
      through = h.through;
      removed = h.removed;
      fences = h.fences;
      opened = h.opened;
      door_ends = h.door_ends;
      over_cause = h.over_cause;
      door_later = h.door_later;
      wait_later = h.wait_later;
    }

pub wait_looked : (told : Option ℕ) (terms : Terms) (k : Knows) (d : DoorState) (w w' : WaitState) (places : Places) (joined starved : ℕ) (is_over : Bool)
    → (w.over ≡ true → w'.over ≡ true) → w' ≡ record w { over = w'.over }
    → Keeps told terms (loop_state k d w places joined starved is_over true) (loop_state k d w' places joined starved is_over true)
wait_looked told terms k d w w' places joined starved is_over later is =
    subst (λ (x : WaitState). Keeps told terms (loop_state k d w places joined starved is_over true) (loop_state k d x places joined starved is_over true)) (sym is)
    (looked_state told terms k d w w'.over places joined starved is_over later)

-- ---- the answers to a Tick and the Rewrites behind it

no_shrunk : (c : CallOutcome) → ((shrink_end c ≡ Some end.Done → ⊥) × (shrink_end c ≡ Some end.DoorFault → ⊥))
no_shrunk called.LogFault = (λ e. absurd (cc), λ e. absurd (cc))
no_shrunk called.Stopped = (λ e. absurd (cc), λ e. absurd (cc))
no_shrunk called.Spent = (λ e. absurd (cc), λ e. absurd (cc))
no_shrunk c = (λ e. absurd (cc), λ e. absurd (cc))

no_done : (c : CallOutcome) → serve_end c ≡ Some end.Done → ⊥
no_done called.Ok e = absurd (cc)
no_done c e = absurd (cc)

no_door : (c : CallOutcome) → serve_end c ≡ Some end.DoorFault → ⊥
no_door called.Ok e = absurd (cc)
no_door c e = absurd (cc)

last_done : (told : Option ℕ) (terms : Terms) (t : Tending) (last : List Act) → IsLast told terms t end.Done last → ⊥
last_done told terms t last (inl l) = no_done l.2 l.5
last_done told terms t last (inr (inl l)) = let n = no_shrunk l.2 in n.0 l.5
last_done told terms t last (inr (inr l)) = let n = no_shrunk l.3 in n.0 l.5

last_door : (told : Option ℕ) (terms : Terms) (t : Tending) (last : List Act) → IsLast told terms t end.DoorFault last → ⊥
last_door told terms t last (inl l) = no_door l.2 l.5
last_door told terms t last (inr (inl l)) = let n = no_shrunk l.2 in n.1 l.5
last_door told terms t last (inr (inr l)) = let n = no_shrunk l.3 in n.1 l.5

-- an answer brought the end
answered_last : (told : Option ℕ) (terms : Terms) (t t' : Tending) (k k' : Knows) (d : DoorState) (w : WaitState) (places : Places) (joined starved : ℕ)
    (is_over : Bool) (e : ServeEnd) (old : Around) (feeds : List Feed) → Holds told terms old t feeds (loop_state k d w places joined starved is_over false) → TendsLast told terms t k k' e
    → Leaves told terms old t' feeds (loop_state k' d w places joined starved is_over true) (Some e)
answered_last told terms t t' k k' d w places joined starved is_over end.Done old feeds h l = absurd (last_done told terms t l.last l.is_last)
answered_last told terms t t' k k' d w places joined starved is_over end.DoorFault old feeds h l = absurd (last_door told terms t l.last l.is_last)
answered_last told terms t t' k k' d w places joined starved is_over end.Stopped old feeds h l = (k, t, h, l)
answered_last told terms t t' k k' d w places joined starved is_over end.Spent old feeds h l = (k, t, h, l)
answered_last told terms t t' k k' d w places joined starved is_over end.Memory old feeds h l = (k, t, h, inl l)

pub tended_last : (told : Option ℕ) (terms : Terms) (t t' t2 : Tending) (k k' : Knows) (d : DoorState) (w : WaitState) (places : Places) (joined starved : ℕ)
    (is_over : Bool) (e : ServeEnd) → TendsTable told terms t t' k k' (Some e) → (old : Around) → (feeds : List Feed)
    → Holds told terms old t feeds (loop_state k d w places joined starved is_over true)
    → Leaves told terms old t2 feeds (loop_state k' d w places joined starved is_over true) (Some e)
tended_last told terms t t' t2 k k' d w places joined starved is_over e is old feeds h = answered_last told terms is.1 t2 is.0 k' d w places joined starved is_over e old feeds
    (goes_off told terms is.0 d w places joined starved is_over true old is.1 feeds (is.2 places d w joined starved is_over true old feeds h)) is.3

-- the removal of a session brought the end
pub shut_end : (told : Option ℕ) (terms : Terms) (t t' : Tending) (k k' : Knows) (d : DoorState) (w w' : WaitState) (places places' : Places) (joined starved : ℕ)
    (is_over : Bool) (e : ServeEnd) → KeepsShutTo told terms k k' w w' places places' (Some e) → (old : Around) → (feeds : List Feed)
    → Holds told terms old t feeds (loop_state k d w places joined starved is_over true)
    → Leaves told terms old t' feeds (loop_state k' d w' places' joined starved is_over true) (Some e)
shut_end told terms t t' k k' d w w' places places' joined starved is_over e is old feeds h = by is.2
  where
    off : Holds told terms old t feeds (loop_state is.0 d w' places' joined starved is_over false)
    off = is.1 d joined starved is_over old t feeds h

    by : (((is.0 ≡ k') × (e ≡ end.Memory)) ⊎ UnfencesLast told is.0 k' e) → Leaves told terms old t' feeds (loop_state k' d w' places' joined starved is_over true) (Some e)
    by (inl m) = subst (λ (x : ServeEnd). Leaves told terms old t' feeds (loop_state k' d w' places' joined starved is_over true) (Some x)) (sym m.1) (is.0, t, off, inr m.0)
    by (inr l) = answered_last told terms t t' is.0 k' d w' places' joined starved is_over e old feeds off
        (record { last = l.last; gains = l.gains; is_last = inr (inr l.is_last) })

-- memory ran out before a round was made
pub starved_last : (told : Option ℕ) (terms : Terms) (k : Knows) (d : DoorState) (w : WaitState) (places : Places) (joined starved : ℕ) (is_over : Bool) (old : Around)
    (t t' : Tending) (feeds : List Feed) → Holds told terms old t feeds (loop_state k d w places joined starved is_over true)
    → Leaves told terms old t' feeds (loop_state k d w places joined starved is_over true) (Some end.Memory)
starved_last told terms k d w places joined starved is_over old t t' feeds h =
    (k, t, goes_off told terms k d w places joined starved is_over true old t feeds h, inr refl)

-- all are through
pub done_last : (told : Option ℕ) (terms : Terms) (k : Knows) (d : DoorState) (w : WaitState) (places : Places) (joined starved : ℕ) (is_over : Bool) → NoneOpen places
    → IsLastOf terms w.over joined is_over → (old : Around) (t t' : Tending) (feeds : List Feed)
    → Holds told terms old t feeds (loop_state k d w places joined starved is_over true) → Leaves told terms old t' feeds (loop_state k d w places joined starved is_over true) (Some end.Done)
done_last told terms k d w places joined starved is_over none why old t t' feeds h = (k, t, h, (refl, none, why))

-- ---- the end

module _ (told : Option ℕ) (answers : Knows → Ask → Part → Bytes → Type 0) (terms : Terms) (old : Around) (t : Tending)
    (feeds : List Feed) (s : LoopState) (h : Holds told terms old t feeds s) (by : AllByRecursion (FedBy answers terms) feeds) (none : NoneOpen s.places) (k : Knows) (last : List Act)
    (gains : Gains s.around.knows k last) (e : ServeEnd) (ends : LoopEndsBy e told terms t last old (around k s.around.door s.around.wait) s.joined h.runs)
    (within : s.joined ≤ terms.limit) (removed : e ≡ end.Done → AreRemoved h.steps h.runs) where
  ends_so : ServesReady told answers terms old (around k s.around.door s.around.wait) s.joined s.starved e
  ends_so = record {
    steps = h.steps;
    last = last;
    gains = gains_more old.knows s.around.knows k (steps_acts h.steps) last h.gains gains;
    timely = h.timely;
    feeds = feeds;
    fed = (s.around.knows, h.fed, gains);
    fed_by = by;
    follow = h.follow;
    callers = h.callers;
    door_links = h.door_links;
    runs = h.runs;
    are = h.are;
    once = λ c. let z = times_none c s.places none in let o = h.once c in omega (arith, z, o);
    shut = h.shut;
    starved_are = h.starved_are;
    unwatched = h.unwatched;
    early = h.early;
    opened = h.opened;
    door_later = h.door_later;
    wait_later = h.wait_later;
    removed = removed;
    fences = h.fences;
    within = within;
    ended = subst (λ (x : Tending). LoopEndsBy e told terms x last old (around k s.around.door s.around.wait) s.joined h.runs) (sym h.tends) ends;
  }

nobody : NoneOpen []
nobody i x is = absurd (cc)

none_last : (k k' : Knows) → k ≡ k' → Gains k k' []
none_last k k' is = sym is

-- what of the loop's end is said of the one that waits, after the rest was shut
pub serves_end : (told : Option ℕ) (answers : Knows → Ask → Part → Bytes → Type 0) (terms : Terms) (old : Around) (t : Tending) (feeds : List Feed)
    (k : Knows) (d : DoorState) (w w' : WaitState) (places : Places) (joined starved : ℕ)
    (is_over : Bool) (e : ServeEnd) → AllByRecursion (FedBy answers terms) feeds → joined ≤ terms.limit
    → Leaves told terms old t feeds (loop_state k d w places joined starved is_over true) (Some e) → (e ≡ end.Done → w' ≡ w)
    → ((e ≡ end.Done → ⊥) → (mid : Knows) → (goes_on : Bool)
    → Keeps told terms (loop_state mid d w places joined starved is_over goes_on) (loop_state mid d w' [] joined starved is_over false))
    → w'.faults ≡ w.faults → ServesReady told answers terms old (around k d w') joined starved e
serves_end told answers terms old t feeds k d w w' places joined starved is_over end.Done by within l done rest faults =
    subst (λ (x : WaitState). ServesReady told answers terms old (around k d x) joined starved end.Done) (sym (done refl))
    (ends_so told answers terms old l.1 feeds (loop_state l.0 d w places joined starved is_over true) l.2 by l.3.1 k [] (none_last l.0 k l.3.0) end.Done
    (refl, why l.3.2, l.2.through refl) within (λ e. l.2.removed refl))
  where
    why : IsLastOf terms w.over joined is_over → IsLastCaller terms (Rose old.door.ends d.ends) w.over joined
    why (inl is) = inl (l.2.over_cause is)
    why (inr is) = inr is
serves_end told answers terms old t feeds k d w w' places joined starved is_over end.DoorFault by within l done rest faults =
    ends_so told answers terms old l.1 feeds (loop_state l.0 d w' [] joined starved is_over false)
    (rest (λ is. absurd (cc)) l.0 false old l.1 feeds l.2) by nobody k [] (none_last l.0 k l.3.0)
    end.DoorFault (refl, subst (λ (n : ℕ). Rose old.door.faults d.faults ⊎ Rose old.wait.faults n) (sym faults) l.3.1) within (λ e. absurd (cc))
serves_end told answers terms old t feeds k d w w' places joined starved is_over end.Stopped by within l done rest faults =
    ends_so told answers terms old l.1 feeds (loop_state l.0 d w' [] joined starved is_over false)
    (rest (λ is. absurd (cc)) l.0 false old l.1 feeds l.2) by nobody k l.3.last l.3.gains
    end.Stopped l.3.is_last within (λ e. absurd (cc))
serves_end told answers terms old t feeds k d w w' places joined starved is_over end.Spent by within l done rest faults =
    ends_so told answers terms old l.1 feeds (loop_state l.0 d w' [] joined starved is_over false)
    (rest (λ is. absurd (cc)) l.0 false old l.1 feeds l.2) by nobody k l.3.last l.3.gains
    end.Spent l.3.is_last within (λ e. absurd (cc))
serves_end told answers terms old t feeds k d w w' places joined starved is_over end.Memory by within l done rest faults = either l.3
  where
    either : (TendsLast told terms l.1 l.0 k end.Memory ⊎ (l.0 ≡ k)) → ServesReady told answers terms old (around k d w') joined starved end.Memory
    either (inl x) = ends_so told answers terms old l.1 feeds (loop_state l.0 d w' [] joined starved is_over false)
        (rest (λ is. absurd (cc)) l.0 false old l.1 feeds l.2) by nobody k x.last x.gains
        end.Memory (inl x.is_last) within (λ e. absurd (cc))
    either (inr is) = ends_so told answers terms old l.1 feeds (loop_state l.0 d w' [] joined starved is_over false)
        (rest (λ is. absurd (cc)) l.0 false old l.1 feeds l.2) by nobody k [] (none_last l.0 k is)
        end.Memory (inr refl) within (λ e. absurd (cc))
