-- A session that leaves the table, and its link's run.
use Rattle.std.proofs.Common.{◌≡◌, ◌≤◌, ◌<◌, ◌+◌, ◌==◌, ℕ, Bool, true, false, List, [], ◌∷◌, ◌++◌, refl, sym, ap, ◌∙◌, subst, arith, inl, inr}
use Rattle.std.specs.Prelude.{Option, Some, None, slice_set, option_map, length}
use Rattle.std.specs.List.{slice_get}
use Rattle.std.specs.Io.KnownBytes.{append_known, Appends}
use Rattle.std.proofs.lemmas.List.{append-nil}
use Rattle.outside.specs.Causes.{Rose}
use Rattle.outside.specs.Writing.{AppendsPart}
use Rattle.byte_text.specs.Names.{Bytes}
use Rattle.world_model.specs.declared.events.Asked.{Asked}
use Rattle.world_model.specs.Seats.{Knows}
use Rattle.outside.specs.Links.{LinkState}
use Rattle.outside.specs.Doors.{DoorState}
use Rattle.outside.specs.Waits.{WaitState}
use Rattle.session_run.specs.Calls.{Serves}
use Rattle.session_run.specs.Live.{has_set}
use Rattle.session_run.specs.Outs.{bytes_given}
use Rattle.session_run.specs.declared.ends.InEnd.{InEnd}
use Rattle.session_run.specs.declared.ends.InEnd.TheVariants as ended
use Rattle.session_run.specs.declared.phases.Asking.{Asking}
use Rattle.session_run.specs.declared.phases.Asking.TheVariants.{Open, Breaking, Ended}
use Rattle.session_run.specs.declared.phases.TakeEnd.{TakeEnd}
use Rattle.session_run.specs.declared.phases.TakeEnd.TheVariants as took
use Rattle.session_run.specs.Owing.{owed_all}
use Rattle.session_run.specs.Sessions.{SessionState, demand, owed, can_write, IsOver, end_of_asking}
use Rattle.session_run.specs.SoFar.{asked_for, Asks, Owes}
use Rattle.session_run.specs.WrittenSteps.{written_part}
use Rattle.serve_run.specs.declared.tends.ServeEnd.{ServeEnd}
use Rattle.serve_run.specs.Steps.{Step, Removed, IsAmong, calls_of, takes_of, callers_of}
use Rattle.serve_run.specs.Runs.{LinkRun, Served, AskingEnds, Wrote, IsServed, EndsFence, is_through, MayEnd, EndCause, one_if, times, times_shut}
use Rattle.serve_run.specs.declared.tendings.Tending.{Tending}
use Rattle.serve_run.specs.declared.terms.Terms.{Terms}
use Rattle.serve_run.specs.Feeds.{Feed}
use Rattle.serve_run.specs.Loops.{Around}
use Rattle.serve_run.specs.SessionSteps.{StepsOn, RemovesSession, RemovesTo}
use Rattle.serve_run.specs.LoopStates.{LoopState, loop_state, IsOpen, Holds, Keeps, KeepsTable, KeepsShut, KeepsShutTo, times_open}
use Rattle.serve_run.specs.LoopEnds.{ShutBy, end_behind}
use Rattle.serve_run.proofs.Keeping.{session_on, session_with, other_place}
use Rattle.serve_run.proofs.Owners.{reassign, owner_at, owner_other, all_gone_none, open_owner}
use Rattle.serve_run.proofs.Places.{set_none, set_again, set_there, times_set, less_last, not_last, at_last, times_last}
use Rattle.serve_run.proofs.Records.{runs_push, gone_push, shut_times, starved_push, faults_on, faults_push, cause_on, causes_on, causes_push, removed_push, through_push, shut_on, told_by}

-- ---- what a session was asked and written, in words that name no state of it

-- how its taking ended, where nothing is left to be written or its link failed
abbrev pub through_by : Option TakeEnd → Bytes → Option TakeEnd
through_by (Some took.WriteFault) out = Some took.WriteFault
through_by (Some took.Late) out = Some took.Late
through_by t [] = t
through_by t (b ∷ out) = None

through_is : (t : Option TakeEnd) (out : Bytes) (e : TakeEnd) → through_by t out ≡ Some e → t ≡ Some e
through_is (Some took.WriteFault) out e is = is
through_is (Some took.Late) out e is = is
through_is (Some took.Memory) [] e is = is
through_is (Some took.Ended) [] e is = is
through_is (Some took.LogFault) [] e is = is
through_is (Some took.Stopped) [] e is = is
through_is None [] e is = is
through_is (Some took.Memory) (b ∷ out) e is = absurd (cc)
through_is (Some took.Ended) (b ∷ out) e is = absurd (cc)
through_is (Some took.LogFault) (b ∷ out) e is = absurd (cc)
through_is (Some took.Stopped) (b ∷ out) e is = absurd (cc)
through_is None (b ∷ out) e is = absurd (cc)

ended_is : (a : Asking) (e : InEnd) → end_of_asking a ≡ Some e → a ≡ Ended e
ended_is Open e is = absurd (cc)
ended_is Breaking e is = absurd (cc)
ended_is (Ended end) e is = let same : end ≡ e = cc in ap (λ (x : InEnd). Ended x) same

module _ (told : Option ℕ) (steps : List Step) (owner : ℕ → Option ℕ) (i : ℕ) (x : SessionState) (o : IsOpen told steps owner i x) where
  abbrev given : Bytes
  given = bytes_given x.number (takes_of x.number steps)

  all_asked : (s : Serves told o.asked.calls (asked_for x.number (o.asked.read ++ [])) (demand x [])) → Serves told o.asked.calls (asked_for x.number o.asked.read) (demand x [])
  all_asked s = subst (λ (l : Bytes). Serves told o.asked.calls (asked_for x.number l) (demand x [])) (append-nil o.asked.read) s

  ends_by : (asking : Asking) → Asks told o.asked.calls o.asked.stop o.asked.read x asking
      → (left : List Asked) × Serves told o.asked.calls (asked_for x.number o.asked.read) left × AskingEnds told (end_of_asking asking) o.asked.stop (asked_for x.number o.asked.read) left
  ends_by Open a = (demand x [], all_asked (a.1 []), a.0)
  ends_by Breaking a = (demand x [], all_asked (a.1 []), a.0)
  ends_by (Ended end) a = a

  part : AppendsPart o.came.held x.line.held given
  part = written_part (takes_of x.number steps) o.came x o.written o.is_new.unwritten

  all_out : x.out ≡ [] → Appends o.came.held (owed x) given → Appends o.came.held x.line.held given
  all_out none a = owed_all o.came.held x.line.held given (subst (λ (l : Bytes). Appends o.came.held (append_known x.line.held l) given) none a)

  owes : (t : Option TakeEnd) → x.taking ≡ t → Owes t o.came.held x given
  owes t is = subst (λ (e : Option TakeEnd). Owes e o.came.held x given) is o.written.owes

  wrote_by : (t : Option TakeEnd) (out : Bytes) → x.taking ≡ t → x.out ≡ out → Wrote (through_by t out) o.came.held x.line.held given
  wrote_by (Some took.WriteFault) out is none = part
  wrote_by (Some took.Late) out is none = part
  wrote_by (Some took.Memory) [] is none = part
  wrote_by (Some took.Memory) (b ∷ out) is none = part
  wrote_by None [] is none = part
  wrote_by None (b ∷ out) is none = part
  wrote_by (Some took.Ended) [] is none = all_out none (owes (Some took.Ended) is)
  wrote_by (Some took.Ended) (b ∷ out) is none = part
  wrote_by (Some took.LogFault) [] is none = all_out none (owes (Some took.LogFault) is)
  wrote_by (Some took.LogFault) (b ∷ out) is none = part
  wrote_by (Some took.Stopped) [] is none = all_out none (owes (Some took.Stopped) is)
  wrote_by (Some took.Stopped) (b ∷ out) is none = part

  pub served_so : IsServed told steps o.came x.line x.number (end_of_asking x.asking) (through_by x.taking x.out)
  served_so =
      let e = ends_by x.asking o.asked.asks in
      record {
        read = o.asked.read;
        consumed = o.asked.consumed;
        calls = o.asked.calls;
        stop = o.asked.stop;
        made = o.asked.made_are;
        left = e.0;
        serves = e.1;
        asking_ends = e.2;
        at_end = λ is. o.asked.at_end (ended_is x.asking ended.Over is);
        read_cause = λ is. o.asked.cause (ended_is x.asking ended.ReadFault is);
        wrote = wrote_by x.taking x.out refl refl;
        last = λ is. o.written.last (through_is x.taking x.out took.Ended is);
        write_cause = λ is. o.written.cause (through_is x.taking x.out took.WriteFault is);
      }

-- a session that is over is through
over_through : (n : ℕ) (asking : Option InEnd) (t : Option TakeEnd) (out : Bytes) → (t ≡ None → ⊥) → ((0 < length out) × (can_write t ≡ true) → ⊥)
    → is_through (Served n asking (through_by t out)) ≡ true
over_through n asking None out some none = absurd (some refl)
over_through n asking (Some took.WriteFault) out some none = refl
over_through n asking (Some took.Late) out some none = refl
over_through n asking (Some took.Memory) [] some none = refl
over_through n asking (Some took.Ended) [] some none = refl
over_through n asking (Some took.LogFault) [] some none = refl
over_through n asking (Some took.Stopped) [] some none = refl
over_through n asking (Some took.Memory) (b ∷ out) some none = absurd (none (omega arith, refl))
over_through n asking (Some took.Ended) (b ∷ out) some none = absurd (none (omega arith, refl))
over_through n asking (Some took.LogFault) (b ∷ out) some none = absurd (none (omega arith, refl))
over_through n asking (Some took.Stopped) (b ∷ out) some none = absurd (none (omega arith, refl))

-- ---- the one that waits

pub shut_told : (w w' : WaitState) (b : Bool) (link : LinkState) → ShutBy w w' b link → b ≡ true → w'.shut ≡ option_map (λ links. links ++ link ∷ []) w.shut
shut_told w w' true link s is = ap (λ (x : WaitState). x.shut) s
shut_told w w' false link s is = absurd (cc)

pub shut_untold : (w w' : WaitState) (b : Bool) (link : LinkState) → ShutBy w w' b link → b ≡ false → w'.shut ≡ w.shut
shut_untold w w' true link s is = absurd (cc)
shut_untold w w' false link s is = ap (λ (x : WaitState). x.shut) s

pub shut_faults : (w w' : WaitState) (b : Bool) (link : LinkState) → ShutBy w w' b link → w'.faults ≡ w.faults
shut_faults w w' true link s = ap (λ (x : WaitState). x.faults) s
shut_faults w w' false link s = ap (λ (x : WaitState). x.faults) s

pub shut_over_same : (w w' : WaitState) (b : Bool) (link : LinkState) → ShutBy w w' b link → w'.over ≡ w.over
shut_over_same w w' true link s = ap (λ (x : WaitState). x.over) s
shut_over_same w w' false link s = ap (λ (x : WaitState). x.over) s

-- ---- a session leaves the table, and its link is shut

module _ (told : Option ℕ) (terms : Terms) (old : Around) (t : Tending) (feeds : List Feed) (s : LoopState) (h : Holds told terms old t feeds s) (i : ℕ) (x : SessionState) (there : slice_get s.places i ≡ Some (Some x))
    (w : WaitState) (b : Bool) (places : List (Option SessionState)) (goes : Bool) (shuts : ShutBy s.around.wait w b x.line)
    (less : (j : ℕ) → (z : SessionState) → slice_get places j ≡ Some (Some z) → (j ≡ i → ⊥) × (slice_get s.places j ≡ Some (Some z)))
    (fewer : (c : ℕ) → times_open c places + one_if (x.line.caller == c) ≡ times_open c s.places)
    (on : goes ≡ true → (s.goes_on ≡ true) × (b ≡ true) × (is_through (Served x.number (end_of_asking x.asking) (through_by x.taking x.out)) ≡ true)
    × IsAmong (Removed x.number) h.steps × EndsFence h.steps x.number) where
  leaves : IsOpen told h.steps h.owner i x
  leaves = h.open_are i x there

  abbrev run : LinkRun
  run = record { came = leaves.came; went = x.line; fate = Served x.number (end_of_asking x.asking) (through_by x.taking x.out); is_told = b }

  abbrev owner : ℕ → Option ℕ
  owner = reassign h.owner x.number None

  others : (j : ℕ) (z : SessionState) → slice_get places j ≡ Some (Some z) → IsOpen told h.steps owner j z
  others j z is =
      let l = less j z is in
      let o = h.open_are j z l.1 in
      open_owner told h.steps h.owner owner j z
      (owner_other h.owner x.number None z.number (λ e. other_place h.owner x.number z.number i j leaves.owned o.owned l.0 (sym e))) o

  once_less : (c : ℕ) → times_shut c (h.runs ++ run ∷ []) + times_open c places ≡ times c (callers_of h.steps)
  once_less c =
      let t = shut_times c h.runs run in
      let f = fewer c in
      let e : one_if (x.line.caller == c) ≡ one_if (leaves.came.caller == c) = ap (λ (n : ℕ). one_if (n == c)) leaves.caller in
      let before = h.once c in
      omega (arith, t, f, e, before)

  faults : w.faults ≡ s.around.wait.faults
  faults = shut_faults s.around.wait w b x.line shuts

  may_still : MayEnd terms s.around.wait.over → MayEnd terms w.over
  may_still m = subst (λ (o : Bool). MayEnd terms o) (sym (shut_over_same s.around.wait w b x.line shuts)) m

  early_run : EndCause (MayEnd terms w.over) (end_of_asking x.asking) (through_by x.taking x.out)
  early_run = let c = h.early_open i x there in (λ e. may_still (c.0 e), λ e. may_still (c.1 (through_is x.taking x.out took.Late e)))

  pub session_off : Holds told terms old t feeds (record s { around = record s.around { wait = w }; places = places; goes_on = goes })
  session_off = record {
    steps = h.steps;
    gains = h.gains;
    timely = h.timely;
    fed = h.fed;
    tends = h.tends;
    follow = h.follow;
    callers = h.callers;
    door_links = h.door_links;
    unused = h.unused;
    owner = owner;
    open_are = others;
    runs = h.runs ++ run ∷ [];
    are = runs_push told h.steps h.runs run h.are (record {
      is_new = leaves.is_new;
      joined = leaves.joined;
      fate = served_so told h.steps h.owner i x leaves;
    });
    gone = gone_push owner h.runs run (all_gone_none h.owner x.number h.runs h.gone) (owner_at h.owner x.number None);
    once = once_less;
    shut = shut_on old.wait.shut s.around.wait.shut w.shut h.runs run h.shut
        (told_by s.around.wait.shut w.shut run b refl (shut_told s.around.wait w b x.line shuts) (shut_untold s.around.wait w b x.line shuts));
    starved_are = let more = starved_push h.runs run in let was = h.starved_are in omega (arith, more, was);
    unwatched = faults_push (Rose old.wait.faults w.faults) h.runs run
        (faults_on (Rose old.wait.faults s.around.wait.faults) (Rose old.wait.faults w.faults) h.runs (λ r. subst (λ (n : ℕ). Rose old.wait.faults n) (sym faults) r) h.unwatched) tt;
    early = causes_push (MayEnd terms w.over) h.runs run (causes_on (MayEnd terms s.around.wait.over) (MayEnd terms w.over) h.runs may_still h.early) early_run;
    early_open = λ j z is.
        let l = less j z is in
        cause_on (MayEnd terms s.around.wait.over) (MayEnd terms w.over) (end_of_asking z.asking) z.taking may_still (h.early_open j z l.1);
    through = λ is. let g = on is in through_push h.runs run (h.through g.0) g.2 g.1;
    removed = λ is. let g = on is in removed_push h.steps h.runs run (h.removed g.0) (g.3, g.4);
    fences = h.fences;
    opened = h.opened;
    door_ends = h.door_ends;
    over_cause = h.over_cause;
    door_later = h.door_later;
    wait_later = subst (λ (n : ℕ). old.wait.faults ≤ n) (sym faults) h.wait_later;
  }

pub shut_same : (told : Option ℕ) (terms : Terms) (k : Knows) (w : WaitState) (places : List (Option SessionState)) → KeepsShut told terms k k w w places places true
shut_same told terms k w places = λ d joined starved is_over old t feeds h. h

pub shut_more : (told : Option ℕ) (terms : Terms) (k1 k2 k3 : Knows) (w1 w2 w3 : WaitState) (a b c : List (Option SessionState)) (is_told : Bool)
    → KeepsShut told terms k1 k2 w1 w2 a b true → KeepsShut told terms k2 k3 w2 w3 b c is_told → KeepsShut told terms k1 k3 w1 w3 a c is_told
shut_more told terms k1 k2 k3 w1 w2 w3 a b c is_told p q = λ d joined starved is_over old t feeds h. q d joined starved is_over old t feeds (p d joined starved is_over old t feeds h)

-- the session of a place was removed from the hall, and its link shut
pub shut_place : (told : Option ℕ) (terms : Terms) (k k' : Knows) (w w' : WaitState) (places : List (Option SessionState)) (i : ℕ) (x : SessionState) (b : Bool)
    → slice_get places i ≡ Some (Some x) → IsOver x → RemovesSession told k k' x → ShutBy w w' b x.line
    → KeepsShut told terms k k' w w' places (slice_set places i None) b
shut_place told terms k k' w w' places i x b there over st shuts = λ d joined starved is_over old t feeds h.
    let s = loop_state k d w places joined starved is_over true in
    let on = session_with told terms old t feeds s h i x x k' there ⊥ (λ e. absurd e) [] feeds (sym (append-nil feeds)) st.0 (Removed x.number) st.1 in
    let mid = slice_set places i (Some x) in
    let at : slice_get mid i ≡ Some (Some x) = set_there places i (Some x) (Some x) there in
    subst (λ (l : List (Option SessionState)). Holds told terms old t feeds (loop_state k' d w' l joined starved is_over b)) (set_again places i (Some x) None)
    (session_off told terms old t feeds (loop_state k' d w mid joined starved is_over true) on.0 i x at w' b (slice_set mid i None) b shuts
    (λ j z is. set_none mid i j z is)
    (λ c. let t = times_set c mid i (Some x) None at in omega (arith, t))
    (λ is. (
      refl,
      is,
      over_through x.number (end_of_asking x.asking) x.taking x.out over.0 over.1,
      on.1,
      λ set. on.2 x.number (st.2 (fenced_at told terms old t feeds (loop_state k' d w mid joined starved is_over true) on.0 i x at ∙ set)),
    )))
  where
    fenced_at : (told : Option ℕ) (terms : Terms) (old : Around) (t : Tending) (feeds : List Feed) (s : LoopState) (h : Holds told terms old t feeds s) (i : ℕ) (x : SessionState)
        → slice_get s.places i ≡ Some (Some x) → x.is_fenced ≡ has_set x.number (calls_of x.number h.steps)
    fenced_at told terms old t feeds s h i x at = let o = h.open_are i x at in o.fenced

-- the same, where the removal brought the end of the loop
shut_ended : (told : Option ℕ) (terms : Terms) (k mid : Knows) (w w' : WaitState) (places : List (Option SessionState)) (i : ℕ) (x : SessionState) (b : Bool)
    → slice_get places i ≡ Some (Some x) → StepsOn told k mid x x → ShutBy w w' b x.line → KeepsShut told terms k mid w w' places (slice_set places i None) false
shut_ended told terms k k' w w' places i x b there st shuts = λ d joined starved is_over old t feeds h.
    let s = loop_state k d w places joined starved is_over true in
    let on = session_on told terms old t feeds s h i x x k' there ⊥ (λ e. absurd e) [] feeds (sym (append-nil feeds)) st in
    let mid = slice_set places i (Some x) in
    let at : slice_get mid i ≡ Some (Some x) = set_there places i (Some x) (Some x) there in
    subst (λ (l : List (Option SessionState)). Holds told terms old t feeds (loop_state k' d w' l joined starved is_over false)) (set_again places i (Some x) None)
    (session_off told terms old t feeds (loop_state k' d w mid joined starved is_over true) on i x at w' b (slice_set mid i None) false shuts
    (λ j z is. set_none mid i j z is)
    (λ c. let t = times_set c mid i (Some x) None at in omega (arith, t))
    (λ is. absurd (cc)))

pub shut_to : (told : Option ℕ) (terms : Terms) (k k' : Knows) (w w' : WaitState) (places : List (Option SessionState)) (i : ℕ) (x : SessionState) (b : Bool)
    (o : Option ServeEnd) → slice_get places i ≡ Some (Some x) → IsOver x → RemovesTo told k k' x o → ShutBy w w' b x.line
    → KeepsShutTo told terms k k' w w' places (slice_set places i None) (end_behind o b)
shut_to told terms k k' w w' places i x true None there over st shuts = shut_place told terms k k' w w' places i x true there over st shuts
shut_to told terms k k' w w' places i x false None there over st shuts =
    (k', shut_place told terms k k' w w' places i x false there over st shuts, inl (refl, refl))
shut_to told terms k k' w w' places i x b (Some e) there over st shuts = (st.0, shut_ended told terms k st.0 w w' places i x b there st.1 shuts, inr st.2)

pub shut_more_to : (told : Option ℕ) (terms : Terms) (k1 k2 k3 : Knows) (w1 w2 w3 : WaitState) (a b c : List (Option SessionState)) (o : Option ServeEnd)
    → KeepsShut told terms k1 k2 w1 w2 a b true → KeepsShutTo told terms k2 k3 w2 w3 b c o → KeepsShutTo told terms k1 k3 w1 w3 a c o
shut_more_to told terms k1 k2 k3 w1 w2 w3 a b c None p q = shut_more told terms k1 k2 k3 w1 w2 w3 a b c true p q
shut_more_to told terms k1 k2 k3 w1 w2 w3 a b c (Some e) p q = (q.0, shut_more told terms k1 k2 q.0 w1 w2 w3 a b c false p q.1, q.2)

-- the last session of the table leaves it as the loop ends
pub shut_last : (told : Option ℕ) (terms : Terms) (k : Knows) (d : DoorState) (w w' : WaitState) (places : List (Option SessionState)) (x : SessionState) (b : Bool) (joined starved : ℕ)
    (is_over goes : Bool) → ShutBy w w' b x.line → Keeps told terms (loop_state k d w (places ++ Some x ∷ []) joined starved is_over goes) (loop_state k d w' places joined starved is_over false)
shut_last told terms k d w w' places x b joined starved is_over goes shuts = λ old t feeds h.
    session_off told terms old t feeds (loop_state k d w (places ++ Some x ∷ []) joined starved is_over goes) h (length places) x (at_last places (Some x)) w' b places false shuts
    (λ j z is. (λ e. let r = not_last places j z is in absurd (omega (arith, r, e)), less_last places (Some x) j z is))
    (λ c. let t = times_last c places (Some x) in omega (arith, t))
    (λ is. absurd (cc))

-- sessions of the table went on before that
pub table_then : (told : Option ℕ) (terms : Terms) (k1 k2 k3 : Knows) (w w' : WaitState) (a b c : List (Option SessionState)) (o : Option ServeEnd)
    → KeepsTable told terms k1 k2 a b → KeepsShutTo told terms k2 k3 w w' b c o → KeepsShutTo told terms k1 k3 w w' a c o
table_then told terms k1 k2 k3 w w' a b c None p q = λ d joined starved is_over old t feeds h.
    q d joined starved is_over old t feeds (p d w joined starved is_over true old t feeds h)
table_then told terms k1 k2 k3 w w' a b c (Some e) p q = (
  q.0,
  λ d joined starved is_over old t feeds h. q.1 d joined starved is_over old t feeds (p d w joined starved is_over true old t feeds h),
  q.2,
)
