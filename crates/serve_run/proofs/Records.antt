-- What further steps leave of a session's records, and one run more.
use Rattle.std.proofs.Common.{◌≡◌, ◌+◌, ◌==◌, ℕ, zero, suc, Bool, true, false, List, [], ◌∷◌, ◌++◌, refl, sym, ap, ◌∙◌, subst, inl, inr, arith, append_assoc}
use Rattle.std.specs.Prelude.{Option, Some, None, option_map, if◌then◌else◌}
use Rattle.std.proofs.lemmas.Bool.{ne_eqb}
use Rattle.std.proofs.lemmas.List.{append-nil}
use Rattle.std.proofs.lemmas.Grind.{flat_map-append}
use Rattle.outside.specs.Causes.{next_count}
use Rattle.world_model.specs.declared.events.Outcome.{Outcome}
use Rattle.world_model.specs.declared.events.Outcome.TheVariants as outcome
use Rattle.outside.specs.Links.{LinkState}
use Rattle.repl_stream.specs.Feeds.{called_of}
use Rattle.session_run.specs.Calls.{Call}
use Rattle.session_run.specs.Live.{has_set}
use Rattle.session_run.specs.Outs.{bytes_given}
use Rattle.session_run.specs.Sessions.{SessionState}
use Rattle.session_run.specs.SoFar.{AskedSoFar, WrittenSoFar}
use Rattle.session_run.specs.Turns.{turn_calls}
use Rattle.serve_run.specs.Steps.{Step, Tended, Wanting, Shrunk, Unshrunk, Joined, Called, Fed, Took, Closed, Removed, Unfenced, Unended, Unasked, asks_of, served_by, parts_of, calls_of, takes_of, caller_in, callers_of, numbered, behind_callers, IsAmong}
use Rattle.serve_run.specs.Runs.{LinkRun, LinkFate, TurnedOut, Starved, Unwatched, Served, IsUnserved, HasFate, Wrote, IsRun, AreRuns, AreThrough, WatchFault, WatchFaults, MayEnd, EndCause, FateCause, FateCauses, EndsFence, IsRemoved, AreRemoved, is_through, one_if, times, times_shut, told_of, told_links, starved_in, starved_of}
use Rattle.serve_run.specs.declared.terms.Terms.{Terms}
use Rattle.session_run.specs.declared.ends.InEnd.{InEnd}
use Rattle.session_run.specs.declared.phases.TakeEnd.{TakeEnd}
use Rattle.serve_run.specs.SessionSteps.{AreOf}
use Rattle.serve_run.specs.LoopStates.{IsOpen, IsGone, AreGone, NeverJoined}
use Rattle.serve_run.proofs.Fencing.{ends_first}
use Rattle.serve_run.proofs.Stepping.{calls_more, takes_more}

-- these steps ask nothing for a session, and take nothing from it
abbrev pub Spares : List Step → ℕ → Type 0
Spares more n = (calls_of n more ≡ []) × (takes_of n more ≡ [])

pub spared_calls : (steps more : List Step) (n : ℕ) → Spares more n → calls_of n (steps ++ more) ≡ calls_of n steps
spared_calls steps more n s = calls_more n steps more ∙ ap (λ (l : List Call). calls_of n steps ++ l) s.0 ∙ append-nil (calls_of n steps)

pub spared_takes : (steps more : List Step) (n : ℕ) → Spares more n → takes_of n (steps ++ more) ≡ takes_of n steps
spared_takes steps more n s = takes_more n steps more ∙ ap (λ (l : List Outcome). takes_of n steps ++ l) s.1 ∙ append-nil (takes_of n steps)

not_if : {A : Type 0} (b : Bool) (xs : List A) → b ≡ false → (if b then xs else []) ≡ []
not_if true xs is = absurd (cc)
not_if false xs is = refl

-- steps of another session spare this one
other_calls : (n m : ℕ) → (n ≡ m → ⊥) → (steps : List Step) → AreOf n steps → calls_of m steps ≡ []
other_calls n m other [] own = refl
other_calls n m other (Tended t count log ∷ steps) own = absurd own.0
other_calls n m other (Wanting t count c ∷ steps) own = absurd own.0
other_calls n m other (Shrunk k t c ∷ steps) own = absurd own.0
other_calls n m other (Unshrunk o ∷ steps) own = absurd own.0
other_calls n m other (Joined caller o ∷ steps) own = absurd own.0
other_calls n m other (Called k t asked served end ∷ steps) own =
    ap (λ (l : List Call). l ++ calls_of m steps) (not_if (k == m) (turn_calls t asked served end) (ne_eqb k m (λ e. other (sym own.0 ∙ e))))
    ∙ other_calls n m other steps own.1
other_calls n m other (Fed k t ask answer bytes ∷ steps) own =
    ap (λ (l : List Call). l ++ calls_of m steps)
    (not_if (k == m) (turn_calls t (asks_of ask) (served_by answer) (called_of answer)) (ne_eqb k m (λ e. other (sym own.0 ∙ e))))
    ∙ other_calls n m other steps own.1
other_calls n m other (Took k o ∷ steps) own = other_calls n m other steps own.1
other_calls n m other (Closed k ∷ steps) own = other_calls n m other steps own.1
other_calls n m other (Removed k ∷ steps) own = other_calls n m other steps own.1
other_calls n m other (Unfenced k i t c ∷ steps) own = other_calls n m other steps own.1
other_calls n m other (Unended k o ∷ steps) own = other_calls n m other steps own.1
other_calls n m other (Unasked k ∷ steps) own = other_calls n m other steps own.1

other_takes : (n m : ℕ) → (n ≡ m → ⊥) → (steps : List Step) → AreOf n steps → takes_of m steps ≡ []
other_takes n m other [] own = refl
other_takes n m other (Tended t count log ∷ steps) own = absurd own.0
other_takes n m other (Wanting t count c ∷ steps) own = absurd own.0
other_takes n m other (Shrunk k t c ∷ steps) own = absurd own.0
other_takes n m other (Unshrunk o ∷ steps) own = absurd own.0
other_takes n m other (Joined caller o ∷ steps) own = absurd own.0
other_takes n m other (Called k t asked served end ∷ steps) own = other_takes n m other steps own.1
other_takes n m other (Fed k t ask answer bytes ∷ steps) own =
    ap (λ (l : List Outcome). l ++ takes_of m steps) (not_if (k == m) (parts_of answer bytes) (ne_eqb k m (λ e. other (sym own.0 ∙ e))))
    ∙ other_takes n m other steps own.1
other_takes n m other (Took k o ∷ steps) own =
    ap (λ (l : List Outcome). l ++ takes_of m steps) (not_if (k == m) (o ∷ []) (ne_eqb k m (λ e. other (sym own.0 ∙ e))))
    ∙ other_takes n m other steps own.1
other_takes n m other (Closed k ∷ steps) own = other_takes n m other steps own.1
other_takes n m other (Removed k ∷ steps) own = other_takes n m other steps own.1
other_takes n m other (Unfenced k i t c ∷ steps) own = other_takes n m other steps own.1
other_takes n m other (Unended k o ∷ steps) own = other_takes n m other steps own.1
other_takes n m other (Unasked k ∷ steps) own = other_takes n m other steps own.1

pub others_spared : (n m : ℕ) → (n ≡ m → ⊥) → (steps : List Step) → AreOf n steps → Spares steps m
others_spared n m other steps own = (other_calls n m other steps own, other_takes n m other steps own)

pub own_callers : (n : ℕ) (steps : List Step) → AreOf n steps → callers_of steps ≡ []
own_callers n [] own = refl
own_callers n (Tended t count log ∷ steps) own = absurd own.0
own_callers n (Wanting t count c ∷ steps) own = absurd own.0
own_callers n (Shrunk k t c ∷ steps) own = absurd own.0
own_callers n (Unshrunk o ∷ steps) own = absurd own.0
own_callers n (Joined caller o ∷ steps) own = absurd own.0
own_callers n (Called k t asked served end ∷ steps) own = own_callers n steps own.1
own_callers n (Fed k t ask answer bytes ∷ steps) own = own_callers n steps own.1
own_callers n (Took k o ∷ steps) own = own_callers n steps own.1
own_callers n (Closed k ∷ steps) own = own_callers n steps own.1
own_callers n (Removed k ∷ steps) own = own_callers n steps own.1
own_callers n (Unfenced k i t c ∷ steps) own = own_callers n steps own.1
own_callers n (Unended k o ∷ steps) own = own_callers n steps own.1
own_callers n (Unasked k ∷ steps) own = own_callers n steps own.1

pub callers_more : (a b : List Step) → callers_of (a ++ b) ≡ callers_of a ++ callers_of b
callers_more a b = flat_map-append caller_in a b

-- ---- among steps

pub among_more : (x : Step) (steps more : List Step) → IsAmong x steps → IsAmong x (steps ++ more)
among_more x steps more a = (a.0, a.1 ++ more, ap (λ (l : List Step). l ++ more) a.2 ∙ append_assoc a.0 (x ∷ a.1) more)

pub among_behind : (x : Step) (steps back : List Step) → IsAmong x (steps ++ x ∷ back)
among_behind x steps back = (steps, back, refl)

pub never_before : (n : ℕ) (steps more : List Step) → NeverJoined n (steps ++ more) → NeverJoined n steps
never_before n steps more never = λ caller a. never caller (among_more (Joined caller (outcome.Entered n)) steps more a)

pub joined_other : (n m caller : ℕ) (steps : List Step) → NeverJoined n steps → IsAmong (Joined caller (outcome.Entered m)) steps → m ≡ n → ⊥
joined_other n m caller steps never a e = never caller (subst (λ (x : ℕ). IsAmong (Joined caller (outcome.Entered x)) steps) e a)

-- ---- an open session and a run, behind further steps that spare it

pub open_on : (told : Option ℕ) (steps more : List Step) (owner owner' : ℕ → Option ℕ) (i : ℕ) (x : SessionState) → Spares more x.number
    → owner' x.number ≡ owner x.number → IsOpen told steps owner i x → IsOpen told (steps ++ more) owner' i x
open_on told steps more owner owner' i x s same o = record {
  came = o.came;
  is_new = o.is_new;
  caller = o.caller;
  joined = among_more (Joined o.came.caller (outcome.Entered x.number)) steps more o.joined;
  asked = subst (λ (l : List Call). AskedSoFar told l o.came x) (sym (spared_calls steps more x.number s)) o.asked;
  written = subst (λ (l : List Outcome). WrittenSoFar l o.came x) (sym (spared_takes steps more x.number s)) o.written;
  fenced = o.fenced ∙ ap (has_set x.number) (sym (spared_calls steps more x.number s));
  owned = same ∙ o.owned;
}

unserved_on : (steps more : List Step) (came went : LinkState) (n : ℕ) → Spares more n → IsUnserved steps came went n → IsUnserved (steps ++ more) came went n
unserved_on steps more came went n s u = record {
  uncalled = spared_calls steps more n s ∙ u.uncalled;
  untaken = spared_takes steps more n s ∙ u.untaken;
  same = u.same;
}

abbrev pub SparesFate : List Step → LinkFate → Type 0
SparesFate more (TurnedOut o) = Unit {0}
SparesFate more (Starved n) = Spares more n
SparesFate more (Unwatched n) = Spares more n
SparesFate more (Served n asking taking) = Spares more n

fate_on : (told : Option ℕ) (steps more : List Step) (came went : LinkState) (fate : LinkFate) → SparesFate more fate → HasFate told steps came went fate
    → HasFate told (steps ++ more) came went fate
fate_on told steps more came went (TurnedOut o) s f = f
fate_on told steps more came went (Starved n) s f = unserved_on steps more came went n s f
fate_on told steps more came went (Unwatched n) s f = unserved_on steps more came went n s f
fate_on told steps more came went (Served n asking taking) s f = record {
  read = f.read;
  consumed = f.consumed;
  calls = f.calls;
  stop = f.stop;
  made = spared_calls steps more n s ∙ f.made;
  left = f.left;
  serves = f.serves;
  asking_ends = f.asking_ends;
  at_end = f.at_end;
  read_cause = f.read_cause;
  wrote = subst (λ (l : List Outcome). Wrote taking came.held went.held (bytes_given n l)) (sym (spared_takes steps more n s)) f.wrote;
  last = λ is. let l = f.last is in (l.0, spared_takes steps more n s ∙ l.1);
  write_cause = f.write_cause;
}

-- the runs, behind steps that spare those who are gone
pub fate_spared : (more : List Step) (owner : ℕ → Option ℕ) (fate : LinkFate) → ((n : ℕ) → owner n ≡ None → Spares more n) → IsGone owner fate → SparesFate more fate
fate_spared more owner (TurnedOut o) spares g = tt
fate_spared more owner (Starved n) spares g = spares n g
fate_spared more owner (Unwatched n) spares g = spares n g
fate_spared more owner (Served n asking taking) spares g = spares n g

pub runs_on : (told : Option ℕ) (steps more : List Step) (owner : ℕ → Option ℕ) → ((n : ℕ) → owner n ≡ None → Spares more n) → (runs : List LinkRun)
    → AreGone owner runs → AreRuns told steps runs → AreRuns told (steps ++ more) runs
runs_on told steps more owner spares [] gone are = tt
runs_on told steps more owner spares (run ∷ runs) gone are = (
  record {
    is_new = are.0.is_new;
    joined = among_more _ steps more are.0.joined;
    fate = fate_on told steps more run.came run.went run.fate (fate_spared more owner run.fate spares gone.0) are.0.fate;
  },
  runs_on told steps more owner spares runs gone.1 are.1,
)

ends_on : (steps more : List Step) (n : ℕ) → Spares more n → EndsFence steps n → EndsFence (steps ++ more) n
ends_on steps more n s ends is = ends_first n steps more (ends (ap (has_set n) (sym (spared_calls steps more n s)) ∙ is))

removed_fate : (steps more : List Step) (fate : LinkFate) → SparesFate more fate → IsRemoved steps fate → IsRemoved (steps ++ more) fate
removed_fate steps more (TurnedOut o) s r = tt
removed_fate steps more (Starved n) s r = among_more (Removed n) steps more r
removed_fate steps more (Unwatched n) s r = among_more (Removed n) steps more r
removed_fate steps more (Served n asking taking) s r = (among_more (Removed n) steps more r.0, ends_on steps more n s r.1)

pub removed_on : (steps more : List Step) (owner : ℕ → Option ℕ) → ((n : ℕ) → owner n ≡ None → Spares more n) → (runs : List LinkRun)
    → AreGone owner runs → AreRemoved steps runs → AreRemoved (steps ++ more) runs
removed_on steps more owner spares [] gone r = tt
removed_on steps more owner spares (run ∷ runs) gone r = (
  removed_fate steps more run.fate (fate_spared more owner run.fate spares gone.0) r.0,
  removed_on steps more owner spares runs gone.1 r.1,
)

pub removed_push : (steps : List Step) (runs : List LinkRun) (run : LinkRun) → AreRemoved steps runs → IsRemoved steps run.fate
    → AreRemoved steps (runs ++ run ∷ [])
removed_push steps [] run r is = (is, tt)
removed_push steps (x ∷ runs) run r is = (r.0, removed_push steps runs run r.1 is)

-- the second of two steps behind others is among all
pub among_second : (x y : Step) (steps : List Step) → IsAmong y (steps ++ x ∷ y ∷ [])
among_second x y steps = (steps ++ x ∷ [], [], sym (append_assoc steps (x ∷ []) (y ∷ [])))

pub among_later : (x : Step) (steps more : List Step) → IsAmong x more → IsAmong x (steps ++ more)
among_later x steps more a = (
  steps ++ a.0,
  a.1,
  ap (λ (l : List Step). steps ++ l) a.2 ∙ sym (append_assoc steps a.0 (x ∷ a.1)),
)

-- ---- one run more

pub runs_push : (told : Option ℕ) (steps : List Step) (runs : List LinkRun) (run : LinkRun) → AreRuns told steps runs → IsRun told steps run → AreRuns told steps (runs ++ run ∷ [])
runs_push told steps [] run are is = (is, tt)
runs_push told steps (r ∷ runs) run are is = (are.0, runs_push told steps runs run are.1 is)

pub gone_push : (owner : ℕ → Option ℕ) (runs : List LinkRun) (run : LinkRun) → AreGone owner runs → IsGone owner run.fate → AreGone owner (runs ++ run ∷ [])
gone_push owner [] run gone is = (is, tt)
gone_push owner (r ∷ runs) run gone is = (gone.0, gone_push owner runs run gone.1 is)

pub shut_times : (c : ℕ) (runs : List LinkRun) (run : LinkRun) → times_shut c (runs ++ run ∷ []) ≡ times_shut c runs + one_if (run.came.caller == c)
shut_times c [] run = omega arith
shut_times c (r ∷ runs) run = let ih = shut_times c runs run in omega (arith, ih)

pub caller_times : (c : ℕ) (ks : List ℕ) (k : ℕ) → times c (ks ++ k ∷ []) ≡ times c ks + one_if (k == c)
caller_times c [] k = omega arith
caller_times c (x ∷ ks) k = let ih = caller_times c ks k in omega (arith, ih)

pub starved_push : (runs : List LinkRun) (run : LinkRun) → starved_of (runs ++ run ∷ []) ≡ starved_of runs + starved_in run.fate
starved_push [] run = omega arith
starved_push (r ∷ runs) run = let ih = starved_push runs run in omega (arith, ih)

fault_on : (P Q : Type 0) (fate : LinkFate) → (P → Q) → WatchFault P fate → WatchFault Q fate
fault_on P Q (Unwatched n) f w = f w
fault_on P Q (TurnedOut o) f w = tt
fault_on P Q (Starved n) f w = tt
fault_on P Q (Served n asking taking) f w = tt

pub faults_on : (P Q : Type 0) (runs : List LinkRun) → (P → Q) → WatchFaults P runs → WatchFaults Q runs
faults_on P Q [] f w = tt
faults_on P Q (r ∷ runs) f w = (fault_on P Q r.fate f w.0, faults_on P Q runs f w.1)

pub faults_push : (P : Type 0) (runs : List LinkRun) (run : LinkRun) → WatchFaults P runs → WatchFault P run.fate → WatchFaults P (runs ++ run ∷ [])
faults_push P [] run w is = (is, tt)
faults_push P (r ∷ runs) run w is = (w.0, faults_push P runs run w.1 is)

-- where the server ends sessions by itself, that has a cause, also later
pub cause_on : (P Q : Type 0) (asking : Option InEnd) (taking : Option TakeEnd) → (P → Q) → EndCause P asking taking → EndCause Q asking taking
cause_on P Q asking taking f c = (λ e. f (c.0 e), λ e. f (c.1 e))

fate_cause_on : (P Q : Type 0) (fate : LinkFate) → (P → Q) → FateCause P fate → FateCause Q fate
fate_cause_on P Q (Unwatched n) f c = tt
fate_cause_on P Q (TurnedOut o) f c = tt
fate_cause_on P Q (Starved n) f c = tt
fate_cause_on P Q (Served n asking taking) f c = cause_on P Q asking taking f c

pub causes_on : (P Q : Type 0) (runs : List LinkRun) → (P → Q) → FateCauses P runs → FateCauses Q runs
causes_on P Q [] f c = tt
causes_on P Q (r ∷ runs) f c = (fate_cause_on P Q r.fate f c.0, causes_on P Q runs f c.1)

pub causes_push : (P : Type 0) (runs : List LinkRun) (run : LinkRun) → FateCauses P runs → FateCause P run.fate → FateCauses P (runs ++ run ∷ [])
causes_push P [] run c is = (is, tt)
causes_push P (r ∷ runs) run c is = (c.0, causes_push P runs run c.1 is)

pub may_on : (terms : Terms) (a b : Bool) → (a ≡ true → b ≡ true) → MayEnd terms a → MayEnd terms b
may_on terms a b f (inl idle) = inl idle
may_on terms a b f (inr asked) = inr (asked.0, f asked.1)

pub through_push : (runs : List LinkRun) (run : LinkRun) → AreThrough runs → is_through run.fate ≡ true → run.is_told ≡ true → AreThrough (runs ++ run ∷ [])
through_push [] run all is told = (is, told, tt)
through_push (r ∷ runs) run all is told = (all.0, all.1, through_push runs run all.2 is told)

pub told_push : (runs : List LinkRun) (run : LinkRun) → told_links (runs ++ run ∷ []) ≡ told_links runs ++ told_of run
told_push runs run = flat_map-append told_of runs (run ∷ []) ∙ ap (λ (l : List LinkState). told_links runs ++ l) (append-nil (told_of run))

shut_more : (old : Option (List LinkState)) (a b : List LinkState)
    → option_map (λ links. links ++ b) (option_map (λ links. links ++ a) old) ≡ option_map (λ links. links ++ (a ++ b)) old
shut_more None a b = refl
shut_more (Some links) a b = ap (λ (l : List LinkState). Some l) (append_assoc links a b)

pub shut_on : (old w w' : Option (List LinkState)) (runs : List LinkRun) (run : LinkRun) → w ≡ option_map (λ links. links ++ told_links runs) old
    → w' ≡ option_map (λ links. links ++ told_of run) w → w' ≡ option_map (λ links. links ++ told_links (runs ++ run ∷ [])) old
shut_on old w w' runs run is more =
    more ∙ ap (option_map (λ (links : List LinkState). links ++ told_of run)) is ∙ shut_more old (told_links runs) (told_of run)
    ∙ ap (λ (l : List LinkState). option_map (λ (links : List LinkState). links ++ l) old) (sym (told_push runs run))

none_told : (w : Option (List LinkState)) → w ≡ option_map (λ links. links ++ []) w
none_told None = refl
none_told (Some links) = ap (λ (l : List LinkState). Some l) (sym (append-nil links))

pub shut_none : (old w : Option (List LinkState)) → w ≡ old → w ≡ option_map (λ links. links ++ []) old
shut_none old w is = is ∙ none_told old

pub told_by : (w w' : Option (List LinkState)) (run : LinkRun) (b : Bool) → run.is_told ≡ b
    → (b ≡ true → w' ≡ option_map (λ links. links ++ run.went ∷ []) w) → (b ≡ false → w' ≡ w) → w' ≡ option_map (λ links. links ++ told_of run) w
told_by w w' run true is told untold = rw is (told refl)
told_by w w' run false is told untold = rw is (untold refl ∙ none_told w)

-- ---- callers

one_more : (n : ℕ) → suc n + 1 ≡ suc (n + 1)
one_more n = omega arith

pub numbered_next : (from n : ℕ) → numbered from (n + 1) ≡ numbered from n ++ behind_callers from n ∷ []
numbered_next from zero = refl
numbered_next from (suc n) = ap (numbered from) (one_more n) ∙ ap (λ (l : List ℕ). from ∷ l) (numbered_next (next_count from) n)

pub behind_next : (from n : ℕ) → behind_callers from (n + 1) ≡ next_count (behind_callers from n)
behind_next from zero = refl
behind_next from (suc n) = ap (behind_callers from) (one_more n) ∙ behind_next (next_count from) n
