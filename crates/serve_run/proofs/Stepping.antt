-- The steps of one session, and what they add to its records.
use Rattle.std.proofs.Common.{◌≡◌, ◌⊎◌, ◌<◌, ◌==◌, ℕ, zero, suc, Bool, true, false, List, [], ◌∷◌, ◌++◌, refl, sym, ap, ◌∙◌, subst, inl, inr, arith, append_assoc}
use Rattle.std.specs.Prelude.{Option, Some, None, Result, Ok, Err, IfSome, ◌||◌, length, take, drop, if◌then◌else◌}
use Rattle.std.specs.List.{list_any, slice_get, AllByRecursion}
use Rattle.std.proofs.Math.Bool.{or-false}
use Rattle.std.proofs.lemmas.List.{append-nil}
use Rattle.std.proofs.lemmas.Grind.{flat_map-append}
use Rattle.std.proofs.lemmas.Bool.Decides.{nat_tests}
use Rattle.std.specs.Io.KnownBytes.{Keeps}
use Rattle.byte_text.specs.Names.{Bytes}
use Rattle.world_model.specs.Outcomes.{call_acts, IsCount}
use Rattle.world_model.specs.Seats.{Knows, Act, Adds, AddsNamed}
use Rattle.world_model.specs.declared.events.Asked.{Asked}
use Rattle.world_model.specs.declared.events.CallOutcome.{CallOutcome}
use Rattle.world_model.specs.declared.events.CallOutcome.TheVariants as called
use Rattle.world_model.specs.declared.events.Event.TheVariants as event
use Rattle.world_model.specs.declared.events.Outcome.{Outcome}
use Rattle.world_model.specs.declared.events.Outcome.TheVariants as outcome
use Rattle.outside.specs.Links.{LinkState, Reads, Writes}
use Rattle.outside.specs.declared.links.Got.{Got}
use Rattle.outside.specs.declared.links.Got.TheVariants as got
use Rattle.outside.specs.declared.links.Sent.{Sent}
use Rattle.outside.specs.declared.links.Sent.TheVariants as sent
use Rattle.session_run.specs.Calls.{Call}
use Rattle.session_run.specs.Gains.{Gains, gains_more, gains_one, gains_calls, made}
use Rattle.session_run.specs.declared.ends.InEnd.{InEnd}
use Rattle.session_run.specs.declared.ends.InEnd.TheVariants as ended
use Rattle.session_run.specs.Ends.{end_of}
use Rattle.session_run.specs.Filling.{IsFilled}
use Rattle.session_run.specs.declared.phases.Asking.TheVariants.{Open, Breaking, Ended}
use Rattle.session_run.specs.declared.phases.Asking.{Asking}
use Rattle.session_run.specs.Sessions.{SessionState, demand, owed, WantsToRead, WantsTurn, WantsTake, CanDismiss, end_of_asking}
use Rattle.session_run.specs.Live.{sets_channel, has_set}
use Rattle.session_run.specs.FencedSteps.{set_turn}
use Rattle.session_run.specs.Outs.{bytes_given}
use Rattle.session_run.specs.declared.phases.TakeEnd.{TakeEnd}
use Rattle.session_run.specs.declared.phases.TakeEnd.TheVariants as took
use Rattle.session_run.specs.SoFar.{AskedSoFar, WrittenSoFar, Owes}
use Rattle.session_run.specs.Steps.{got_bytes, UnlessMemory, Readies, AsksOn, Answered, Takes, WritesOut, Dismisses, Cuts, taking_behind}
use Rattle.session_run.specs.Turns.{turn_calls}
use Rattle.session_run.specs.AskedSteps.{asked_read, asked_answered, asked_taken, asked_written, asked_dismissed, asked_cut, asked_fenced}
use Rattle.session_run.specs.WrittenSteps.{written_read, written_answered, written_taken, written_sent, written_dismissed, written_cut}
use Rattle.repl_stream.specs.Feeds.{called_of}
use Rattle.world_model.specs.declared.events.Asked.TheVariants as asks_for
use Rattle.repl_stream.specs.Texts.{part_text, IsAskOf}
use Rattle.repl_stream.specs.declared.asks.Ask.{Ask}
use Rattle.repl_stream.specs.declared.parts.Part.{Part}
use Rattle.repl_stream.specs.declared.feeds.PartAnswer.{PartAnswer}
use Rattle.repl_stream.specs.declared.feeds.PartAnswer.TheVariants as part
use Rattle.serve_run.specs.Tends.{IsTold}
use Rattle.serve_run.specs.Feeds.{Feed, feeds_at, AreFed}
use Rattle.serve_run.specs.Steps.{Step, Called, Fed, Took, Closed, asks_of, served_by, parts_of, step_acts, steps_acts, calls_in, calls_of, takes_in, takes_of, ends_fence, AreTimely}
use Rattle.serve_run.specs.SessionSteps.{AreOf, EndsBy, StepsSession, StepsOn, FeedsOn, EndsEarly}
use Rattle.serve_run.proofs.Fencing.{either_true, first_true, ends_more, fence_more}

pub same_test : (n : ℕ) → (n == n) ≡ true
same_test n = grind (arith, nat_tests)

-- ---- one behind another

of_more : (n : ℕ) (a b : List Step) → AreOf n a → AreOf n b → AreOf n (a ++ b)
of_more n [] b p q = q
of_more n (x ∷ a) b p q = (p.0, of_more n a b p.1 q)

pub timely_more : (told : Option ℕ) (a b : List Step) → AreTimely told a → AreTimely told b → AreTimely told (a ++ b)
timely_more told [] b p q = q
timely_more told (x ∷ a) b p q = (p.0, timely_more told a b p.1 q)

pub all_more : (By : Feed → Type 0) (a b : List Feed) → AllByRecursion By a → AllByRecursion By b → AllByRecursion By (a ++ b)
all_more By [] b p q = q
all_more By (x ∷ a) b p q = (p.0, all_more By a b p.1 q)

pub fed_more : (fs gs : List Feed) (k1 k2 k3 : Knows) (a b : List Step) → AreFed fs k1 k2 a → AreFed gs k2 k3 b → AreFed (fs ++ gs) k1 k3 (a ++ b)
fed_more fs gs k1 k2 k3 [] b p q = subst (λ (l : List Feed). AreFed (l ++ gs) k1 k3 b) (sym p.1) (subst (λ (k : Knows). AreFed gs k k3 b) p.0 q)
fed_more fs gs k1 k2 k3 (x ∷ a) b p q = (
  p.0,
  p.1,
  p.2 ++ gs,
  ap (λ (l : List Feed). l ++ gs) p.3 ∙ append_assoc (feeds_at p.0 x) p.2 gs,
  fed_more p.2 gs p.0 k2 k3 a b p.4 q,
)

-- steps that feed nobody
pub fed_on : (fs : List Feed) (k1 k2 k3 : Knows) (a b : List Step) → AreFed fs k1 k2 a → AreFed [] k2 k3 b → AreFed fs k1 k3 (a ++ b)
fed_on fs k1 k2 k3 a b p q = subst (λ (l : List Feed). AreFed l k1 k3 (a ++ b)) (append-nil fs) (fed_more fs [] k1 k2 k3 a b p q)

pub fed_one : (k k' : Knows) (step : Step) → feeds_at k' step ≡ [] → Gains k k' (step_acts step) → AreFed [] k k' (step ∷ [])
fed_one k k' step none gains = (k', gains, [], sym (ap (λ (l : List Feed). l ++ []) none), (refl, refl))

pub acts_more : (a b : List Step) → steps_acts (a ++ b) ≡ steps_acts a ++ steps_acts b
acts_more a b = flat_map-append step_acts a b

pub calls_more : (n : ℕ) (a b : List Step) → calls_of n (a ++ b) ≡ calls_of n a ++ calls_of n b
calls_more n a b = flat_map-append (calls_in n) a b

pub takes_more : (n : ℕ) (a b : List Step) → takes_of n (a ++ b) ≡ takes_of n a ++ takes_of n b
takes_more n a b = flat_map-append (takes_in n) a b

pub gains_steps : (k1 k2 k3 : Knows) (a b : List Step) → Gains k1 k2 (steps_acts a) → Gains k2 k3 (steps_acts b) → Gains k1 k3 (steps_acts (a ++ b))
gains_steps k1 k2 k3 a b p q = subst (λ (l : List Act). Gains k1 k3 l) (sym (acts_more a b)) (gains_more k1 k2 k3 (steps_acts a) (steps_acts b) p q)

further : {P Q early : Type 0} → P ⊎ early → (P → Q ⊎ early) → Q ⊎ early
further (inl p) f = f p
further (inr e) f = inr e

module _ (told : Option ℕ) (early : Type 0) (fs gs : List Feed) (k1 k2 k3 : Knows) (s t u : SessionState) (a : StepsSession told early fs k1 k2 s t)
    (b : StepsSession told early gs k2 k3 t u) where
  ends_both : (n : ℕ) → ends_fence n (a.steps ++ b.steps) ≡ true → (n ≡ s.number) × (u.is_fenced ≡ true)
  ends_both n is = by (either_true (ends_fence n a.steps) (ends_fence n b.steps) (sym (ends_more n a.steps b.steps) ∙ is))
    where
      by : ((ends_fence n a.steps ≡ true) ⊎ (ends_fence n b.steps ≡ true)) → (n ≡ s.number) × (u.is_fenced ≡ true)
      by (inl e) =
          let r = a.fence_ends n e in
          (r.0, b.fenced ∙ first_true t.is_fenced (has_set t.number (calls_of t.number b.steps)) r.1)
      by (inr e) = let r = b.fence_ends n e in (r.0 ∙ a.number, r.1)

  fenced_both : u.is_fenced ≡ (s.is_fenced || has_set s.number (calls_of s.number (a.steps ++ b.steps)))
  fenced_both = fence_more s.number s.is_fenced t.is_fenced u.is_fenced a.steps b.steps a.fenced
      (subst (λ (n : ℕ). u.is_fenced ≡ (t.is_fenced || has_set n (calls_of n b.steps))) a.number b.fenced)

steps_both : (told : Option ℕ) (early : Type 0) (fs gs : List Feed) (k1 k2 k3 : Knows) (s t u : SessionState) → StepsSession told early fs k1 k2 s t
    → StepsSession told early gs k2 k3 t u → StepsSession told early (fs ++ gs) k1 k3 s u
steps_both told early fs gs k1 k2 k3 s t u a b = record {
  steps = a.steps ++ b.steps;
  own = of_more s.number a.steps b.steps a.own (subst (λ (n : ℕ). AreOf n b.steps) a.number b.own);
  gains = gains_steps k1 k2 k3 a.steps b.steps a.gains b.gains;
  timely = timely_more told a.steps b.steps a.timely b.timely;
  fed = fed_more fs gs k1 k2 k3 a.steps b.steps a.fed b.fed;
  number = b.number ∙ a.number;
  caller = b.caller ∙ a.caller;
  asked = λ calls came x. subst (λ (l : List Call). AskedSoFar told l came u)
      (append_assoc calls (calls_of s.number a.steps) (calls_of s.number b.steps) ∙ ap (λ (l : List Call). calls ++ l) (sym (calls_more s.number a.steps b.steps)))
      (subst (λ (n : ℕ). AskedSoFar told ((calls ++ calls_of s.number a.steps) ++ calls_of n b.steps) came u) a.number
      (b.asked (calls ++ calls_of s.number a.steps) came (a.asked calls came x)));
  ends = (λ e. further (b.ends.0 e) a.ends.0, λ e. further (b.ends.1 e) a.ends.1);
  fenced = fenced_both told early fs gs k1 k2 k3 s t u a b;
  fence_ends = ends_both told early fs gs k1 k2 k3 s t u a b;
  written = λ takes came x. subst (λ (l : List Outcome). WrittenSoFar l came u)
      (append_assoc takes (takes_of s.number a.steps) (takes_of s.number b.steps) ∙ ap (λ (l : List Outcome). takes ++ l) (sym (takes_more s.number a.steps b.steps)))
      (subst (λ (n : ℕ). WrittenSoFar ((takes ++ takes_of s.number a.steps) ++ takes_of n b.steps) came u) a.number
      (b.written (takes ++ takes_of s.number a.steps) came (a.written takes came x)));
}

pub steps_more : (told : Option ℕ) (early : Type 0) (k1 k2 k3 : Knows) (s t u : SessionState) → StepsSession told early [] k1 k2 s t
    → StepsSession told early [] k2 k3 t u → StepsSession told early [] k1 k3 s u
steps_more told early k1 k2 k3 s t u a b = steps_both told early [] [] k1 k2 k3 s t u a b

-- the same, where asks were answered out of the log
pub feeds_more : (By : Feed → Type 0) (told : Option ℕ) (k1 k2 k3 : Knows) (s t u : SessionState) → FeedsOn By told k1 k2 s t → FeedsOn By told k2 k3 t u
    → FeedsOn By told k1 k3 s u
feeds_more By told k1 k2 k3 s t u a b = (a.0 ++ b.0, all_more By a.0 b.0 a.1 b.1, steps_both told ⊥ a.0 b.0 k1 k2 k3 s t u a.2 b.2)

pub unfed : (By : Feed → Type 0) (told : Option ℕ) (k k' : Knows) (s t : SessionState) → StepsOn told k k' s t → FeedsOn By told k k' s t
unfed By told k k' s t st = ([], tt, st)

-- ---- how the server ends a session, and that others' steps don't

some_end : (a b : InEnd) → Some a ≡ Some b → a ≡ b
some_end a b e = cc

ends_same : (early : Type 0) (s t : SessionState) → t.asking ≡ s.asking → t.taking ≡ s.taking → EndsBy early s t
ends_same early s t asking taking = (λ e. inl (sym (ap end_of_asking asking) ∙ e), λ e. inl (sym taking ∙ e))

ends_as : (s t : SessionState) (end : InEnd) → t.asking ≡ Ended end → (end ≡ ended.Dismissed → ⊥) → t.taking ≡ s.taking → EndsBy ⊥ s t
ends_as s t end is other same = (λ e. absurd (other (some_end end ended.Dismissed (sym (ap end_of_asking is) ∙ e))), λ e. inl (sym same ∙ e))

filled_goes : (s t : SessionState) (bytes : Bytes) (asking : Asking) → IsFilled s.number s.held bytes t.held t.rest t.asked asking
    → end_of_asking asking ≡ Some ended.Dismissed → ⊥
filled_goes s t bytes Open f e = cc
filled_goes s t bytes Breaking f e = cc
filled_goes s t bytes (Ended ended.Memory) f e = cc
filled_goes s t bytes (Ended end) f e = f

ends_filled : (s t : SessionState) (bytes : Bytes) → IsFilled s.number s.held bytes t.held t.rest t.asked t.asking → t.taking ≡ s.taking → EndsBy ⊥ s t
ends_filled s t bytes f same = (λ e. absurd (filled_goes s t bytes t.asking f e), λ e. inl (sym same ∙ e))

read_ends : {E : Type 0} (s t : SessionState) (r : Result Got E) (into : Bytes) → Readies s t r into → EndsBy ⊥ s t
read_ends s t (Ok (got.Bytes n)) into is = ends_filled s t (take n into) is.0 (ap (λ (x : SessionState). x.taking) is.1)
read_ends s t (Ok got.End) into is = ends_as s t ended.Over (ap (λ (x : SessionState). x.asking) is.0) (λ e. absurd (cc)) (ap (λ (x : SessionState). x.taking) is.0)
read_ends s t (Ok got.Later) into is = ends_same ⊥ s t (ap (λ (x : SessionState). x.asking) is) (ap (λ (x : SessionState). x.taking) is)
read_ends s t (Err e) into is = ends_as s t ended.ReadFault (ap (λ (x : SessionState). x.asking) is.0) (λ e. absurd (cc)) (ap (λ (x : SessionState). x.taking) is.0)

fault_other : (t : Option TakeEnd) → t ≡ Some took.WriteFault → t ≡ Some took.Late → ⊥
fault_other t p q = cc

memory_other : (t : Option TakeEnd) → t ≡ Some took.Memory → t ≡ Some took.Late → ⊥
memory_other t p q = cc

write_ends : {E : Type 0} (s t : SessionState) (r : Result Sent E) → WritesOut s t r → EndsBy ⊥ s t
write_ends s t (Ok (sent.Bytes n)) is = ends_same ⊥ s t (ap (λ (x : SessionState). x.asking) is) (ap (λ (x : SessionState). x.taking) is)
write_ends s t (Ok sent.Later) is = ends_same ⊥ s t (ap (λ (x : SessionState). x.asking) is) (ap (λ (x : SessionState). x.taking) is)
write_ends s t (Err e) is = (
  λ a. inl (sym (ap (λ (x : SessionState). end_of_asking x.asking) is) ∙ a),
  λ a. absurd (fault_other t.taking (ap (λ (x : SessionState). x.taking) is) a),
)

taking_other : (o : Outcome) → taking_behind o ≡ Some took.Late → ⊥
taking_other outcome.Ended e = cc
taking_other (outcome.Answered called.LogFault) e = cc
taking_other (outcome.Answered called.Stopped) e = cc
taking_other o e = cc

take_ends : (s t : SessionState) (o : Outcome) → Takes s t o → EndsBy ⊥ s t
take_ends s t (outcome.Given frames) (inl is) = ends_same ⊥ s t (ap (λ (x : SessionState). x.asking) is) (ap (λ (x : SessionState). x.taking) is)
take_ends s t (outcome.Given frames) (inr is) = (
  λ a. inl (sym (ap (λ (x : SessionState). end_of_asking x.asking) is) ∙ a),
  λ a. absurd (memory_other t.taking (ap (λ (x : SessionState). x.taking) is) a),
)
take_ends s t o is = (
  λ a. inl (sym (ap (λ (x : SessionState). end_of_asking x.asking) is) ∙ a),
  λ a. absurd (taking_other o (sym (ap (λ (x : SessionState). x.taking) is) ∙ a)),
)

called_other : (end : CallOutcome) (why : InEnd) → end_of end ≡ Some why → why ≡ ended.Dismissed → ⊥
called_other called.Ok why is e = cc
called_other called.Full why is e = cc
called_other called.Gone why is e = cc
called_other called.LogFault why is e = cc
called_other called.Stopped why is e = cc
called_other called.Spent why is e = cc
called_other called.Memory why is e = cc

on_ends : (asking : Asking) (s t : SessionState) → AsksOn asking s t → EndsBy ⊥ s t
on_ends Open s t is = ends_filled s t s.rest is.0 (ap (λ (x : SessionState). x.taking) is.1)
on_ends Breaking s t is = ends_as s t ended.Broken (ap (λ (x : SessionState). x.asking) is.0) (λ e. absurd (cc)) (ap (λ (x : SessionState). x.taking) is.0)
on_ends (Ended end) s t is = ends_same ⊥ s t (ap (λ (x : SessionState). x.asking) is) (ap (λ (x : SessionState). x.taking) is)

stop_ends : (s t : SessionState) (asked : List Asked) (served : ℕ) (end : CallOutcome) → ((why : InEnd) × (end_of end ≡ Some why)
    × (t ≡ record s { asked = drop served asked; asking = Ended why })) → EndsBy ⊥ s t
stop_ends s t asked served end is = ends_as s t is.0 (ap (λ (x : SessionState). x.asking) is.2) (called_other end is.0 is.1) (ap (λ (x : SessionState). x.taking) is.2)

answer_ends : (s t : SessionState) (asked : List Asked) (served : ℕ) (end : CallOutcome) → Answered s t asked served end → EndsBy ⊥ s t
answer_ends s t asked served called.Ok is = on_ends s.asking s t is
answer_ends s t asked served called.Full is = ends_same ⊥ s t (ap (λ (x : SessionState). x.asking) is) (ap (λ (x : SessionState). x.taking) is)
answer_ends s t asked served called.Gone is = stop_ends s t asked served called.Gone is
answer_ends s t asked served called.LogFault is = stop_ends s t asked served called.LogFault is
answer_ends s t asked served called.Stopped is = stop_ends s t asked served called.Stopped is
answer_ends s t asked served called.Spent is = stop_ends s t asked served called.Spent is
answer_ends s t asked served called.Memory is = stop_ends s t asked served called.Memory is

-- ---- steps that ask nothing of the hall

quiet : (told : Option ℕ) (early : Type 0) (k : Knows) (s t : SessionState) → EndsBy early s t → t.is_fenced ≡ s.is_fenced → t.number ≡ s.number → t.line.caller ≡ s.line.caller
    → ((calls : List Call) → (came : LinkState) → AskedSoFar told calls came s → AskedSoFar told calls came t)
    → ((takes : List Outcome) → (came : LinkState) → WrittenSoFar takes came s → WrittenSoFar takes came t) → StepsSession told early [] k k s t
quiet told early k s t ends fenced number caller asked written = record {
  steps = [];
  own = tt;
  gains = refl;
  timely = tt;
  fed = (refl, refl);
  number = number;
  caller = caller;
  asked = λ calls came x. subst (λ (l : List Call). AskedSoFar told l came t) (sym (append-nil calls)) (asked calls came x);
  ends = ends;
  fenced = fenced ∙ sym (or-false s.is_fenced);
  fence_ends = λ n e. absurd (cc);
  written = λ takes came x. subst (λ (l : List Outcome). WrittenSoFar l came t) (sym (append-nil takes)) (written takes came x);
}

pub steps_none : (told : Option ℕ) (early : Type 0) (k : Knows) (s : SessionState) → StepsSession told early [] k k s s
steps_none told early k s = quiet told early k s s (ends_same early s s refl refl) refl refl refl (λ calls came x. x) (λ takes came x. x)

read_number : {E : Type 0} (s t : SessionState) (r : Result Got E) (into : Bytes) → Readies s t r into → t.number ≡ s.number
read_number s t (Ok (got.Bytes n)) into is = ap (λ (x : SessionState). x.number) is.1
read_number s t (Ok got.End) into is = ap (λ (x : SessionState). x.number) is.0
read_number s t (Ok got.Later) into is = ap (λ (x : SessionState). x.number) is
read_number s t (Err e) into is = ap (λ (x : SessionState). x.number) is.0

read_fenced : {E : Type 0} (s t : SessionState) (r : Result Got E) (into : Bytes) → Readies s t r into → t.is_fenced ≡ s.is_fenced
read_fenced s t (Ok (got.Bytes n)) into is = ap (λ (x : SessionState). x.is_fenced) is.1
read_fenced s t (Ok got.End) into is = ap (λ (x : SessionState). x.is_fenced) is.0
read_fenced s t (Ok got.Later) into is = ap (λ (x : SessionState). x.is_fenced) is
read_fenced s t (Err e) into is = ap (λ (x : SessionState). x.is_fenced) is.0

read_caller : {E : Type 0} (s t : LinkState) (r : Result Got E) (into : Bytes) → Reads s t r into → t.caller ≡ s.caller
read_caller s t (Ok (got.Bytes n)) into is = ap (λ (x : LinkState). x.caller) is.1
read_caller s t (Ok got.End) into is = ap (λ (x : LinkState). x.caller) is.1
read_caller s t (Ok got.Later) into is = ap (λ (x : LinkState). x.caller) is
read_caller s t (Err e) into is = ap (λ (x : LinkState). x.caller) is.same

pub steps_read : {E : Type 0} (told : Option ℕ) (k : Knows) (s t : SessionState) (r : Result Got E) (into : Bytes) → WantsToRead s → Reads s.line t.line r into
    → Readies s t r into → UnlessMemory t.asking ((more : Bytes) → demand s (got_bytes r into ++ more) ≡ demand t more) → StepsOn told k k s t
steps_read told k s t r into wants reads readies goes = quiet told ⊥ k s t (read_ends s t r into readies) (read_fenced s t r into readies) (read_number s t r into readies) (read_caller s.line t.line r into reads)
    (λ calls came x. asked_read told calls came s t into wants x r reads readies goes) (λ takes came x. written_read takes came s x t r into reads readies)

write_number : {E : Type 0} (s t : SessionState) (r : Result Sent E) → WritesOut s t r → t.number ≡ s.number
write_number s t (Ok (sent.Bytes n)) is = ap (λ (x : SessionState). x.number) is
write_number s t (Ok sent.Later) is = ap (λ (x : SessionState). x.number) is
write_number s t (Err e) is = ap (λ (x : SessionState). x.number) is

write_fenced : {E : Type 0} (s t : SessionState) (r : Result Sent E) → WritesOut s t r → t.is_fenced ≡ s.is_fenced
write_fenced s t (Ok (sent.Bytes n)) is = ap (λ (x : SessionState). x.is_fenced) is
write_fenced s t (Ok sent.Later) is = ap (λ (x : SessionState). x.is_fenced) is
write_fenced s t (Err e) is = ap (λ (x : SessionState). x.is_fenced) is

write_caller : {E : Type 0} (s t : LinkState) (r : Result Sent E) (piece : Bytes) → Writes s t r piece → t.caller ≡ s.caller
write_caller s t (Ok (sent.Bytes n)) piece is = ap (λ (x : LinkState). x.caller) is.1
write_caller s t (Ok sent.Later) piece is = ap (λ (x : LinkState). x.caller) is
write_caller s t (Err e) piece is = ap (λ (x : LinkState). x.caller) is.same

pub steps_written : {E : Type 0} (told : Option ℕ) (k : Knows) (s t : SessionState) (r : Result Sent E) → Writes s.line t.line r s.out → WritesOut s t r
    → Keeps (owed s) (owed t) → StepsOn told k k s t
steps_written told k s t r writes out keeps = quiet told ⊥ k s t (write_ends s t r out) (write_fenced s t r out) (write_number s t r out) (write_caller s.line t.line r s.out writes)
    (λ calls came x. asked_written told calls came s t x r writes out) (λ takes came x. written_sent takes came s x t r writes out keeps)

-- ---- an end by the server

pub steps_dismissed : (told : Option ℕ) (k : Knows) (s t : SessionState) → CanDismiss s → Dismisses s t → EndsEarly told k s t
steps_dismissed told k s t can is = quiet told (Unit {0}) k s t (λ e. inr tt, λ e. inl (sym (ap (λ (x : SessionState). x.taking) is.0) ∙ e))
    (ap (λ (x : SessionState). x.is_fenced) is.0) (ap (λ (x : SessionState). x.number) is.0) (ap (λ (x : SessionState). x.line.caller) is.0)
    (λ calls came x. asked_dismissed told calls came s t can x is) (λ takes came x. written_dismissed takes came s x t is)

pub steps_cut : (told : Option ℕ) (k : Knows) (s t : SessionState) → s.taking ≡ None → Cuts s t → EndsEarly told k s t
steps_cut told k s t none is = quiet told (Unit {0}) k s t
    (λ e. inl (sym (ap (λ (x : SessionState). end_of_asking x.asking) is) ∙ e), λ e. inr tt)
    (ap (λ (x : SessionState). x.is_fenced) is) (ap (λ (x : SessionState). x.number) is) (ap (λ (x : SessionState). x.line.caller) is)
    (λ calls came x. asked_cut told calls came s t x is) (λ takes came x. written_cut takes came s x t none is)

-- ---- a take, and a close

taken_at : (n : ℕ) (o : Outcome) → takes_of n (Took n o ∷ []) ≡ o ∷ []
taken_at n o = rw (same_test n) refl

take_number : (s t : SessionState) (o : Outcome) → Takes s t o → t.number ≡ s.number
take_number s t (outcome.Given frames) (inl is) = ap (λ (x : SessionState). x.number) is
take_number s t (outcome.Given frames) (inr is) = ap (λ (x : SessionState). x.number) is
take_number s t o is = ap (λ (x : SessionState). x.number) is

take_fenced : (s t : SessionState) (o : Outcome) → Takes s t o → t.is_fenced ≡ s.is_fenced
take_fenced s t (outcome.Given frames) (inl is) = ap (λ (x : SessionState). x.is_fenced) is
take_fenced s t (outcome.Given frames) (inr is) = ap (λ (x : SessionState). x.is_fenced) is
take_fenced s t o is = ap (λ (x : SessionState). x.is_fenced) is

take_caller : (s t : SessionState) (o : Outcome) → Takes s t o → t.line.caller ≡ s.line.caller
take_caller s t (outcome.Given frames) (inl is) = ap (λ (x : SessionState). x.line.caller) is
take_caller s t (outcome.Given frames) (inr is) = ap (λ (x : SessionState). x.line.caller) is
take_caller s t o is = ap (λ (x : SessionState). x.line.caller) is

pub steps_taken : (told : Option ℕ) (k k' : Knows) (s t : SessionState) (o : Outcome) → WantsTake s → Adds (event.Take s.number) o k k' → Takes s t o
    → StepsOn told k k' s t
steps_taken told k k' s t o wants adds takes = record {
  steps = Took s.number o ∷ [];
  own = (refl, tt);
  gains = gains_one k k' (event.Take s.number, o) (made (event.Take s.number) o k k' adds);
  timely = (tt, tt);
  fed = fed_one k k' (Took s.number o) refl (gains_one k k' (event.Take s.number, o) (made (event.Take s.number) o k k' adds));
  number = take_number s t o takes;
  caller = take_caller s t o takes;
  asked = λ calls came x. subst (λ (l : List Call). AskedSoFar told l came t) (sym (append-nil calls)) (asked_taken told calls came s t x o takes);
  ends = take_ends s t o takes;
  fenced = take_fenced s t o takes ∙ sym (or-false s.is_fenced);
  fence_ends = λ n e. absurd (cc);
  written = λ before came x. subst (λ (l : List Outcome). WrittenSoFar (before ++ l) came t) (sym (taken_at s.number o)) (written_taken before came s x t o wants takes);
}

pub steps_closed : (told : Option ℕ) (k k' : Knows) (s : SessionState) → Adds (event.Close s.number) outcome.Done k k' → StepsOn told k k' s s
steps_closed told k k' s adds = record {
  steps = Closed s.number ∷ [];
  own = (refl, tt);
  gains = gains_one k k' (event.Close s.number, outcome.Done) (made (event.Close s.number) outcome.Done k k' adds);
  timely = (tt, tt);
  fed = fed_one k k' (Closed s.number) refl (gains_one k k' (event.Close s.number, outcome.Done) (made (event.Close s.number) outcome.Done k k' adds));
  number = refl;
  caller = refl;
  asked = λ calls came x. subst (λ (l : List Call). AskedSoFar told l came s) (sym (append-nil calls)) x;
  ends = ends_same ⊥ s s refl refl;
  fenced = sym (or-false s.is_fenced);
  fence_ends = λ n e. absurd (cc);
  written = λ takes came x. subst (λ (l : List Outcome). WrittenSoFar l came s) (sym (append-nil takes)) x;
}

-- ---- the calls of a turn

some_acts : (n m served : ℕ) (end : CallOutcome) (asked : List Asked) → 0 < length asked → IsCount served end (length asked)
    → 0 < length (call_acts n m asked served end)
some_acts n m served end [] some count = absurd (omega (arith, some))
some_acts n m zero called.Ok (a ∷ asked) some count = absurd (omega (arith, count))
some_acts n m zero end (a ∷ asked) some count = omega arith
some_acts n m (suc served) end (a ∷ asked) some count = omega arith

called_at : (n m served : ℕ) (end : CallOutcome) (asked : List Asked) → calls_of n (Called n m asked served end ∷ []) ≡ turn_calls m asked served end
called_at n m served end asked = ap (λ (l : List Call). l ++ []) (by_test (n == n) (same_test n)) ∙ append-nil (turn_calls m asked served end)
  where
    by_test : (b : Bool) → b ≡ true → (if b then turn_calls m asked served end else []) ≡ turn_calls m asked served end
    by_test true is = refl
    by_test false is = absurd (cc)

ended_on : (asking : Asking) (s t : SessionState) → AsksOn asking s t → (t.number ≡ s.number) × (t.line.caller ≡ s.line.caller)
ended_on Open s t is = (ap (λ (x : SessionState). x.number) is.1, ap (λ (x : SessionState). x.line.caller) is.1)
ended_on Breaking s t is = (ap (λ (x : SessionState). x.number) is.0, ap (λ (x : SessionState). x.line.caller) is.0)
ended_on (Ended end) s t is = (ap (λ (x : SessionState). x.number) is, ap (λ (x : SessionState). x.line.caller) is)

answered_same : (s t : SessionState) (asked : List Asked) (served : ℕ) (end : CallOutcome) → Answered s t asked served end
    → (t.number ≡ s.number) × (t.line.caller ≡ s.line.caller)
answered_same s t asked served called.Ok is = ended_on s.asking s t is
answered_same s t asked served called.Full is = (ap (λ (x : SessionState). x.number) is, ap (λ (x : SessionState). x.line.caller) is)
answered_same s t asked served end is = (ap (λ (x : SessionState). x.number) is.2, ap (λ (x : SessionState). x.line.caller) is.2)

owes_bare : (t : Option TakeEnd) (held : Option Bytes) (s : SessionState) (b : Bool) (given : Bytes) → Owes t held s given
    → Owes t held (record s { asked = []; is_fenced = b }) given
owes_bare None held s b given o = o
owes_bare (Some took.WriteFault) held s b given o = o
owes_bare (Some took.Memory) held s b given o = o
owes_bare (Some took.Late) held s b given o = o
owes_bare (Some end) held s b given o = o

written_bare : (takes : List Outcome) (came : LinkState) (s : SessionState) (b : Bool) → WrittenSoFar takes came s
    → WrittenSoFar takes came (record s { asked = []; is_fenced = b })
written_bare takes came s b x = record { owes = owes_bare s.taking came.held s b (bytes_given s.number takes) x.owes; last = x.last; cause = x.cause; later = x.later }

-- the requests in hand, of a session from which they were moved out
steps_answered : (told : Option ℕ) (m : ℕ) → IsTold told m → (k k' : Knows) (s t : SessionState) (served : ℕ) (end : CallOutcome) (named : List ℕ)
    → WantsTurn s → IsCount served end (length s.asked) → AddsNamed (call_acts s.number m s.asked served end) named k k'
    → Answered (record s { asked = []; is_fenced = t.is_fenced }) t s.asked served end
    → t.is_fenced ≡ (s.is_fenced || list_any (sets_channel s.number) (take served s.asked))
    → UnlessMemory t.asking ((more : Bytes) → demand s more ≡ take served s.asked ++ demand t more)
    → StepsOn told k k' s t
steps_answered told m timely k k' s t served end named wants count adds answered fenced goes =
    let same = answered_same (record s { asked = []; is_fenced = t.is_fenced }) t s.asked served end answered in
    record {
      steps = Called s.number m s.asked served end ∷ [];
      own = (refl, tt);
      gains = subst (λ (l : List Act). Gains k k' l) (sym (append-nil (call_acts s.number m s.asked served end)))
          (gains_calls (call_acts s.number m s.asked served end) k k' (some_acts s.number m served end s.asked wants.2 count) adds.adds);
      timely = (timely, tt);
      fed = fed_one k k' (Called s.number m s.asked served end) refl
          (gains_calls (call_acts s.number m s.asked served end) k k' (some_acts s.number m served end s.asked wants.2 count) adds.adds);
      number = same.0;
      caller = same.1;
      asked = λ calls came x. subst (λ (l : List Call). AskedSoFar told (calls ++ l) came t) (sym (called_at s.number m served end s.asked))
          (asked_answered told calls came (record s { asked = []; is_fenced = t.is_fenced }) t s.asked served m timely wants.0
          (asked_fenced told calls came s t.is_fenced x) end count refl answered goes);
      ends = answer_ends (record s { asked = []; is_fenced = t.is_fenced }) t s.asked served end answered;
      fenced = fenced ∙ ap (λ (b : Bool). s.is_fenced || b)
          (sym (ap (has_set s.number) (called_at s.number m served end s.asked) ∙ set_turn s.number m served end s.asked));
      fence_ends = λ n e. absurd (cc);
      written = λ takes came x. subst (λ (l : List Outcome). WrittenSoFar l came t) (sym (append-nil takes))
          (written_answered takes came (record s { asked = []; is_fenced = t.is_fenced }) (written_bare takes came s t.is_fenced x) t s.asked served end answered);
    }

pub steps_asked : (told : Option ℕ) (m : ℕ) → IsTold told m → (k k' : Knows) (s mid t : SessionState) (moved asked : List Asked) (served : ℕ) (end : CallOutcome)
    (named : List ℕ) → WantsTurn s → moved ≡ s.asked → mid ≡ record s { asked = [] } → asked ≡ moved → IsCount served end (length moved)
    → AddsNamed (call_acts mid.number m moved served end) named k k' → Answered (record mid { is_fenced = t.is_fenced }) t asked served end
    → t.is_fenced ≡ (mid.is_fenced || list_any (sets_channel mid.number) (take served asked))
    → UnlessMemory t.asking ((more : Bytes) → demand (record mid { asked = asked }) more ≡ take served asked ++ demand t more)
    → StepsOn told k k' s t
steps_asked told m timely k k' s mid t moved asked served end named wants is bare back count adds answered fenced goes =
    let all : asked ≡ s.asked = back ∙ is in
    steps_answered told m timely k k' s t served end named wants
    (subst (λ (l : List Asked). IsCount served end (length l)) is count)
    (subst (λ (x : SessionState). AddsNamed (call_acts x.number m s.asked served end) named k k') bare
    (subst (λ (l : List Asked). AddsNamed (call_acts mid.number m l served end) named k k') is adds))
    (subst (λ (x : SessionState). Answered (record x { is_fenced = t.is_fenced }) t s.asked served end) bare
    (subst (λ (l : List Asked). Answered (record mid { is_fenced = t.is_fenced }) t l served end) all answered))
    (subst (λ (x : SessionState). t.is_fenced ≡ (x.is_fenced || list_any (sets_channel x.number) (take served s.asked))) bare
    (subst (λ (l : List Asked). t.is_fenced ≡ (mid.is_fenced || list_any (sets_channel mid.number) (take served l))) all fenced))
    (subst (λ (x : SessionState). UnlessMemory t.asking ((more : Bytes) → demand (record x { asked = s.asked }) more ≡ take served s.asked ++ demand t more)) bare
    (subst (λ (l : List Asked). UnlessMemory t.asking ((more : Bytes) → demand (record mid { asked = l }) more ≡ take served l ++ demand t more)) all goes))

-- ---- an ask that is answered out of the log

one_served : (answer : PartAnswer) → IsCount (served_by answer) (called_of answer) 1
one_served (part.Given p) = refl
one_served part.LogFault = omega arith
one_served part.Stopped = omega arith
one_served part.Memory = omega arith

if_own : {A : Type 0} (n : ℕ) (xs : List A) → (if n == n then xs else []) ++ [] ≡ xs
if_own n xs = by (n == n) (same_test n)
  where
    by : (b : Bool) → b ≡ true → (if b then xs else []) ++ [] ≡ xs
    by true is = append-nil xs
    by false is = absurd (cc)

on_wants : (asking : Asking) (s t : SessionState) → s.taking ≡ None → s.out ≡ [] → AsksOn asking s t → WantsTake t
on_wants Open s t none bare is = (ap (λ (x : SessionState). x.taking) is.1 ∙ none, ap (λ (x : SessionState). x.out) is.1 ∙ bare)
on_wants Breaking s t none bare is = (ap (λ (x : SessionState). x.taking) is.0 ∙ none, ap (λ (x : SessionState). x.out) is.0 ∙ bare)
on_wants (Ended end) s t none bare is = (ap (λ (x : SessionState). x.taking) is ∙ none, ap (λ (x : SessionState). x.out) is ∙ bare)

module _ (told : Option ℕ) (m : ℕ) (timely : IsTold told m) (k k' : Knows) (s mid : SessionState) (ask : Ask) (answer : PartAnswer) (bytes : Bytes)
    (wants : WantsTurn s) (is : s.asked ≡ asks_of ask) (adds : Adds event.Rewrite (outcome.Answered (called_of answer)) k k')
    (answered : Answered (record s { asked = []; is_fenced = mid.is_fenced }) mid s.asked (served_by answer) (called_of answer))
    (fenced : mid.is_fenced ≡ (s.is_fenced || list_any (sets_channel s.number) (take (served_by answer) s.asked)))
    (goes : UnlessMemory mid.asking ((more : Bytes) → demand s more ≡ take (served_by answer) s.asked ++ demand mid more)) where
  abbrev feed : Feed
  feed = record { knows = k'; ask = ask; answer = answer; bytes = bytes }

  abbrev step : List Step
  step = Fed s.number m ask answer bytes ∷ []

  abbrev bare : SessionState
  bare = record s { asked = []; is_fenced = mid.is_fenced }

  count : IsCount (served_by answer) (called_of answer) (length s.asked)
  count = subst (λ (l : List Asked). IsCount (served_by answer) (called_of answer) (length l)) (sym is) (one_served answer)

  fed_calls : calls_of s.number step ≡ turn_calls m s.asked (served_by answer) (called_of answer)
  fed_calls = if_own s.number (turn_calls m (asks_of ask) (served_by answer) (called_of answer))
      ∙ ap (λ (l : List Asked). turn_calls m l (served_by answer) (called_of answer)) (sym is)

  fed_takes : takes_of s.number step ≡ parts_of answer bytes
  fed_takes = if_own s.number (parts_of answer bytes)

  half_asked : (calls : List Call) (came : LinkState) → AskedSoFar told calls came s → AskedSoFar told (calls ++ calls_of s.number step) came mid
  half_asked calls came x = subst (λ (l : List Call). AskedSoFar told (calls ++ l) came mid) (sym fed_calls)
      (asked_answered told calls came bare mid s.asked (served_by answer) m timely wants.0
      (asked_fenced told calls came s mid.is_fenced x) (called_of answer) count refl answered goes)

  half_written : (takes : List Outcome) (came : LinkState) → WrittenSoFar takes came s → WrittenSoFar takes came mid
  half_written takes came x = written_answered takes came bare (written_bare takes came s mid.is_fenced x) mid s.asked (served_by answer) (called_of answer) answered

  half_ends : EndsBy ⊥ bare mid
  half_ends = answer_ends bare mid s.asked (served_by answer) (called_of answer) answered

  same : (mid.number ≡ s.number) × (mid.line.caller ≡ s.line.caller)
  same = answered_same bare mid s.asked (served_by answer) (called_of answer) answered

  own_gains : Gains k k' (step_acts (Fed s.number m ask answer bytes))
  own_gains = gains_one k k' (event.Rewrite, outcome.Answered (called_of answer)) (made event.Rewrite (outcome.Answered (called_of answer)) k k' adds)

  module _ (t : SessionState) (number : t.number ≡ mid.number) (caller : t.line.caller ≡ mid.line.caller) (ends : EndsBy ⊥ mid t)
      (still : t.is_fenced ≡ mid.is_fenced)
      (asked : (calls : List Call) → (came : LinkState) → AskedSoFar told calls came mid → AskedSoFar told calls came t)
      (written : (takes : List Outcome) → (came : LinkState) → WrittenSoFar takes came mid → WrittenSoFar (takes ++ parts_of answer bytes) came t) where
    fed_so : StepsSession told ⊥ (feed ∷ []) k k' s t
    fed_so = record {
      steps = step;
      own = (refl, tt);
      gains = own_gains;
      timely = (timely, tt);
      fed = (k', own_gains, [], refl, (refl, refl));
      number = number ∙ same.0;
      caller = caller ∙ same.1;
      asked = λ calls came x. asked (calls ++ calls_of s.number step) came (half_asked calls came x);
      ends = (λ e. further (ends.0 e) half_ends.0, λ e. further (ends.1 e) half_ends.1);
      fenced = still ∙ fenced ∙ ap (λ (b : Bool). s.is_fenced || b)
          (sym (ap (has_set s.number) fed_calls ∙ set_turn s.number m (served_by answer) (called_of answer) s.asked));
      fence_ends = λ n e. absurd (cc);
      written = λ takes came x. subst (λ (l : List Outcome). WrittenSoFar (takes ++ l) came t) (sym fed_takes) (written takes came (half_written takes came x));
    }

  -- nothing was given
  pub fed_none : parts_of answer bytes ≡ [] → StepsSession told ⊥ (feed ∷ []) k k' s mid
  fed_none none = fed_so mid refl refl (ends_same ⊥ mid mid refl refl) refl (λ calls came x. x)
      (λ takes came x. subst (λ (l : List Outcome). WrittenSoFar l came mid) (sym (ap (λ (l : List Outcome). takes ++ l) none ∙ append-nil takes)) x)

  -- a part was given, as one frame
  pub fed_part : (t : SessionState) (o : Outcome) → parts_of answer bytes ≡ o ∷ [] → WantsTake mid → Takes mid t o → StepsSession told ⊥ (feed ∷ []) k k' s t
  fed_part t o one wants_take takes = fed_so t (take_number mid t o takes) (take_caller mid t o takes) (take_ends mid t o takes) (take_fenced mid t o takes)
      (λ calls came x. asked_taken told calls came mid t x o takes)
      (λ before came x. subst (λ (l : List Outcome). WrittenSoFar (before ++ l) came t) (sym one) (written_taken before came mid x t o wants_take takes))

-- a session that was given its answers may be given a part
pub part_wants : (s mid : SessionState) (b : Bool) (asked : List Asked) (served : ℕ) → s.taking ≡ None → s.out ≡ []
    → Answered (record s { is_fenced = b }) mid asked served called.Ok → WantsTake mid
part_wants s mid b asked served none bare answered = on_wants s.asking (record s { is_fenced = b }) mid none bare answered

no_part : (answer : PartAnswer) (bytes : Bytes) → ((p : Part) → answer ≡ part.Given p → ⊥) → parts_of answer bytes ≡ []
no_part (part.Given p) bytes none = absurd (none p refl)
no_part part.LogFault bytes none = refl
no_part part.Stopped bytes none = refl
no_part part.Memory bytes none = refl

only_one : (asked : List Asked) (a : Asked) (words : List Bytes) → length asked ≡ 1 → slice_get asked 0 ≡ Some a → a ≡ asks_for.Words words
    → asked ≡ asks_for.Words words ∷ []
only_one [] a words one at is = absurd (omega (arith, one))
only_one (b ∷ []) a words one at is = let same : b ≡ a = cc at in ap (λ (x : Asked). x ∷ []) (same ∙ is)
only_one (b ∷ d ∷ asked) a words one at is = absurd (omega (arith, one))

-- one request of these words is an ask, where they are one
pub only_ask : (r : Option Ask) (asked : List Asked) (a : Asked) (words : List Bytes) → length asked ≡ 1 → slice_get asked 0 ≡ Some a
    → a ≡ asks_for.Words words → IfSome r (λ ask. IsAskOf ask words) → IfSome r (λ ask. asked ≡ asks_of ask)
only_ask None asked a words one at is made = tt
only_ask (Some ask) asked a words one at is made =
    only_one asked a words one at is ∙ ap (λ (w : List Bytes). asks_for.Words w ∷ []) made.1

-- the same, of a session whose requests are in hand
module _ (By : Feed → Type 0) (told : Option ℕ) (m : ℕ) (timely : IsTold told m) (k k' : Knows) (x mid : SessionState) (asked : List Asked) (ask : Ask)
    (answer : PartAnswer) (bytes : Bytes) (served : ℕ) (end : CallOutcome) (by : By (record { knows = k'; ask = ask; answer = answer; bytes = bytes }))
    (moved : x.asked ≡ []) (wants : WantsTurn (record x { asked = asked })) (is : asked ≡ asks_of ask)
    (adds : Adds event.Rewrite (outcome.Answered (called_of answer)) k k') (serves : served ≡ served_by answer) (ends : end ≡ called_of answer)
    (answered : Answered (record x { is_fenced = mid.is_fenced }) mid asked served end)
    (fenced : mid.is_fenced ≡ (x.is_fenced || list_any (sets_channel x.number) (take served asked)))
    (goes : UnlessMemory mid.asking ((more : Bytes) → demand (record x { asked = asked }) more ≡ take served asked ++ demand mid more)) where
  abbrev whole : SessionState
  whole = record x { asked = asked }

  answered_so : Answered (record x { asked = []; is_fenced = mid.is_fenced }) mid asked (served_by answer) (called_of answer)
  answered_so = subst (λ (l : List Asked). Answered (record x { asked = l; is_fenced = mid.is_fenced }) mid asked (served_by answer) (called_of answer)) moved
      (subst (λ (n : ℕ). Answered (record x { is_fenced = mid.is_fenced }) mid asked n (called_of answer)) serves
      (subst (λ (e : CallOutcome). Answered (record x { is_fenced = mid.is_fenced }) mid asked served e) ends answered))

  fenced_so : mid.is_fenced ≡ (x.is_fenced || list_any (sets_channel x.number) (take (served_by answer) asked))
  fenced_so = subst (λ (n : ℕ). mid.is_fenced ≡ (x.is_fenced || list_any (sets_channel x.number) (take n asked))) serves fenced

  goes_so : UnlessMemory mid.asking ((more : Bytes) → demand whole more ≡ take (served_by answer) asked ++ demand mid more)
  goes_so = subst (λ (n : ℕ). UnlessMemory mid.asking ((more : Bytes) → demand whole more ≡ take n asked ++ demand mid more)) serves goes

  pub feeds_none : ((p : Part) → answer ≡ part.Given p → ⊥) → FeedsOn By told k k' whole mid
  feeds_none none = (
    _,
    (by, tt),
    fed_none told m timely k k' whole mid ask answer bytes wants is adds answered_so fenced_so goes_so (no_part answer bytes none),
  )

  pub feeds_part : (t : SessionState) (p : Part) → answer ≡ part.Given p → Takes mid t (outcome.Given (part_text p bytes ∷ [])) → FeedsOn By told k k' whole t
  feeds_part t p given takes = (
    _,
    (by, tt),
    fed_part told m timely k k' whole mid ask answer bytes wants is adds answered_so fenced_so goes_so t (outcome.Given (part_text p bytes ∷ []))
        (ap (λ (a : PartAnswer). parts_of a bytes) given)
        (part_wants x mid mid.is_fenced asked served wants.1 wants.3
        (subst (λ (e : CallOutcome). Answered (record x { is_fenced = mid.is_fenced }) mid asked served e) (ends ∙ ap called_of given) answered))
        takes,
  )
