-- Runs stay safe.
use Rattle.std.proofs.Common.{◌≡◌, ◌≤◌, ◌-◌, ℕ, zero, suc, Bool, true, false, List, [], ◌∷◌, ◌++◌, length, take, refl, sym, ap, subst, ◌∙◌, arith}
use Rattle.std.proofs.Common.{inl, inr, ⊎_elim, length-append, append-nil, append_assoc}
use Rattle.std.proofs.lemmas.List.{take_all}
use Rattle.outside.specs.Sides.{Sides}
use Rattle.outside.specs.Crashes.{LeavesOnly}
use Rattle.outside.specs.CrashLaws.{weaker, begins}
use Rattle.world_model.specs.Halls.{Hall}
use Rattle.world_model.specs.Histories.{Reaches, acknowledges, acked_count, opening_hall}
use Rattle.world_data.specs.declared.worlds.World.{World}
use Rattle.world_model.specs.declared.events.Entry.{Entry}
use Rattle.world_model.specs.declared.events.Opening.{Opening}
use Rattle.log_record.specs.Recovery.{Recovers, RecoversEither}
use Rattle.log_record.specs.Safety.{moment_after, RecoversPassed, IsSafe, Run, entries_of, start_of, RunPasses, SafeRun}
use Rattle.log_record.specs.Journals.{Journal, whole, IsLogged, KeepsLog, Turn, TellsNow}
use Rattle.log_record.specs.Runs.{and_then, TurnsKeepRunsSafe, OpeningsKeepRunsSafe}
use Rattle.log_record.specs.Acknowledged.{acked_within, acked_take}
use Rattle.log_record.specs.LeadingLaws.{leads_on, passes_still, passes_all}
use Rattle.log_record.specs.SafetyLaws.{passed_still, committed_passed, safe_with_one_more}
use Rattle.log_record.specs.TurnLaws.{acknowledges_shows, keeps_log_on}

module _ {D : Type 0} (images : D → Sides → Type 0) (moment : D → ℕ) (left_since : D → ℕ → Sides → Type 0) where
  -- what either world stands for was passed, with all that is acknowledged
  either_passed : (old : D) (start : ℕ) (entries : List Entry) (Worlds : ℕ → World → Type 0) (h : Hall) (j : Journal)
      → TellsNow images moment left_since old
      → ((n : ℕ) → moment_after start (take n entries) ≤ moment old) → IsSafe acknowledges left_since old start entries Worlds
      → Worlds (length entries) h.world → IsLogged (images old) h j
      → (c : Sides) → RecoversEither j.committed (whole j) c → RecoversPassed Worlds (acked_count acknowledges entries) (length entries) c
  either_passed old start entries Worlds h j tells past safe last log c either = ⊎_elim
      (λ first. let found = committed_passed images moment left_since old start entries Worlds j.committed tells.counts_now safe
      (subst (λ (l : List Entry). moment_after start l ≤ moment old) (take_all (length entries) entries (omega arith)) (past (length entries)))
      log.durable in
      record { count = found.0; at_least = found.1; at_most = found.2; world = j.committed; passed = found.3; recovers = first })
      (λ second. record {
        count = length entries;
        at_least = acked_within acknowledges entries;
        at_most = omega arith;
        world = whole j;
        passed = subst (Worlds (length entries)) log.world last;
        recovers = second;
      })
      either

  leaves_passed : (old new : D) (start : ℕ) (entries : List Entry) (e : Entry) (Worlds : ℕ → World → Type 0) (h next : Hall) (before after : Journal)
      → TellsNow images moment left_since old
      → ((n : ℕ) → moment_after start (take n entries) ≤ moment old) → IsSafe acknowledges left_since old start entries Worlds
      → Worlds (length entries) h.world → KeepsLog (images old) h before
      → Turn images moment left_since old new h before e.event e.outcome next after → (b : Bool) → h.stopped ≡ b
      → LeavesOnly moment left_since old new (RecoversPassed Worlds (acked_count acknowledges entries) (length entries))
  leaves_passed old new start entries e Worlds h next before after tells past safe last log turn true stops =
      subst (λ (d : D). LeavesOnly moment left_since old d (RecoversPassed Worlds (acked_count acknowledges entries) (length entries)))
      (sym (turn.stopped stops)) (begins moment left_since old (RecoversPassed Worlds (acked_count acknowledges entries) (length entries)))
  leaves_passed old new start entries e Worlds h next before after tells past safe last log turn false goes =
      weaker moment left_since old new (RecoversEither before.committed (whole before))
      (RecoversPassed Worlds (acked_count acknowledges entries) (length entries))
      (either_passed old start entries Worlds h before tells past safe last (log goes)) (turn.leaves goes)

  turn_safe : (old new : D) (start : ℕ) (entries : List Entry) (e : Entry) (Worlds More : ℕ → World → Type 0) (h next : Hall) (before after : Journal)
      → TellsNow images moment left_since old → TellsNow images moment left_since new
      → ((n : ℕ) → moment_after start (take n entries) ≤ moment old) → IsSafe acknowledges left_since old start entries Worlds
      → Worlds (length entries) h.world → KeepsLog (images old) h before
      → Turn images moment left_since old new h before e.event e.outcome next after → e.moment ≡ moment new
      → ((m : ℕ) (w : World) → m ≤ length entries → Worlds m w → More m w) → More (suc (length entries)) next.world
      → IsSafe acknowledges left_since new start (entries ++ e ∷ []) More
  turn_safe old new start entries e Worlds More h next before after tells_old tells_new past safe last log turn at_end more further =
      safe_with_one_more images moment left_since old new start entries e Worlds More tells_new.counts_now tells_new.only_now more past safe
      (leaves_passed old new start entries e Worlds h next before after tells_old past safe last log turn h.stopped refl) at_end
      (λ gives c image. (next.world, further, turn.shown (acknowledges_shows e gives) c image))

  -- time goes on without an entry
  safe_stays : (old new : D) (start : ℕ) (entries : List Entry) (Worlds More : ℕ → World → Type 0)
      → ((n : ℕ) → moment_after start (take n entries) ≤ moment old) → IsSafe acknowledges left_since old start entries Worlds
      → LeavesOnly moment left_since old new (RecoversPassed Worlds (acked_count acknowledges entries) (length entries))
      → ((m : ℕ) (w : World) → m ≤ length entries → Worlds m w → More m w) → IsSafe acknowledges left_since new start entries More
  safe_stays old new start entries Worlds More past safe leaves more n few c left = ⊎_elim
      (λ before. passed_still Worlds More (acked_count acknowledges (take n entries)) (acked_count acknowledges (take n entries)) (length entries)
      (length entries) c (omega arith) (omega arith) more (safe n few c before))
      (λ inside. passed_still Worlds More (acked_count acknowledges entries) (acked_count acknowledges (take n entries)) (length entries)
      (length entries) c (acked_take acknowledges n entries) (omega arith) more inside)
      (leaves.either (moment_after start (take n entries)) c (past n) left)

  not_later : (old new : D) (h next : Hall) (before after : Journal) (e : Entry)
      → Turn images moment left_since old new h before e.event e.outcome next after → (b : Bool) → h.stopped ≡ b → moment old ≤ moment new
  not_later old new h next before after e turn true stops = let same = ap moment (turn.stopped stops) in omega (arith, same)
  not_later old new h next before after e turn false goes = (turn.leaves goes).later

-- the entries of a run

entries-last : (run : Run) (o : Opening) (entries : List Entry) → entries_of (and_then run o entries) ≡ entries_of run ++ entries
entries-last [] o entries = append-nil entries
entries-last ((q, es) ∷ run) o entries = ap (λ (l : List Entry). es ++ l) (entries-last run o entries)
    ∙ sym (append_assoc es (entries_of run) entries)

entries-more : (run : Run) (o : Opening) (entries : List Entry) (e : Entry)
    → entries_of (and_then run o (entries ++ e ∷ [])) ≡ entries_of (and_then run o entries) ++ e ∷ []
entries-more run o entries e = entries-last run o (entries ++ e ∷ []) ∙ sym (append_assoc (entries_of run) entries (e ∷ []))
    ∙ ap (λ (l : List Entry). l ++ e ∷ []) (sym (entries-last run o entries))

start-more : (run : Run) (o : Opening) (entries more : List Entry) → start_of (and_then run o entries) ≡ start_of (and_then run o more)
start-more [] o entries more = refl
start-more ((q, es) ∷ run) o entries more = refl

start-then : (run : Run) (o p : Opening) (entries : List Entry)
    → start_of (and_then (and_then run o entries) p []) ≡ start_of (and_then run o entries)
start-then [] o p entries = refl
start-then ((q, es) ∷ run) o p entries = refl

-- the worlds that a run passes

more_passed : (run : Run) (o : Opening) (entries : List Entry) (e : Entry) (m : ℕ) (w : World) → RunPasses (and_then run o entries) m w
    → RunPasses (and_then run o (entries ++ e ∷ [])) m w
more_passed [] o entries e m w (inl passes) =
    inl (omega (arith, passes.0, length-append entries (e ∷ [])), passes_still o entries e m w passes.0 passes.1)
more_passed [] o entries e m w (inr none) = absurd none.1
more_passed ((q, es) ∷ run) o entries e m w (inl passes) = inl passes
more_passed ((q, es) ∷ run) o entries e m w (inr passes) = inr (passes.0, more_passed run o entries e (m - length es) w passes.1)

then_passed : (run : Run) (p : Opening) (m : ℕ) (w : World) → RunPasses run m w → RunPasses (and_then run p []) m w
then_passed [] p m w none = absurd none
then_passed ((q, es) ∷ run) p m w (inl passes) = inl passes
then_passed ((q, es) ∷ run) p m w (inr passes) = inr (passes.0, then_passed run p (m - length es) w passes.1)

last_passed : (run : Run) (o : Opening) (entries : List Entry) (h : Hall) (n : ℕ) → n ≡ length (entries_of run ++ entries) → Reaches o entries h
    → RunPasses (and_then run o entries) n h.world
last_passed [] o entries h n is reached = inl (omega (arith, is), passes_all o entries h n h.world (omega (arith, is)) reached refl)
last_passed ((q, es) ∷ run) o entries h n is reached =
    let long = length-append es (entries_of run ++ entries) in
    let assoc = ap length (append_assoc es (entries_of run) entries) in
    inr (omega (arith, is, long, assoc), last_passed run o entries h (n - length es) (omega (arith, is, long, assoc)) reached)

past_more : (start old new : ℕ) (entries : List Entry) (e : Entry) → ((n : ℕ) → moment_after start (take n entries) ≤ old) → old ≤ new
    → e.moment ≡ new → (n : ℕ) → moment_after start (take n (entries ++ e ∷ [])) ≤ new
past_more start old new [] e past later at_end zero = let first = past 0 in omega (arith, first, later)
past_more start old new [] e past later at_end (suc n) =
    subst (λ (l : List Entry). moment_after e.moment l ≤ new) (sym (take_all n [] (omega arith))) (omega (arith, at_end))
past_more start old new (d ∷ entries) e past later at_end zero = let first = past 0 in omega (arith, first, later)
past_more start old new (d ∷ entries) e past later at_end (suc n) = past_more d.moment old new entries e (λ m. past (suc m)) later at_end n

pub turns_keep_runs_safe : {D : Type 0} (images : D → Sides → Type 0) (moment : D → ℕ) (left_since : D → ℕ → Sides → Type 0)
    → TurnsKeepRunsSafe images moment left_since
unfolding SafeRun
turns_keep_runs_safe {D} images moment left_since old new run o entries e h next before after tells_old tells_new stood step follows turn at_end =
    let on : Reaches o (entries ++ e ∷ []) next = leads_on
    (opening_hall o.world o.logged) h next o.moment o.count false entries e stood.reached step follows in
    let all = entries_of (and_then run o entries) in
    let start = start_of (and_then run o entries) in
    let More = RunPasses (and_then run o (entries ++ e ∷ [])) in
    let last : RunPasses (and_then run o entries) (length all) h.world = last_passed run o entries h (length all)
    (ap length (entries-last run o entries)) stood.reached in
    let further : More (suc (length all)) next.world = last_passed run o (entries ++ e ∷ []) next (suc (length all))
    (omega (
      arith,
      ap length (entries-last run o entries),
      length-append (entries_of run) entries,
      length-append (entries_of run) (entries ++ e ∷ []),
      length-append entries (e ∷ []),
    )) on in
    let safe : IsSafe acknowledges left_since new start (all ++ e ∷ []) More = turn_safe images moment left_since old new start all e
    (RunPasses (and_then run o entries)) More h next before after tells_old tells_new stood.past stood.safe last stood.log turn at_end
    (λ m w few passes. more_passed run o entries e m w passes) further in
    record {
      reached = on;
      past = subst (λ (s : ℕ). (n : ℕ) → moment_after s (take n (entries_of (and_then run o (entries ++ e ∷ [])))) ≤ moment new)
          (start-more run o entries (entries ++ e ∷ []))
          (subst (λ (l : List Entry). (n : ℕ) → moment_after start (take n l) ≤ moment new) (sym (entries-more run o entries e))
          (past_more start (moment old) (moment new) all e stood.past
          (not_later images moment left_since old new h next before after e turn h.stopped refl) at_end));
      safe = subst (λ (s : ℕ). IsSafe acknowledges left_since new s (entries_of (and_then run o (entries ++ e ∷ []))) More)
          (start-more run o entries (entries ++ e ∷ []))
          (subst (λ (l : List Entry). IsSafe acknowledges left_since new start l More) (sym (entries-more run o entries e)) safe);
      log = keeps_log_on images moment left_since old new e.event e.outcome h next before after stood.log step turn;
    }

entries-then : (run : Run) (p : Opening) → entries_of (and_then run p []) ≡ entries_of run
entries-then run p = entries-last run p [] ∙ append-nil (entries_of run)

pub openings_keep_runs_safe : {D : Type 0} (images : D → Sides → Type 0) (moment : D → ℕ) (left_since : D → ℕ → Sides → Type 0)
    → OpeningsKeepRunsSafe images moment left_since
unfolding SafeRun
openings_keep_runs_safe {D} images moment left_since old new run o p entries h j stood is leaves holds =
    let one = and_then run o entries in
    let all = entries_of one in
    let start = start_of one in
    let last : RunPasses one (length all) p.world = subst (RunPasses one (length all)) is
    (last_passed run o entries h (length all) (ap length (entries-last run o entries)) stood.reached) in
    let safe : IsSafe acknowledges left_since new start all (RunPasses (and_then one p [])) = safe_stays images moment left_since old new start all
    (RunPasses one) (RunPasses (and_then one p [])) stood.past stood.safe
    (weaker moment left_since old new (λ c. Recovers c p.world) (RecoversPassed (RunPasses one) (acked_count acknowledges all) (length all))
    (λ c back. record {
      count = length all;
      at_least = acked_within acknowledges all;
      at_most = omega arith;
      world = p.world;
      passed = last;
      recovers = back;
    }) leaves)
    (λ m w few passes. then_passed one p m w passes) in
    record {
      reached = refl;
      past = subst (λ (s : ℕ). (n : ℕ) → moment_after s (take n (entries_of (and_then one p []))) ≤ moment new) (sym (start-then run o p entries))
          (subst (λ (l : List Entry). (n : ℕ) → moment_after start (take n l) ≤ moment new) (sym (entries-then one p))
          (λ n. let before = stood.past n in omega (arith, before, leaves.later)));
      safe = subst (λ (s : ℕ). IsSafe acknowledges left_since new s (entries_of (and_then one p [])) (RunPasses (and_then one p [])))
          (sym (start-then run o p entries))
          (subst (λ (l : List Entry). IsSafe acknowledges left_since new start l (RunPasses (and_then one p []))) (sym (entries-then one p)) safe);
      log = λ goes. record { world = refl; durable = holds };
    }
