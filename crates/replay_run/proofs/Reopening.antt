-- A disk is opened, retired, and opened again, and stays safe for all that was made.
use Rattle.std.proofs.Common.{◌≡◌, ◌≢◌, ◌≤◌, ◌⊎◌, ℕ, zero, suc, Bool, true, false, List, [], ◌∷◌, ◌++◌, length, take, refl, sym, ap, subst, ◌∙◌, arith, inl, inr, append_assoc}
use Rattle.std.specs.Prelude.{Option, None, Some, is_some, min}
use Rattle.std.proofs.lemmas.List.{take_all}
use Rattle.outside.specs.Causes.{most_count, Rose}
use Rattle.byte_text.specs.Names.{Bytes}
use Rattle.outside.specs.Sides.{Sides, IfTold, side_of, other_side}
use Rattle.outside.specs.declared.sides.Side.{Side}
use Rattle.outside.specs.Crashes.{LeavesOnly}
use Rattle.outside.specs.CrashLaws.{then, weaker}
use Rattle.world_data.specs.Sound.{IsSoundWorld}
use Rattle.world_data.specs.declared.worlds.World.{World}
use Rattle.world_model.specs.Halls.{Hall}
use Rattle.world_model.specs.Histories.{opening_hall, Step, answer, is_log_fault, acknowledges, acked_count, EndsWith}
use Rattle.world_model.specs.declared.events.CallOutcome.{CallOutcome}
use Rattle.world_model.specs.declared.events.CallOutcome.TheVariants as called
use Rattle.world_model.specs.declared.events.Event.TheVariants as event
use Rattle.world_model.specs.declared.events.Entry.{Entry}
use Rattle.world_model.specs.declared.events.Opening.{Opening}
use Rattle.journal.specs.Journals.{pending}
use Rattle.journal.specs.Keeping.{IsKept}
use Rattle.journal.specs.KeptLaws.{beside_holds}
use Rattle.journal.specs.Logs.{HoldsLog, IsBehind as LeavesInUse}
use Rattle.journal.specs.Standing.{stands_in}
use Rattle.log_rewrite.specs.declared.rewriters.Rewriter.{Rewriter}
use Rattle.log_sides.specs.Texts.{StandsFor, newest}
use Rattle.log_record.specs.AnswerLaws.{call_failed}
use Rattle.log_record.specs.Acknowledged.{acked_take}
use Rattle.log_record.specs.Journals.{Journal, TellsNow}
use Rattle.log_record.specs.Readings.{Damaged}
use Rattle.log_record.specs.Recovery.{Recovers, RecoversEither, Holds}
use Rattle.log_record.specs.RecoveryLaws.{one_world, recovered_is_whole}
use Rattle.log_record.specs.Safety.{Run, moment_after, RecoversPassed, IsSafe, Passes, entries_of, start_of, RunPasses, Safe, SafeRun}
use Rattle.log_record.specs.SafetyLaws.{passed_still, committed_passed}
use Rattle.log_record.specs.Runs.{and_then, RunStood}
use Rattle.log_record.specs.RunLaws.{openings_keep_runs_safe}
use Rattle.world_recovery.specs.BatchesHeld.{held_recovers}
use Rattle.world_recovery.specs.Recorded.{world_in}
use Rattle.durable_core.specs.Kept.{settled_log}
use Rattle.durable_core.specs.Histories.{writing_of}
use Rattle.durable_core.specs.HistoryLaws.{writing_is}
use Rattle.durable_core.specs.Logged.{hall_of, disk_of, generation_of, IsLogOf, KeepsLogOf, GoesOn}
use Rattle.durable_core.specs.Upgrading.{upgraded}
use Rattle.durable_core.specs.declared.rewritings.Rewriting.TheVariants.{Idle}
use Rattle.durable_core.specs.Opened.{IsLeftByStart, IsOpening}
use Rattle.durable_core.specs.Written.{IsMirrored, KeepsSided, Sided, sided_with}
use Rattle.durable_core.specs.declared.cores.DurableCore.{DurableCore}
use Rattle.journal.specs.Openings.{opened_generation, opened_version}
use Rattle.journal.specs.declared.openings.OpenFault.{OpenFault}
use Rattle.journal.specs.declared.openings.OpenFault.TheVariants as fault_of
use Rattle.replay_run.specs.declared.halts.Halt.TheVariants as halted
use Rattle.replay_run.specs.declared.readers.Reader.{Reader}
use Rattle.replay_run.specs.Checks.{HasGeneration, IsLookedAt}
use Rattle.replay_run.specs.HandedBack.{HoldsWorld}
use Rattle.replay_run.specs.Scripts.{Reopens}
use Rattle.replay_run.specs.Undone.{halt_at, ReopenFails}
use Rattle.replay_run.specs.HaltLaws.{unspent_at, damaged_at}
use Rattle.replay_run.specs.Traces.{Deed, opens, does}
use Rattle.replay_run.specs.Standing.{IsSafeFor, IsBehind, StandsBehind, StaysSafe, Logs}
use Rattle.replay_run.proofs.Playing.{not_ok}
use Rattle.replay_run.proofs.Standing.{one_more, one_last, safe_for, after_all, deeds_then, run_then, counted_later}

none_taken : (n : ℕ) (start : ℕ) → moment_after start (take n []) ≡ start
none_taken zero start = refl
none_taken (suc n) start = refl

-- what a disk tells
pub some_of : (o : Option Sides) → is_some o ≡ true → (s : Sides) × (o ≡ Some s)
some_of None e = absurd (cc)
some_of (Some s) e = (s, refl)

-- a disk that holds a world, told of what is the same
pub held_as : {D : Type 0} (seen : D → Option Sides) (disk left : D) (v w : World) → disk ≡ left → v ≡ w → HoldsWorld (seen disk) v → HoldsWorld (seen left) w
held_as {D} seen disk left v w same is holds = subst (λ (z : World). HoldsWorld (seen left) z) is (subst (λ (d : D). HoldsWorld (seen d) v) same holds)

-- the side in use of what a journal keeps has the journal's generation
kept_generation : (crashes : Bool) (seen : Option Sides) (images : Sides → Type 0) (side : Side) (v g gate : ℕ) (r : Option Rewriter) (batches copied : List Bytes) → IsKept crashes seen images side v g gate r batches copied → HasGeneration crashes seen images g
kept_generation crashes seen images side v g gate r batches copied kept =
    let safe = kept.log.safe in
    let held = beside_holds crashes seen images side g r copied kept.beside in
    let here = safe.told in
    let there = held.now.told in
    let beside : held.now.contents ≡ safe.contents = cc in
    record {
      sides = safe.contents;
      told = safe.told;
      now = (side, v, batches, stands_in safe.contents side v g batches safe.has (subst (λ (x : Sides). LeavesInUse g (side_of x (other_side side))) beside held.now.has));
      each = λ told c image. (side, v, batches, stands_in c side v g batches (subst (StandsFor v g batches) (sym (safe.settled told c image)) safe.has) (held.each told c image));
    }

-- so has it behind a retirement
pub generation_left : {D : Type 0} (crashes : D → Bool) (seen : D → Option Sides) (images : D → Sides → Type 0) (old mid : DurableCore D) (disk : D) (generation : ℕ) (s : Sided) → KeepsSided crashes seen images old.tail.journal s
    → IsMirrored crashes seen images old.tail.journal mid.tail.journal → generation ≡ generation_of old → generation_of mid ≡ generation_of old → disk ≡ disk_of mid → HasGeneration (crashes disk) (seen disk) (images disk) generation
generation_left {D} crashes seen images old mid disk generation s kept written counted same is = subst (λ (d : D). HasGeneration (crashes d) (seen d) (images d) generation) (sym is) (by_sides (written s kept))
  where
    stands : (t : Sided) → KeepsSided crashes seen images mid.tail.journal t → HasGeneration (crashes (disk_of mid)) (seen (disk_of mid)) (images (disk_of mid)) generation
    stands t k =
        let j = mid.tail.journal in
        subst (λ (n : ℕ). HasGeneration (crashes j.disk) (seen j.disk) (images j.disk) n) (same ∙ sym counted)
        (kept_generation (crashes j.disk) (seen j.disk) (images j.disk) j.log.side j.log.version j.log.generation j.log.gate j.rewriter t.batches t.copied k)

    by_sides : KeepsSided crashes seen images mid.tail.journal s ⊎ KeepsSided crashes seen images mid.tail.journal (sided_with (pending old.tail.journal) s) → HasGeneration (crashes (disk_of mid)) (seen (disk_of mid)) (images (disk_of mid)) generation
    by_sides (inl k) = stands s k
    by_sides (inr k) = stands (sided_with (pending old.tail.journal) s) k

-- a disk that is safe for a history without entries is safe for a run of it
safe_first : {D : Type 0} (left_since : D → ℕ → Sides → Type 0) (disk : D) (o p : Opening) → p.moment ≡ o.moment → p.world ≡ o.world → Safe left_since disk o [] → SafeRun left_since disk ((p, []) ∷ [])
unfolding Safe SafeRun
safe_first left_since disk o p moment world safe n few c left = by_count found found.count refl
  where
    since : left_since disk (moment_after o.moment (take n [])) c
    since = subst (λ (t : ℕ). left_since disk t c) (none_taken n p.moment ∙ moment ∙ sym (none_taken n o.moment)) left

    found : RecoversPassed (Passes o []) (acked_count acknowledges (take n [])) 0 c
    found = safe n few c since

    by_count : (f : RecoversPassed (Passes o []) (acked_count acknowledges (take n [])) 0 c) (k : ℕ) → f.count ≡ k → RecoversPassed (RunPasses ((p, []) ∷ [])) (acked_count acknowledges (take n [])) 0 c
    by_count f k is = record {
      count = 0;
      at_least = let least = f.at_least in let most = f.at_most in omega (arith, least, most);
      at_most = omega arith;
      world = p.world;
      passed = inl (omega arith, (opening_hall p.world p.logged, refl, refl));
      recovers = subst (λ (w : World). Recovers c w) (passed_is f.count f.world f.at_most f.passed ∙ sym world) f.recovers;
    }
      where
        passed_is : (m : ℕ) (w : World) → m ≤ 0 → Passes o [] m w → w ≡ o.world
        passed_is zero w few q = sym q.2 ∙ ap (λ (h : Hall). h.world) q.1
        passed_is (suc m) w few q = absurd (omega (arith, few))

module _ {D : Type 0} (crashes : D → Bool) (seen : D → Option Sides) (images : D → Sides → Type 0) (moment : D → ℕ) (left_since : D → ℕ → Sides → Type 0) (faults : D → ℕ) where
  -- the opening of a core
  abbrev opened_at : DurableCore D → ℕ → Opening
  opened_at core at = record { world = (hall_of core).world; logged = (hall_of core).logged; moment = at; count = min (faults (disk_of core)) most_count }

  pub opening_stands : (core : DurableCore D) (earlier count : ℕ) → IsOpening images moment left_since earlier count core → hall_of core ≡ opening_hall (hall_of core).world (hall_of core).logged → IsSoundWorld (hall_of core).world
      → IsLogOf crashes seen images core (settled_log (hall_of core).world) → crashes (disk_of core) ≡ true
      → StandsBehind crashes seen images moment left_since faults core (opens (hall_of core).world (hall_of core).logged ∷ [])
  opening_stands core earlier count at first sound log told =
      let o = opened_at core at.opening.moment in
      record {
        behind = record {
          run = [];
          opening = o;
          entries = [];
          log = settled_log (hall_of core).world;
          shows = refl;
          is_run = record { opening = sound; hall = opening_hall o.world o.logged; reached = refl };
          stood = record {
            reached = first;
            past = λ n. let is = none_taken n o.moment in let past = at.stood.past in omega (arith, is, past);
            safe = safe_first left_since (disk_of core) at.opening o refl (sym at.world) at.stood.safe;
            log = at.stood.log;
          };
          past = at.stood.past;
          counted = omega arith;
        };
        kept = λ goes. log;
        within = refl;
        told = told;
      }

  -- where each image is recovered as a world, so is what an opening leaves
  leaves_world : (old new : D) (s : Sides) (w : World) → images old s → ((c : Sides) → images old c → Recovers c w) → ((c : Sides) → HoldsLog newest [] c → Recovers c (world_in newest []))
      → LeavesOnly moment left_since old new (IsLeftByStart (images old) s) → LeavesOnly moment left_since old new (λ c. Recovers c w)
  leaves_world old new s w now each held leaves = weaker moment left_since old new (IsLeftByStart (images old) s) (λ c. Recovers c w) by_left leaves
    where
      by_left : (c : Sides) → IsLeftByStart (images old) s c → Recovers c w
      by_left c (inl (inl before)) = each c before
      by_left c (inl (inr fresh)) =
          let empty : w ≡ world_in newest [] = one_world s w (world_in newest []) (each s now) (held s (inr (fresh.0, refl, refl))) in
          subst (λ (v : World). Recovers c v) (sym empty) (held c fresh.1)
      by_left c (inr (old, (v, before, after))) = subst (λ (x : World). Recovers c x) (sym (one_world s w v (each s now) before)) after

  -- over an opening and a retirement without pending changes, a crash leaves what it might have left before, or a log of the world
  pub look_leaves : (old mid new : D) (s : Sides) (w : World) → Recovers s w → LeavesOnly moment left_since old mid (IsLeftByStart (images old) s) → LeavesOnly moment left_since mid new (RecoversEither w w)
      → LeavesOnly moment left_since old new (λ c. images old c ⊎ Recovers c w)
  look_leaves old mid new s w before opened retired = then moment left_since old mid new (λ c. images old c ⊎ Recovers c w)
      (weaker moment left_since old mid (IsLeftByStart (images old) s) (λ c. images old c ⊎ Recovers c w) by_opening opened)
      (weaker moment left_since mid new (RecoversEither w w) (λ c. images old c ⊎ Recovers c w) by_retirement retired)
    where
      by_opening : (c : Sides) → IsLeftByStart (images old) s c → images old c ⊎ Recovers c w
      by_opening c (inl (inl image)) = inl image
      by_opening c (inl (inr fresh)) =
          let empty : w ≡ world_in newest [] = one_world s w (world_in newest []) before (held_recovers newest [] s tt (inr (fresh.0, refl, refl))) in
          inr (subst (λ (v : World). Recovers c v) (sym empty) (held_recovers newest [] c tt fresh.1))
      by_opening c (inr (old, (v, read, after))) = inr (subst (λ (x : World). Recovers c x) (sym (one_world s w v before read)) after)

      by_retirement : (c : Sides) → RecoversEither w w c → images old c ⊎ Recovers c w
      by_retirement c (inl now) = inr now
      by_retirement c (inr now) = inr now

  -- time goes on without an entry, and leaves the world of now
  safe_still : (old new : D) (start : ℕ) (entries : List Entry) (Worlds : ℕ → World → Type 0) (w : World) → ((t : ℕ) (c : Sides) → t ≤ moment old → images old c → left_since old t c)
      → ((n : ℕ) → moment_after start (take n entries) ≤ moment old) → Holds (images old) w → LeavesOnly moment left_since old new (λ c. Recovers c w) → IsSafe acknowledges left_since old start entries Worlds → IsSafe acknowledges left_since new start entries Worlds
  safe_still old new start entries Worlds w counts past holds leaves safe n few c left = by_left (leaves.either (moment_after start (take n entries)) c (past n) left)
    where
      all_past : moment_after start entries ≤ moment old
      all_past = subst (λ (l : List Entry). moment_after start l ≤ moment old) (take_all (length entries) entries (omega arith)) (past (length entries))

      by_left : left_since old (moment_after start (take n entries)) c ⊎ Recovers c w → RecoversPassed Worlds (acked_count acknowledges (take n entries)) (length entries) c
      by_left (inl before) = safe n few c before
      by_left (inr now) =
          let found = committed_passed images moment left_since old start entries Worlds w counts safe all_past holds in
          passed_still Worlds Worlds (acked_count acknowledges entries) (acked_count acknowledges (take n entries)) (length entries) (length entries) c (acked_take acknowledges n entries) (omega arith) (λ m v le x. x)
          (record { count = found.0; at_least = found.1; at_most = found.2; world = w; passed = found.3; recovers = now })

  run_still : (old new : D) (run : Run) (w : World) → ((t : ℕ) (c : Sides) → t ≤ moment old → images old c → left_since old t c)
      → ((n : ℕ) → moment_after (start_of run) (take n (entries_of run)) ≤ moment old) → Holds (images old) w → LeavesOnly moment left_since old new (λ c. Recovers c w) → SafeRun left_since old run → SafeRun left_since new run
  unfolding SafeRun
  run_still old new run w counts past holds leaves safe = safe_still old new (start_of run) (entries_of run) (RunPasses run) w counts past holds leaves safe

  -- so are the images that are left then
  image_still : (old new : D) (w : World) → TellsNow images moment left_since old → TellsNow images moment left_since new → ((c : Sides) → images old c → Recovers c w)
      → LeavesOnly moment left_since old new (λ c. Recovers c w) → (c : Sides) → images new c → Recovers c w
  image_still old new w tells_old tells_new each leaves c image = by_left (leaves.either (moment old) c (omega arith) (tells_new.counts_now (moment old) c leaves.later image))
    where
      by_left : left_since old (moment old) c ⊎ Recovers c w → Recovers c w
      by_left (inl before) = each c (tells_old.only_now c before)
      by_left (inr now) = now

  pub stands_still : (old new : D) (h : Hall) (deeds : List Deed) (s : Sides) → ((d : D) → TellsNow images moment left_since d) → images old s → ((c : Sides) → images old c → Recovers c h.world) → ((c : Sides) → HoldsLog newest [] c → Recovers c (world_in newest []))
      → LeavesOnly moment left_since old new (IsLeftByStart (images old) s) → IsBehind images moment left_since faults old h deeds → IsSafeFor images left_since new deeds
  stands_still old new h deeds s tells now each held leaves b =
      let gone = leaves_world old new s h.world now each held leaves in
      record {
        run = and_then b.run b.opening b.entries;
        is_run = b.is_run;
        shows = b.shows;
        safe = run_still old new (and_then b.run b.opening b.entries) h.world (tells old).counts_now b.stood.past (record { some = (s, now); each = each }) gone b.stood.safe;
        settled = λ before ends c image. after_all crashes seen images moment left_since faults old h deeds b c (image_still old new h.world (tells old) (tells new) each gone c image);
      }

module _ {D : Type 0} (crashes : D → Bool) (seen : D → Option Sides) (images : D → Sides → Type 0) (moment : D → ℕ) (left_since : D → ℕ → Sides → Type 0) (faults : D → ℕ) (tells : (d : D) → TellsNow images moment left_since d) where
  -- a core is retired
  unfoldable pub retires_behind : (old mid : DurableCore D) (c : CallOutcome) (before : List Deed) → StandsBehind crashes seen images moment left_since faults old before → Step (hall_of old) event.Retire (answer c) (hall_of mid)
      → faults (disk_of old) ≤ faults (disk_of mid) → (is_log_fault (answer c) ≡ true → Rose (faults (disk_of old)) (faults (disk_of mid)))
      → ((j : Journal) → KeepsLogOf crashes seen images old j → GoesOn crashes seen images moment left_since old mid event.Retire (answer c) j)
      → IsBehind images moment left_since faults (disk_of mid) (hall_of mid) (before ++ does event.Retire (answer c) ∷ [])
  retires_behind old mid c before s step later cause log =
      let went = log s.behind.log s.kept in
      one_more crashes seen images moment left_since faults tells (disk_of old) (disk_of mid) (hall_of old) (hall_of mid) went.after event.Retire (answer c) before s.behind s.within step later cause (went.owes s.told).turn

  retires_entries : (old mid : DurableCore D) (c : CallOutcome) (before : List Deed) (s : StandsBehind crashes seen images moment left_since faults old before) (step : Step (hall_of old) event.Retire (answer c) (hall_of mid))
      → (later : faults (disk_of old) ≤ faults (disk_of mid)) → (cause : is_log_fault (answer c) ≡ true → Rose (faults (disk_of old)) (faults (disk_of mid)))
      → (log : (j : Journal) → KeepsLogOf crashes seen images old j → GoesOn crashes seen images moment left_since old mid event.Retire (answer c) j)
      → (retires_behind old mid c before s step later cause log).entries ≡ s.behind.entries ++ record { event = event.Retire; outcome = answer c; note = []; moment = moment (disk_of mid); count = min (faults (disk_of mid)) most_count } ∷ []
  unfolding retires_behind one_more
  retires_entries old mid c before s step later cause log = refl

  -- what a retirement that was answered Ok leaves behind: all images have the hall's world
  pub shown_world : (old mid : DurableCore D) (before : List Deed) → StandsBehind crashes seen images moment left_since faults old before
      → ((j : Journal) → KeepsLogOf crashes seen images old j → GoesOn crashes seen images moment left_since old mid event.Retire (answer called.Ok) j)
      → (c : Sides) → images (disk_of mid) c → Recovers c (hall_of mid).world
  shown_world old mid before s log = ((log s.behind.log s.kept).owes s.told).turn.shown refl

  answered_ok : (c : CallOutcome) → does event.Retire (answer c) ≡ does event.Retire (answer called.Ok) → c ≡ called.Ok
  answered_ok c same = cc

  -- and so is its disk safe
  pub retires_safe : (old mid : DurableCore D) (c : CallOutcome) (before : List Deed) → StandsBehind crashes seen images moment left_since faults old before → Step (hall_of old) event.Retire (answer c) (hall_of mid)
      → faults (disk_of old) ≤ faults (disk_of mid) → (is_log_fault (answer c) ≡ true → Rose (faults (disk_of old)) (faults (disk_of mid)))
      → ((j : Journal) → KeepsLogOf crashes seen images old j → GoesOn crashes seen images moment left_since old mid event.Retire (answer c) j)
      → IsSafeFor images left_since (disk_of mid) (before ++ does event.Retire (answer c) ∷ [])
  retires_safe old mid c before s step later cause log = safe_for crashes seen images moment left_since faults (disk_of mid) (hall_of mid) (before ++ does event.Retire (answer c) ∷ []) (retires_behind old mid c before s step later cause log)
      (λ others same. shown_world old mid before s
      (subst (λ (z : CallOutcome). (j : Journal) → KeepsLogOf crashes seen images old j → GoesOn crashes seen images moment left_since old mid event.Retire (answer z) j)
      (answered_ok c (one_last before others (does event.Retire (answer c)) (does event.Retire (answer called.Ok)) same)) log))

  -- it is opened again
  pub reopens_stand : (old mid new : DurableCore D) (before : List Deed) (s : Sides) (earlier count : ℕ) → StandsBehind crashes seen images moment left_since faults old before → Step (hall_of old) event.Retire (answer called.Ok) (hall_of mid)
      → faults (disk_of old) ≤ faults (disk_of mid)
      → ((j : Journal) → KeepsLogOf crashes seen images old j → GoesOn crashes seen images moment left_since old mid event.Retire (answer called.Ok) j)
      → images (disk_of mid) s → ((c : Sides) → HoldsLog newest [] c → Recovers c (world_in newest [])) → LeavesOnly moment left_since (disk_of mid) (disk_of new) (IsLeftByStart (images (disk_of mid)) s)
      → faults (disk_of mid) ≤ faults (disk_of new) → (hall_of mid).world ≡ (hall_of new).world → earlier ≡ moment (disk_of mid) → IsOpening images moment left_since earlier count new
      → hall_of new ≡ opening_hall (hall_of new).world (hall_of new).logged → IsSoundWorld (hall_of new).world → IsLogOf crashes seen images new (settled_log (hall_of new).world) → crashes (disk_of new) ≡ true
      → StandsBehind crashes seen images moment left_since faults new (before ++ does event.Retire (answer called.Ok) ∷ opens (hall_of new).world (hall_of new).logged ∷ [])
  reopens_stand old mid new before sides earlier count s step later log now held leaves not_fallen same from at first sound of told =
      let fine : is_log_fault (answer called.Ok) ≡ true → Rose (faults (disk_of old)) (faults (disk_of mid)) = λ e. absurd (cc) in
      let b = retires_behind old mid called.Ok before s step later fine log in
      let o = opened_at crashes seen images moment left_since faults new at.opening.moment in
      let begun : moment (disk_of mid) ≤ at.opening.moment = subst (λ (t : ℕ). t ≤ at.opening.moment) from at.begun in
      let ends : EndsWith b.opening b.entries o.world o.moment o.count = record {
        before = s.behind.entries;
        last = record { event = event.Retire; outcome = answer called.Ok; note = []; moment = moment (disk_of mid); count = min (faults (disk_of mid)) most_count };
        hall = hall_of mid;
        entries_are = retires_entries old mid called.Ok before s step later fine log;
        retired = refl;
        fine = refl;
        reached = b.stood.reached;
        world_is = same;
        later = begun;
        not_fallen = counted_later (faults (disk_of mid)) (faults (disk_of new)) not_fallen;
      } in
      let left = leaves_world crashes seen images moment left_since faults (disk_of mid) (disk_of new) sides (hall_of mid).world now (shown_world old mid before s log) held leaves in
      let left_new : LeavesOnly moment left_since (disk_of mid) (disk_of new) (λ c. Recovers c o.world) = subst (λ (w : World). LeavesOnly moment left_since (disk_of mid) (disk_of new) (λ c. Recovers c w)) same left in
      let goes : (hall_of new).stopped ≡ false = ap (λ (h : Hall). h.stopped) first in
      let stood = openings_keep_runs_safe images moment left_since (disk_of mid) (disk_of new) b.run b.opening o b.entries (hall_of mid) b.log b.stood same left_new (at.stood.log goes).durable in
      record {
        behind = record {
          run = and_then b.run b.opening b.entries;
          opening = o;
          entries = [];
          log = settled_log (hall_of new).world;
          shows = deeds_then b.run b.opening o b.entries ∙ ap (λ (z : List Deed). z ++ opens o.world o.logged ∷ []) b.shows ∙ append_assoc before (does event.Retire (answer called.Ok) ∷ []) (opens o.world o.logged ∷ []);
          is_run = run_then b.run b.opening o b.entries b.is_run ends (record { opening = sound; hall = opening_hall o.world o.logged; reached = refl });
          stood = subst (λ (h : Hall). RunStood images moment left_since (disk_of new) (and_then b.run b.opening b.entries) o [] h (settled_log (hall_of new).world)) (sym first) stood;
          past = at.stood.past;
          counted = omega arith;
        };
        kept = λ goes. of;
        within = refl;
        told = told;
      }

  -- a retirement at which the log failed
  pub unretired : (old mid : DurableCore D) (disk : D) (readers : List Reader) (c : CallOutcome) → disk ≡ disk_of mid → c ≢ called.Ok → (hall_of old).stopped ≡ false → Step (hall_of old) event.Retire (answer c) (hall_of mid) → (hall_of mid).stopped ≡ true
      → faults (disk_of old) ≤ faults (disk_of mid) → (c ≡ called.LogFault → Rose (faults (disk_of old)) (faults (disk_of mid)))
      → ((j : Journal) → KeepsLogOf crashes seen images old j → GoesOn crashes seen images moment left_since old mid event.Retire (answer c) j)
      → (deeds : List Deed) × (last : Hall) × ((told : Bool) → (told ≡ true → Logs crashes seen images old) → ReopenFails told halted.DiskFault (record { hall = hall_of old; readers = readers }) deeds last) × (last.stopped ≡ true)
      × ((before : List Deed) → StandsBehind crashes seen images moment left_since faults old before → IsSafeFor images left_since disk (before ++ deeds))
  unretired old mid disk readers c is apart goes step stops later cause log =
      let failed : c ≡ called.LogFault = not_ok (hall_of old) (hall_of mid) c goes step apart in (
        does event.Retire (answer c) ∷ [],
        hall_of mid,
        λ told logs. inl (subst (λ (z : CallOutcome). Step (hall_of old) event.Retire (answer z) (hall_of mid)) failed step, ap (λ (z : CallOutcome). does event.Retire (answer z) ∷ []) failed),
        stops,
        λ before s. subst (λ (d : D). IsSafeFor images left_since d (before ++ does event.Retire (answer c) ∷ [])) (sym is) (retires_safe old mid c before s step later (λ f. cause (call_failed c f)) log),
      )

  -- what a core that was retired leaves behind: sides that are recovered as its world
  abbrev LeftBy : DurableCore D → DurableCore D → Type 0
  LeftBy old mid = (j : Journal) → KeepsLogOf crashes seen images old j → called.Ok ≡ called.Ok → (s : Sides) × (seen (disk_of mid) ≡ Some s) × Recovers s (hall_of mid).world

  -- a disk that was not opened again
  pub unopened_again : (old mid : DurableCore D) (disk new : D) (readers : List Reader) (why : OpenFault) → disk ≡ disk_of mid → Step (hall_of old) event.Retire (answer called.Ok) (hall_of mid) → (hall_of mid).stopped ≡ true
      → faults (disk_of old) ≤ faults (disk_of mid) → crashes (disk_of mid) ≡ crashes (disk_of old)
      → ((j : Journal) → KeepsLogOf crashes seen images old j → GoesOn crashes seen images moment left_since old mid event.Retire (answer called.Ok) j) → LeftBy old mid
      → ((d : D) → IfTold (seen d) (images d)) → ((c : Sides) → HoldsLog newest [] c → Recovers c (world_in newest []))
      → ((s : Sides) → seen disk ≡ Some s → crashes disk ≡ true → LeavesOnly moment left_since disk new (IsLeftByStart (images disk) s))
      → ((s : Sides) → seen disk ≡ Some s → (side : Side) (place : ℕ) → why ≡ fault_of.Damaged side place → Damaged s side place)
      → (deeds : List Deed) × (last : Hall) × ((told : Bool) → (told ≡ true → Logs crashes seen images old) → ReopenFails told (halt_at why) (record { hall = hall_of old; readers = readers }) deeds last) × (last.stopped ≡ true)
      × ((before : List Deed) → StandsBehind crashes seen images moment left_since faults old before → IsSafeFor images left_since new (before ++ deeds))
  unopened_again old mid disk new readers why is step stops later told log left as_read held leaves damaged = (
    does event.Retire (answer called.Ok) ∷ [],
    hall_of mid,
    λ told logs. inr (inl (unspent_at why, whole told logs, step, refl)),
    stops,
    λ before s.
        let l = left s.behind.log s.kept refl in
        let here : images (disk_of mid) l.0 = subst (λ (o : Option Sides). IfTold o (images (disk_of mid))) l.1 (as_read (disk_of mid)) in
        let gone = leaves l.0 (ap seen is ∙ l.1) (ap crashes is ∙ told ∙ s.told) in
        let from_mid = subst (λ (d : D). LeavesOnly moment left_since d new (IsLeftByStart (images d) l.0)) is gone in
        stands_still crashes seen images moment left_since faults (disk_of mid) new (hall_of mid) (before ++ does event.Retire (answer called.Ok) ∷ []) l.0 tells here (shown_world old mid before s log) held from_mid
        (retires_behind old mid called.Ok before s step later (λ e. absurd (cc)) log),
  )
    where
      -- what a retirement left is recovered, and so it is not damaged
      whole : (told : Bool) → (told ≡ true → Logs crashes seen images old)
          → told ≡ true → (side : Side) (place : ℕ) → halt_at why ≢ halted.Damaged side place
      whole told logs e side place is_it =
          let j = logs e in
          let l = left j.0 j.1 refl in
          recovered_is_whole l.0 (hall_of mid).world side place l.2 (damaged l.0 (ap seen is ∙ l.1) side place (damaged_at why side place is_it))

  -- a disk that was opened again
  pub opened_again : (old mid new : DurableCore D) (disk : D) (readers : List Reader) → disk ≡ disk_of mid → Step (hall_of old) event.Retire (answer called.Ok) (hall_of mid)
      → faults (disk_of old) ≤ faults (disk_of mid) → crashes (disk_of mid) ≡ crashes (disk_of old)
      → ((j : Journal) → KeepsLogOf crashes seen images old j → GoesOn crashes seen images moment left_since old mid event.Retire (answer called.Ok) j) → LeftBy old mid
      → ((d : D) → IfTold (seen d) (images d)) → ((c : Sides) → HoldsLog newest [] c → Recovers c (world_in newest []))
      → ((s : Sides) → seen disk ≡ Some s → crashes disk ≡ true → LeavesOnly moment left_since disk (disk_of new) (IsLeftByStart (images disk) s))
      → hall_of new ≡ opening_hall (hall_of new).world (hall_of new).logged → IsSoundWorld (hall_of new).world → ((s : Sides) → seen disk ≡ Some s → Recovers s (hall_of new).world)
      → ((s : Sides) → seen disk ≡ Some s → IsLogOf crashes seen images new (settled_log (hall_of new).world))
      → ((s : Sides) → seen disk ≡ Some s → crashes disk ≡ true → IsOpening images moment left_since (moment disk) (faults (disk_of new)) new)
      → crashes (disk_of new) ≡ crashes disk → faults disk ≤ faults (disk_of new)
      → writing_of mid ≡ writing_of old
      → ((j : Journal) → KeepsLogOf crashes seen images old j → called.Ok ≡ called.Ok → (s : Sides) → seen (disk_of mid) ≡ Some s → opened_generation s ≡ generation_of mid)
      → new.tail.rewriting ≡ Idle → ((s : Sides) → seen disk ≡ Some s → generation_of new ≡ upgraded (opened_version s) (opened_generation s))
      → (deeds : List Deed) × ((told : Bool) → (told ≡ true → Logs crashes seen images old) → Reopens told (record { hall = hall_of old; readers = readers }) deeds (record { hall = hall_of new; readers = [] }))
      × StaysSafe crashes seen images moment left_since faults old new deeds
  opened_again old mid new disk readers is step later told log left as_read held leaves first sound recovers logged opened told_new not_fallen kept found idle at = (
    does event.Retire (answer called.Ok) ∷ opens (hall_of new).world (hall_of new).logged ∷ [],
    λ keeps logs. record {
      left = hall_of mid;
      retired = step;
      world = (hall_of new).world;
      logged = (hall_of new).logged;
      sound = sound;
      same = λ e.
          let j = logs e in
          let l = left j.0 j.1 refl in
          one_world l.0 (hall_of new).world (hall_of mid).world (recovers l.0 (ap seen is ∙ l.1)) l.2;
      begins = ap (λ (h : Hall). record { hall = h; readers = [] }) first;
      made = refl;
    },
    record {
      rewrites = λ j.
          let l = left j.0 j.1 refl in
          let same : opened_generation l.0 ≡ generation_of mid = found j.0 j.1 refl l.0 l.1 in (
            hall_of mid,
            writing_of mid,
            step,
            λ _. kept,
            (opened_version l.0, (first, writing_is new _ _ idle (at l.0 (ap seen is ∙ l.1) ∙ ap (λ (g : ℕ). upgraded (opened_version l.0) g) same))),
          );
      logs = λ j. let l = left j.0 j.1 refl in (settled_log (hall_of new).world, λ goes. logged l.0 (ap seen is ∙ l.1));
      stands = λ before s.
          let l = left s.behind.log s.kept refl in
          let tells_it : seen disk ≡ Some l.0 = ap seen is ∙ l.1 in
          let crash : crashes disk ≡ true = ap crashes is ∙ told ∙ s.told in
          let here : images (disk_of mid) l.0 = subst (λ (o : Option Sides). IfTold o (images (disk_of mid))) l.1 (as_read (disk_of mid)) in
          let from_mid = subst (λ (d : D). LeavesOnly moment left_since d (disk_of new) (IsLeftByStart (images d) l.0)) is (leaves l.0 tells_it crash) in
          let world : (hall_of mid).world ≡ (hall_of new).world = one_world l.0 (hall_of mid).world (hall_of new).world l.2 (recovers l.0 tells_it) in
          let more : faults (disk_of mid) ≤ faults (disk_of new) = subst (λ (d : D). faults d ≤ faults (disk_of new)) is not_fallen in
          reopens_stand old mid new before l.0 (moment disk) (faults (disk_of new)) s step later log here held from_mid more world (ap moment is) (opened l.0 tells_it crash) first sound (logged l.0 tells_it) (told_new ∙ crash);
    },
  )
