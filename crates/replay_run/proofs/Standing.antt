-- A disk stays safe over the calls of a core, for a run that shows all that was made.
use Rattle.std.proofs.Common.{◌≡◌, ◌≤◌, ◌<◌, ◌^◌, ◌+◌, ◌-◌, ◌⊎◌, ◌||◌, ℕ, Bool, true, false, List, [], ◌∷◌, ◌++◌, length, refl, sym, ap, subst, ◌∙◌, arith, inl, inr, append_assoc, length-append}
use Rattle.std.specs.Prelude.{Option, min, nat_lt}
use Rattle.std.proofs.lemmas.Bool.{ltb-true, ltb-false}
use Rattle.std.proofs.lemmas.List.{append-nil}
use Rattle.std.proofs.Math.Nat.{min-le_left, min-le_right, le-min, min-eq_left, min-eq_right}
use Rattle.outside.specs.Causes.{most_count, Rose}
use Rattle.outside.specs.Crashes.{EachImage}
use Rattle.outside.specs.Sides.{Sides}
use Rattle.world_model.specs.Halls.{Hall}
use Rattle.world_model.specs.Histories.{opening_hall, Step, Reaches, gives_disk, is_log_fault, answer, IsLegal, EndsWith, IsRun}
use Rattle.world_model.specs.declared.events.CallOutcome.TheVariants as called
use Rattle.world_model.specs.declared.events.Event.{Event}
use Rattle.world_model.specs.declared.events.Event.TheVariants.{Enter, Call, Take, Tick, Close, Remove, Rewrite, Retire}
use Rattle.world_model.specs.declared.events.Outcome.{Outcome}
use Rattle.world_model.specs.declared.events.Entry.{Entry}
use Rattle.world_model.specs.declared.events.Opening.{Opening}
use Rattle.log_record.specs.Journals.{Journal, Turn, TellsNow, is_retire}
use Rattle.log_record.specs.Recovery.{Recovers}
use Rattle.log_record.specs.Safety.{Run, moment_after, count_after, out_after, entries_of, RecoversPassed, RunPasses, ComesNext}
use Rattle.log_record.specs.Runs.{and_then}
use Rattle.log_record.specs.RunLaws.{turns_keep_runs_safe}
use Rattle.log_record.specs.LeadingLaws.{leads_on, passes_all}
use Rattle.log_record.specs.Acknowledged.{moment_last, count_last}
use Rattle.durable_core.specs.Histories.{Writing, is_failed_step, writing_of, written}
use Rattle.durable_core.specs.Logged.{hall_of, disk_of, KeepsLogOf, GoesOn}
use Rattle.durable_core.specs.declared.cores.DurableCore.{DurableCore}
use Rattle.replay_run.specs.Traces.{Deed, opens, does, done_by, deeds_of}
use Rattle.replay_run.specs.Rewritings.{Rewrites}
use Rattle.replay_run.specs.Standing.{IsSafeFor, IsBehind, StandsBehind, StaysSafe}

-- what a run shows

done_more : (entries : List Entry) (e : Entry) → done_by (entries ++ e ∷ []) ≡ done_by entries ++ does e.event e.outcome ∷ []
done_more [] e = refl
done_more (d ∷ entries) e = ap (λ (z : List Deed). does d.event d.outcome ∷ z) (done_more entries e)

pub deeds_more : (run : Run) (o : Opening) (entries : List Entry) (e : Entry) → deeds_of (and_then run o (entries ++ e ∷ [])) ≡ deeds_of (and_then run o entries) ++ does e.event e.outcome ∷ []
deeds_more [] o entries e = ap (λ (z : List Deed). opens o.world o.logged ∷ z)
    (append-nil (done_by (entries ++ e ∷ [])) ∙ done_more entries e ∙ ap (λ (z : List Deed). z ++ does e.event e.outcome ∷ []) (sym (append-nil (done_by entries))))
deeds_more ((q, es) ∷ run) o entries e = ap (λ (z : List Deed). opens q.world q.logged ∷ z)
    (ap (λ (z : List Deed). done_by es ++ z) (deeds_more run o entries e) ∙ sym (append_assoc (done_by es) (deeds_of (and_then run o entries)) (does e.event e.outcome ∷ [])))

pub deeds_then : (run : Run) (o p : Opening) (entries : List Entry) → deeds_of (and_then (and_then run o entries) p []) ≡ deeds_of (and_then run o entries) ++ opens p.world p.logged ∷ []
deeds_then [] o p entries = ap (λ (z : List Deed). opens o.world o.logged ∷ z) (sym (append_assoc (done_by entries) [] (opens p.world p.logged ∷ [])))
deeds_then ((q, es) ∷ run) o p entries = ap (λ (z : List Deed). opens q.world q.logged ∷ z)
    (ap (λ (z : List Deed). done_by es ++ z) (deeds_then run o p entries) ∙ sym (append_assoc (done_by es) (deeds_of (and_then run o entries)) (opens p.world p.logged ∷ [])))

-- a run goes on

legal_more : (o : Opening) (entries : List Entry) (e : Entry) (h next : Hall) → IsLegal o entries → Reaches o entries h → Step h e.event e.outcome next → ComesNext o entries e → IsLegal o (entries ++ e ∷ [])
legal_more o entries e h next legal reached step follows = record {
  opening = legal.opening;
  hall = next;
  reached = leads_on (opening_hall o.world o.logged) h next o.moment o.count false entries e reached step follows;
}

pub run_more : (run : Run) (o : Opening) (entries : List Entry) (e : Entry) (h next : Hall) → IsRun (and_then run o entries) → Reaches o entries h → Step h e.event e.outcome next → ComesNext o entries e → IsRun (and_then run o (entries ++ e ∷ []))
run_more [] o entries e h next is reached step follows = legal_more o entries e h next is reached step follows
run_more ((q, es) ∷ []) o entries e h next is reached step follows = (is.0, legal_more o entries e h next is.1 reached step follows)
run_more ((q, es) ∷ (p, fs) ∷ run) o entries e h next is reached step follows = (is.0, run_more ((p, fs) ∷ run) o entries e h next is.1 reached step follows)

pub run_then : (run : Run) (o p : Opening) (entries : List Entry) → IsRun (and_then run o entries) → EndsWith o entries p.world p.moment p.count → IsLegal p [] → IsRun (and_then (and_then run o entries) p [])
run_then [] o p entries is ends legal = (ends, legal)
run_then ((q, es) ∷ []) o p entries is ends legal = (is.0, (ends, legal))
run_then ((q, es) ∷ (r, fs) ∷ run) o p entries is ends legal = (is.0, run_then ((r, fs) ∷ run) o p entries is.1 ends legal)

-- the last entry

out_last : (b : Bool) (entries : List Entry) (e : Entry) → out_after b (entries ++ e ∷ []) ≡ (out_after b entries || gives_disk e)
out_last b [] e = refl
out_last b (d ∷ entries) e = out_last (b || gives_disk d) entries e

none_given : (e : Entry) (v : Event) → e.event ≡ v → is_retire v ≡ false → gives_disk e ≡ false
none_given e v is other = by_event v is other
  where
    by_event : (v : Event) → e.event ≡ v → is_retire v ≡ false → gives_disk e ≡ false
    by_event Enter is other = rw is refl
    by_event (Call n m asked) is other = rw is refl
    by_event (Take n) is other = rw is refl
    by_event (Tick m) is other = rw is refl
    by_event (Close n) is other = rw is refl
    by_event (Remove n) is other = rw is refl
    by_event Rewrite is other = rw is refl
    by_event Retire is other = absurd (cc)

within_more : (entries : List Entry) (e : Entry) → out_after false entries ≡ false → gives_disk e ≡ false → out_after false (entries ++ e ∷ []) ≡ false
within_more entries e within none = out_last false entries e ∙ ap (λ (b : Bool). b || gives_disk e) within ∙ none

-- the last deed

abbrev last_deed : Deed → List Deed → Deed
last_deed d [] = d
last_deed d (e ∷ deeds) = last_deed e deeds

last_deed_is : (d last : Deed) (deeds : List Deed) → last_deed d (deeds ++ last ∷ []) ≡ last
last_deed_is d last [] = refl
last_deed_is d last (e ∷ deeds) = last_deed_is e last deeds

pub one_last : (deeds others : List Deed) (d e : Deed) → deeds ++ d ∷ [] ≡ others ++ e ∷ [] → d ≡ e
one_last deeds others d e same = sym (last_deed_is d d deeds) ∙ ap (last_deed d) same ∙ last_deed_is d e others

-- a whole run leads to the world of its hall
all_passed : (run : Run) (o : Opening) (entries : List Entry) (h : Hall) (n : ℕ) → n ≡ length (entries_of (and_then run o entries)) → Reaches o entries h → RunPasses (and_then run o entries) n h.world
all_passed [] o entries h n is reached = let alone = ap length (append-nil entries) in inl (omega (arith, is, alone), passes_all o entries h n h.world (omega (arith, is, alone)) reached refl)
all_passed ((q, es) ∷ run) o entries h n is reached =
    let long = length-append es (entries_of (and_then run o entries)) in
    inr (omega (arith, is, long), all_passed run o entries h (n - length es) (omega (arith, is, long)) reached)

-- counts of faults

pub counted_later : (a b : ℕ) → a ≤ b → min a most_count ≤ min b most_count
counted_later a b le = let left = min-le_left a most_count in le-min (omega (arith, left, le)) (min-le_right a most_count)

one_of : (t : Bool) (a b : ℕ) → nat_lt a b ≡ t → (min a b ≡ a) ⊎ (min a b ≡ b)
one_of true a b e = let less : a < b = ltb-true a b e in inl (min-eq_left (omega (arith, less)))
one_of false a b e = inr (min-eq_right (ltb-false a b e))

count_rose : (c a b : ℕ) → c ≤ min a most_count → Rose a b → (c < min b most_count) ⊎ (min b most_count ≡ 2 ^ 64 - 1)
count_rose c a b le rose = by_new (one_of (nat_lt b most_count) b most_count refl) (one_of (nat_lt (a + 1) most_count) (a + 1) most_count refl)
  where
    by_new : (min b most_count ≡ b) ⊎ (min b most_count ≡ most_count) → (min (a + 1) most_count ≡ a + 1) ⊎ (min (a + 1) most_count ≡ most_count) → (c < min b most_count) ⊎ (min b most_count ≡ 2 ^ 64 - 1)
    by_new (inr last) other = inr last
    by_new (inl now) (inl next) =
        let left = min-le_left a most_count in
        let rises : a + 1 ≤ b = subst (λ (z : ℕ). z ≤ b) next rose in
        inl (subst (λ (z : ℕ). c < z) (sym now) (omega (arith, le, left, rises)))
    by_new (inl now) (inr last) =
        let most : most_count ≤ b = subst (λ (z : ℕ). z ≤ b) last rose in
        inr (min-eq_right most)

-- deeds behind others
rewrites_then : (h mid last : Hall) (w m end : Writing) (first others : List Deed) → Rewrites h w first mid m → Rewrites mid m others last end → Rewrites h w (first ++ others) last end
rewrites_then h mid last w m end [] others a b = subst (λ (g : Hall). Rewrites g w others last end) a.0 (subst (λ (x : Writing). Rewrites mid x others last end) a.1 b)
rewrites_then h mid last w m end (does event outcome ∷ first) others a b = (a.0, a.1, a.2, a.3, rewrites_then a.0 mid last a.1 m end first others a.4 b)
rewrites_then h mid last w m end (opens world logged ∷ first) others a b = (a.0, rewrites_then _ mid last _ m end first others a.1 b)

module _ {D : Type 0} (crashes : D → Bool) (seen : D → Option Sides) (images : D → Sides → Type 0) (moment : D → ℕ) (left_since : D → ℕ → Sides → Type 0) (faults : D → ℕ) (tells : (d : D) → TellsNow images moment left_since d) where
  -- the entry of an event at the end of its call
  abbrev entry_of : D → Event → Outcome → Entry
  entry_of disk event outcome = record { event = event; outcome = outcome; note = []; moment = moment disk; count = min (faults disk) most_count }

  pub not_later : (old new : D) (h next : Hall) (before after : Journal) (event : Event) (outcome : Outcome) → Turn images moment left_since old new h before event outcome next after → (b : Bool) → h.stopped ≡ b → moment old ≤ moment new
  not_later old new h next before after event outcome turn true stops = let same = ap moment (turn.stopped stops) in omega (arith, same)
  not_later old new h next before after event outcome turn false goes = (turn.leaves goes).later

  pub comes_next : (old new : D) (event : Event) (outcome : Outcome) (o : Opening) (entries : List Entry) → moment_after o.moment entries ≤ moment old → moment old ≤ moment new
      → count_after o.count entries ≤ min (faults old) most_count → out_after false entries ≡ false → faults old ≤ faults new
      → (is_log_fault outcome ≡ true → Rose (faults old) (faults new)) → ComesNext o entries (entry_of new event outcome)
  comes_next old new event outcome o entries past later counted within not_fallen cause = record {
    later = omega (arith, past, later);
    not_fallen = let more = counted_later (faults old) (faults new) not_fallen in omega (arith, counted, more);
    moment_stays = λ out. absurd (cc);
    count_stays = λ out. absurd (cc);
    cause = λ failed. count_rose (count_after o.count entries) (faults old) (faults new) counted (cause failed);
    note = λ _. refl;
  }

  -- one deed more behind all others, on whatever disk the call left
  unfoldable pub one_more : (old new : D) (h next : Hall) (after : Journal) (event : Event) (outcome : Outcome) (deeds : List Deed)
      → (b : IsBehind images moment left_since faults old h deeds) → out_after false b.entries ≡ false → Step h event outcome next
      → faults old ≤ faults new → (is_log_fault outcome ≡ true → Rose (faults old) (faults new))
      → Turn images moment left_since old new h b.log event outcome next after → IsBehind images moment left_since faults new next (deeds ++ does event outcome ∷ [])
  one_more old new h next after event outcome deeds b within step not_fallen cause turn =
      let e = entry_of new event outcome in
      let later : moment old ≤ moment new = not_later old new h next b.log after event outcome turn h.stopped refl in
      let follows = comes_next old new event outcome b.opening b.entries b.past later b.counted within not_fallen cause in
      record {
        run = b.run;
        opening = b.opening;
        entries = b.entries ++ e ∷ [];
        log = after;
        shows = deeds_more b.run b.opening b.entries e ∙ ap (λ (z : List Deed). z ++ does event outcome ∷ []) b.shows;
        is_run = run_more b.run b.opening b.entries e h next b.is_run b.stood.reached step follows;
        stood = turns_keep_runs_safe images moment left_since old new b.run b.opening b.entries e h next b.log after (tells old) (tells new) b.stood step follows turn refl;
        past = let last = moment_last b.opening.moment b.entries e in omega (arith, last);
        counted = let last = count_last b.opening.count b.entries e in omega (arith, last);
      }

  -- a call of a core that goes on
  pub stays_safe : (old new : DurableCore D) (event : Event) (outcome : Outcome) → is_retire event ≡ false → Step (hall_of old) event outcome (hall_of new)
      → (is_failed_step event outcome ≡ false → writing_of new ≡ written (hall_of old) event outcome (writing_of old))
      → crashes (disk_of new) ≡ crashes (disk_of old) → faults (disk_of old) ≤ faults (disk_of new) → (is_log_fault outcome ≡ true → Rose (faults (disk_of old)) (faults (disk_of new)))
      → ((j : Journal) → KeepsLogOf crashes seen images old j → GoesOn crashes seen images moment left_since old new event outcome j)
      → StaysSafe crashes seen images moment left_since faults old new (does event outcome ∷ [])
  unfolding one_more
  stays_safe old new event outcome other step writes told not_fallen cause goes = record {
    rewrites = λ _. (hall_of new, writing_of new, step, writes, (refl, refl));
    logs = λ l. let went = goes l.0 l.1 in (went.after, went.log);
    stands = λ before s.
        let went = goes s.behind.log s.kept in
        record {
          behind = one_more (disk_of old) (disk_of new) (hall_of old) (hall_of new) went.after event outcome before s.behind s.within step not_fallen cause (went.owes s.told).turn;
          kept = went.log;
          within = within_more s.behind.entries (entry_of (disk_of new) event outcome) s.within (none_given (entry_of (disk_of new) event outcome) event refl other);
          told = told ∙ s.told;
        };
  }

module _ {D : Type 0} (crashes : D → Bool) (seen : D → Option Sides) (images : D → Sides → Type 0) (moment : D → ℕ) (left_since : D → ℕ → Sides → Type 0) (faults : D → ℕ) where
  pub stays_same : (core : DurableCore D) → StaysSafe crashes seen images moment left_since faults core core []
  stays_same core = record { logs = λ l. l; rewrites = λ _. (refl, refl); stands = λ before s. subst (λ (z : List Deed). StandsBehind crashes seen images moment left_since faults core z) (sym (append-nil before)) s }

  pub stays_more : (old mid new : DurableCore D) (first others : List Deed) → StaysSafe crashes seen images moment left_since faults old mid first → StaysSafe crashes seen images moment left_since faults mid new others
      → StaysSafe crashes seen images moment left_since faults old new (first ++ others)
  stays_more old mid new first others a b = record {
    logs = λ l. b.logs (a.logs l);
    rewrites = λ l. rewrites_then (hall_of old) (hall_of mid) (hall_of new) (writing_of old) (writing_of mid) (writing_of new) first others (a.rewrites l) (b.rewrites (a.logs l));
    stands = λ before s. subst (λ (z : List Deed). StandsBehind crashes seen images moment left_since faults new z) (append_assoc before first others) (b.stands (before ++ first) (a.stands before s));
  }

  -- the world of the hall is the one after the whole run
  pub after_all : (disk : D) (h : Hall) (deeds : List Deed) (b : IsBehind images moment left_since faults disk h deeds) (c : Sides) → Recovers c h.world
      → RecoversPassed (RunPasses (and_then b.run b.opening b.entries)) (length (entries_of (and_then b.run b.opening b.entries))) (length (entries_of (and_then b.run b.opening b.entries))) c
  after_all disk h deeds b c back =
      let n = length (entries_of (and_then b.run b.opening b.entries)) in
      record { count = n; at_least = omega arith; at_most = omega arith; world = h.world; passed = all_passed b.run b.opening b.entries h n refl b.stood.reached; recovers = back }

  -- a disk is safe for a run whose hall's world is all that a crash leaves where it was retired well
  pub safe_for : (disk : D) (h : Hall) (deeds : List Deed) → IsBehind images moment left_since faults disk h deeds
      → ((before : List Deed) → deeds ≡ before ++ does Retire (answer called.Ok) ∷ [] → EachImage (images disk) (λ c. Recovers c h.world)) → IsSafeFor images left_since disk deeds
  safe_for disk h deeds b shown = record {
    run = and_then b.run b.opening b.entries;
    is_run = b.is_run;
    shows = b.shows;
    safe = b.stood.safe;
    settled = λ before ends c image. after_all disk h deeds b c (shown before ends c image);
  }
