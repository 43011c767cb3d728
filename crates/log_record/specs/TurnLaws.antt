-- A call of a core keeps its disk safe.
use Rattle.std.proofs.Common.{◌≡◌, ◌≤◌, ℕ, zero, suc, Bool, true, false, ◌&&◌, ◌||◌, List, [], ◌∷◌, ◌++◌, length, refl, sym, ap, subst, ◌∙◌, arith}
use Rattle.std.proofs.Common.{⊎_elim, length-append, true≢false}
use Rattle.outside.specs.Sides.{Sides}
use Rattle.outside.specs.Crashes.{EachSince, LeavesOnly}
use Rattle.outside.specs.CrashLaws.{weaker, begins}
use Rattle.world_model.specs.Halls.{Hall}
use Rattle.std.specs.Prelude.{Some, if◌then◌else◌}
use Rattle.world_model.specs.Histories.{Step, StepBy, when_stopped, refusal_going, Reaches, opening_hall}
use Rattle.world_model.specs.Histories.{given, is_fine, is_rewrite, acknowledges, acked_count}
use Rattle.world_model.specs.declared.events.Event.{Event}
use Rattle.world_model.specs.declared.events.Event.TheVariants.{Retire}
use Rattle.world_model.specs.declared.events.Outcome.{Outcome}
use Rattle.world_model.specs.declared.events.Outcome.TheVariants.{Given}
use Rattle.world_model.specs.declared.events.Entry.{Entry}
use Rattle.world_model.specs.declared.events.Opening.{Opening}
use Rattle.log_record.specs.Recovery.{Recovers, RecoversEither}
use Rattle.log_record.specs.Safety.{moment_after, Passes, RecoversPassed, IsSafe, Safe}
use Rattle.log_record.specs.Journals.{Journal, whole, shows, IsLogged, KeepsLog, Turn, TellsNow}
use Rattle.log_record.specs.Laws.{TurnsKeepSafe, OpeningsStand, KeepsSafe}
use Rattle.log_record.specs.Folding.{folded}
use Rattle.log_record.specs.EventWrites.{changes_of, writes_by}
use Rattle.log_record.specs.Acknowledged.{acked_within, moment_last}
use Rattle.log_record.specs.EventWriteLaws.{steps_make_their_writes}
use Rattle.log_record.specs.LeadingLaws.{moments_ascend, leads_on, passes_still, passes_all}
use Rattle.log_record.specs.SafetyLaws.{committed_passed, safe_with_one_more}

-- behind an entry that acknowledges, a crash leaves the hall's world
pub acknowledges_shows : (e : Entry) → acknowledges e ≡ true → shows e.event e.outcome ≡ true
acknowledges_shows e marks = by e.event e.outcome marks
  where
    by : (event : Event) (outcome : Outcome) → (given outcome || (is_rewrite event && is_fine outcome)) ≡ true → shows event outcome ≡ true
    by Retire (Given frames) marks = refl
    by Retire outcome marks = absurd (true≢false (sym marks))
    by event outcome marks = marks

either_passed : {D : Type 0} (images : D → Sides → Type 0) (moment : D → ℕ) (left_since : D → ℕ → Sides → Type 0) (old : D) (o : Opening)
    (entries : List Entry) (h : Hall) (j : Journal)
    → TellsNow images moment left_since old → Reaches o entries h → moment_after o.moment entries ≤ moment old
    → IsSafe acknowledges left_since old o.moment entries (Passes o entries) → IsLogged (images old) h j
    → (c : Sides) → RecoversEither j.committed (whole j) c → RecoversPassed (Passes o entries) (acked_count acknowledges entries) (length entries) c
either_passed images moment left_since old o entries h j tells reached past safe log c either = ⊎_elim
    (λ first. let found = committed_passed images moment left_since old o.moment entries
    (Passes o entries) j.committed tells.counts_now safe past log.durable in
    record { count = found.0; at_least = found.1; at_most = found.2; world = j.committed; passed = found.3; recovers = first })
    (λ second. record {
      count = length entries;
      at_least = acked_within acknowledges entries;
      at_most = omega arith;
      world = whole j;
      passed = passes_all o entries h (length entries) (whole j) (omega arith) reached log.world;
      recovers = second;
    })
    either

-- what a call leaves, whether the hall had stopped or not
leaves_passed : {D : Type 0} (images : D → Sides → Type 0) (moment : D → ℕ) (left_since : D → ℕ → Sides → Type 0) (old new : D) (o : Opening)
    (entries : List Entry) (e : Entry) (h next : Hall) (before after : Journal)
    → TellsNow images moment left_since old → Reaches o entries h → moment_after o.moment entries ≤ moment old
    → IsSafe acknowledges left_since old o.moment entries (Passes o entries) → KeepsLog (images old) h before
    → Turn images moment left_since old new h before e.event e.outcome next after → (b : Bool) → h.stopped ≡ b
    → LeavesOnly moment left_since old new (RecoversPassed (Passes o entries) (acked_count acknowledges entries) (length entries))
leaves_passed {D} images moment left_since old new o entries e h next before after tells reached past safe log turn true stops =
    subst (λ (d : D). LeavesOnly moment left_since old d (RecoversPassed (Passes o entries) (acked_count acknowledges entries) (length entries)))
    (sym (turn.stopped stops)) (begins moment left_since old (RecoversPassed (Passes o entries) (acked_count acknowledges entries) (length entries)))
leaves_passed images moment left_since old new o entries e h next before after tells reached past safe log turn false goes =
    weaker moment left_since old new (RecoversEither before.committed (whole before))
    (RecoversPassed (Passes o entries) (acked_count acknowledges entries) (length entries))
    (either_passed images moment left_since old o entries h before tells reached past safe (log goes)) (turn.leaves goes)

-- a hall that goes on went on before
went_on : (h next : Hall) (event : Event) (outcome : Outcome) → Step h event outcome next → next.stopped ≡ false → (b : Bool) → h.stopped ≡ b
    → h.stopped ≡ false
went_on h next event outcome step goes true stops =
    absurd (cc (
      goes,
      stops,
      ap (λ (n : Hall). n.stopped)
          (subst (λ b. StepBy (if b then Some (when_stopped event, h) else refusal_going h event) h event outcome next) stops step).1,
    ))
went_on h next event outcome step goes false goes_on = goes_on

-- a core keeps to its log
pub keeps_log_on : {D : Type 0} (images : D → Sides → Type 0) (moment : D → ℕ) (left_since : D → ℕ → Sides → Type 0) (old new : D) (event : Event)
    (outcome : Outcome) (h next : Hall) (before after : Journal)
    → KeepsLog (images old) h before → Step h event outcome next → Turn images moment left_since old new h before event outcome next after
    → KeepsLog (images new) next after
keeps_log_on images moment left_since old new event outcome h next before after log step turn goes = record {
  world = (steps_make_their_writes h next event outcome step).world
      ∙ ap (λ w. folded w (changes_of (writes_by h event outcome))) (log (went_on h next event outcome step goes h.stopped refl)).world
      ∙ sym (turn.logs goes);
  durable = turn.durable goes;
}

pub turns_keep_safe : {D : Type 0} (images : D → Sides → Type 0) (moment : D → ℕ) (left_since : D → ℕ → Sides → Type 0)
    → TurnsKeepSafe images moment left_since
unfolding Safe
turns_keep_safe images moment left_since old new o entries e h next before after tells_old tells_new stood step follows turn at_end =
    let on : Reaches o (entries ++ e ∷ []) next = leads_on
    (opening_hall o.world o.logged) h next o.moment o.count false entries e stood.reached step follows in
    record {
      reached = on;
      past = omega (arith, moment_last o.moment entries e, at_end);
      safe = safe_with_one_more images moment left_since old new o.moment entries e (Passes o entries) (Passes o (entries ++ e ∷ []))
          tells_new.counts_now tells_new.only_now (passes_still o entries e)
          (λ n. let ascends = moments_ascend (opening_hall o.world o.logged) h o.moment o.count false entries stood.reached n in
          omega (arith, ascends, stood.past))
          stood.safe
          (leaves_passed images moment left_since old new o entries e h next before after tells_old stood.reached stood.past stood.safe stood.log turn
          h.stopped refl)
          at_end
          (λ gives c image. (
            next.world,
            passes_all o (entries ++ e ∷ []) next (suc (length entries)) next.world
                (omega (arith, length-append entries (e ∷ []))) on refl,
            turn.shown (acknowledges_shows e gives) c image,
          ));
      log = keeps_log_on images moment left_since old new e.event e.outcome h next before after stood.log step turn;
    }

opening_safe : {D : Type 0} (left_since : D → ℕ → Sides → Type 0) (disk : D) (o : Opening)
    → EachSince left_since disk o.moment (λ image. Recovers image o.world) → Safe left_since disk o []
unfolding Safe
opening_safe left_since disk o each zero few c left = record {
  count = 0;
  at_least = omega arith;
  at_most = omega arith;
  world = o.world;
  passed = (opening_hall o.world o.logged, refl, refl);
  recovers = each c left;
}
opening_safe left_since disk o each (suc n) few c left = absurd (omega (arith, few))

pub openings_stand : {D : Type 0} (images : D → Sides → Type 0) (moment : D → ℕ) (left_since : D → ℕ → Sides → Type 0)
    → OpeningsStand images moment left_since
openings_stand images moment left_since disk o past each holds = record {
  reached = refl;
  past = past;
  safe = opening_safe left_since disk o each;
  log = λ goes. record { world = refl; durable = holds };
}

pub turn_keeps_safe : {D : Type 0} (images : D → Sides → Type 0) (moment : D → ℕ) (left_since : D → ℕ → Sides → Type 0) (old new : D) (h next : Hall)
    (before after : Journal) (event : Event) (outcome : Outcome)
    → TellsNow images moment left_since old → TellsNow images moment left_since new → Step h event outcome next
    → Turn images moment left_since old new h before event outcome next after
    → KeepsSafe images moment left_since old new h before event outcome next after
turn_keeps_safe images moment left_since old new h next before after event outcome tells_old tells_new step turn o entries e stood is_event is_outcome
    at_end follows =
    turns_keep_safe images moment left_since old new o entries e h next before after tells_old tells_new stood
    (subst (λ (v : Event). Step h v e.outcome next) (sym is_event) (subst (λ (r : Outcome). Step h event r next) (sym is_outcome) step)) follows
    (subst (λ (v : Event). Turn images moment left_since old new h before v e.outcome next after) (sym is_event)
    (subst (λ (r : Outcome). Turn images moment left_since old new h before event r next after) (sym is_outcome) turn)) at_end
