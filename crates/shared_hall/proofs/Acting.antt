-- What each call of a core is to its history: an act.
use Rattle.std.proofs.Common.{◌≡◌, ◌⊎◌, ◌≤◌, ℕ, Bool, true, false, List, [], Option, refl, sym, ap, ◌∙◌, subst, arith, inl, true≢false}
use Rattle.std.specs.Prelude.{◌||◌, Some}
use Rattle.byte_text.specs.Names.{Bytes}
use Rattle.outside.specs.Causes.{Rose}
use Rattle.outside.specs.CrashLaws.{begins, weaker}
use Rattle.outside.specs.Crashes.{LeavesOnly}
use Rattle.outside.specs.Sides.{Sides}
use Rattle.world_model.specs.Halls.{Hall}
use Rattle.world_model.specs.Histories.{Step, when_stopped, stopped, is_log_fault, is_rewrite}
use Rattle.world_model.specs.Seats.{Act}
use Rattle.world_model.specs.declared.events.CallOutcome.{CallOutcome}
use Rattle.world_model.specs.declared.events.CallOutcome.TheVariants as called
use Rattle.world_model.specs.declared.events.Event.{Event}
use Rattle.world_model.specs.declared.events.Event.TheVariants.{Retire}
use Rattle.world_model.specs.declared.events.Outcome.{Outcome}
use Rattle.world_model.specs.declared.events.Outcome.TheVariants.{Answered}
use Rattle.journal.specs.Growing.{grown_on}
use Rattle.journal.specs.Logs.{Grows, HasGrown}
use Rattle.journal.specs.Openings.{opened_generation}
use Rattle.log_record.specs.Journals.{Journal, Turn, TellsNow, is_retire, shows}
use Rattle.log_record.specs.Recovery.{Recovers}
use Rattle.log_record.specs.AnswerLaws.{stopped_says}
use Rattle.log_record.specs.Laws.{KeepsSafe}
use Rattle.log_record.specs.TurnLaws.{turn_keeps_safe}
use Rattle.durable_core.specs.Logged.{hall_of, disk_of, generation_of, KeepsLogOf, GoesOn}
use Rattle.durable_core.specs.StepLaws.{stops, same_hall}
use Rattle.durable_core.specs.declared.cores.DurableCore.{DurableCore}
use Rattle.durable_core.specs.Written.{KeepsSided, Sided}
use Rattle.durable_core.specs.Histories.{Writing, is_failed_step, written, writing_of}
use Rattle.shared_hall.specs.Cores.{hall_in, writing_in, disk_in, has_left, KeepsIn, ActsNoted}
use Rattle.shared_hall.specs.Turns.{GivesOut}
use Rattle.shared_hall.specs.declared.places.Place.{Place}
use Rattle.shared_hall.specs.declared.places.Place.TheVariants.{Inside}
use Rattle.shared_hall.proofs.Growing.{HasFed}
use Rattle.shared_hall.proofs.Writes.{nothing_written}

module _ {D : Type 0} (crashes : D → Bool) (seen : D → Option Sides) (images : D → Sides → Type 0) (moment : D → ℕ) (left_since : D → ℕ → Sides → Type 0) (faults : D → ℕ) where
  abbrev Acted : Place D → Place D → Act → Bytes → Type 0
  Acted = ActsNoted crashes seen images moment left_since faults

  -- what it makes of the log's batches
  abbrev Fed : DurableCore D → DurableCore D → Bytes → Type 0
  Fed = HasFed crashes seen images

  -- what an event does to a rewriting
  abbrev HasWritten : DurableCore D → DurableCore D → Event → Outcome → Type 0
  HasWritten c d event outcome = is_failed_step event outcome ≡ false → writing_of d ≡ written (hall_of c) event outcome (writing_of c)

  -- moments do not fall
  not_earlier : (old new : D) (h next : Hall) (event : Event) (outcome : Outcome) (before after : Journal) → Turn images moment left_since old new h before event outcome next after → (b : Bool) → h.stopped ≡ b → moment old ≤ moment new
  not_earlier old new h next event outcome before after turn true is = let same = ap moment (turn.stopped is) in omega (arith, same)
  not_earlier old new h next event outcome before after turn false is = (turn.leaves is).later

  -- a call of a core leaves no log that did not grow from what its own log grew from
  left_inside : (c d : DurableCore D) (event : Event) (outcome : Outcome) (j : Journal) → GoesOn crashes seen images moment left_since c d event outcome j → crashes (disk_of c) ≡ true
      → (before : ℕ) (earlier : List Bytes) → ((hall_of c).stopped ≡ false → (t : Sided) × KeepsSided crashes seen images c.tail.journal t × Grows before (generation_of c) earlier t.batches)
      → LeavesOnly moment left_since (disk_of c) (disk_of d) (HasGrown before earlier)
  left_inside c d event outcome j on crash before earlier some = by (hall_of c).stopped refl
    where
      by : (b : Bool) → (hall_of c).stopped ≡ b → LeavesOnly moment left_since (disk_of c) (disk_of d) (HasGrown before earlier)
      by true is = subst (λ (x : D). LeavesOnly moment left_since (disk_of c) x (HasGrown before earlier)) (sym ((on.owes crash).turn.stopped is))
          (begins moment left_since (disk_of c) (HasGrown before earlier))
      by false is =
          let has = some is in
          weaker moment left_since (disk_of c) (disk_of d) (HasGrown (generation_of c) has.0.batches) (HasGrown before earlier)
          (λ image grown. grown_on before (generation_of c) earlier has.0.batches image has.2 grown) (on.leaves_grown crash has.0 has.1)

  -- which event may bear a note
  abbrev MayNote : Event → DurableCore D → Bytes → Type 0
  MayNote event d note = (note ≡ []) ⊎ ((is_rewrite event ≡ true) × ((hall_of d).stopped ≡ false))

  -- a call of a core
  pub acted_inside : (c d : DurableCore D) (event : Event) (outcome : Outcome) (note : Bytes) → is_retire event ≡ false → Step (hall_of c) event outcome (hall_of d) → HasWritten c d event outcome
      → (is_log_fault outcome ≡ true → Rose (faults (disk_of c)) (faults (disk_of d))) → faults (disk_of c) ≤ faults (disk_of d) → crashes (disk_of d) ≡ crashes (disk_of c)
      → ((j : Journal) → KeepsLogOf crashes seen images c j → GoesOn crashes seen images moment left_since c d event outcome j)
      → MayNote event d note → Fed c d note → Acted (Inside c) (Inside d) (event, outcome) note
  acted_inside c d event outcome note stays step writes cause later told log may fed = record {
    step = step;
    noted = may;
    fed = fed;
    writes = writes;
    later = later;
    cause = cause;
    told = told;
    out = sym stays;
    stays = λ out. absurd (true≢false (sym out));
    log = λ j kept crash.
        let on = log j kept in
        let owes = on.owes crash in
        (on.after, on.log, not_earlier (disk_of c) (disk_of d) (hall_of c) (hall_of d) event outcome j on.after owes.turn (hall_of c).stopped refl, owes.safe);
    left = λ j kept crash before earlier some. left_inside c d event outcome j (log j kept) crash before earlier some;
  }

  -- one that leaves the disk alone
  pub acted_beside : (c d : DurableCore D) (event : Event) (outcome : Outcome) → is_retire event ≡ false → Step (hall_of c) event outcome (hall_of d) → HasWritten c d event outcome → is_log_fault outcome ≡ false → disk_of d ≡ disk_of c
      → ((j : Journal) → KeepsLogOf crashes seen images c j → GoesOn crashes seen images moment left_since c d event outcome j)
      → Fed c d [] → Acted (Inside c) (Inside d) (event, outcome) []
  acted_beside c d event outcome stays step writes fine same log fed =
      let kept = ap faults same in
      acted_inside c d event outcome [] stays step writes (λ failed. absurd (true≢false (sym failed ∙ fine))) (omega (arith, kept)) (ap crashes same) log (inl refl) fed

  -- a core whose disk was given out does nothing
  acted_outside : (p : Place D) (event : Event) → has_left p ≡ true → (hall_in p).stopped ≡ true → ((disk : D) → TellsNow images moment left_since disk) → Acted p p (event, when_stopped event) []
  acted_outside p event left is tells =
      let h = hall_in p in
      let d = disk_in p in
      let step : Step h event (when_stopped event) h = stops h event is in
      record {
        step = step;
        later = omega arith;
        cause = λ failed. absurd (true≢false (sym failed ∙ (stopped_says event).no_fault));
        told = refl;
        out = left ∙ sym (ap (λ (b : Bool). b || is_retire event) left);
        stays = λ _. refl;
        noted = inl refl;
        fed = λ goes. absurd (true≢false (sym is ∙ goes));
        writes = λ _. nothing_written h event (writing_in p);
        log = λ j kept crash.
            let turn : Turn images moment left_since d d h j event (when_stopped event) h j = record {
              stopped = λ _. refl;
              leaves = λ goes. absurd (true≢false (sym is ∙ goes));
              durable = λ goes. absurd (true≢false (sym is ∙ goes));
              logs = λ goes. absurd (true≢false (sym is ∙ goes));
              shown = λ shown. absurd (true≢false (sym shown ∙ (stopped_says event).not_shown));
            } in
            (j, kept, omega arith, turn_keeps_safe images moment left_since d d h h j j event (when_stopped event) (tells d) (tells d) step turn);
        left = λ j kept crash before earlier some. begins moment left_since d (HasGrown before earlier);
      }

  -- the same of the place where a core was found

  pub does_noted : (p q : Place D) (c d : DurableCore D) (event : Event) (outcome : Outcome) (note : Bytes) → q ≡ p → q ≡ Inside c → is_retire event ≡ false → Step (hall_of c) event outcome (hall_of d) → HasWritten c d event outcome
      → (is_log_fault outcome ≡ true → Rose (faults (disk_of c)) (faults (disk_of d))) → faults (disk_of c) ≤ faults (disk_of d) → crashes (disk_of d) ≡ crashes (disk_of c)
      → ((j : Journal) → KeepsLogOf crashes seen images c j → GoesOn crashes seen images moment left_since c d event outcome j)
      → MayNote event d note → Fed c d note → Acted p (Inside d) (event, outcome) note
  does_noted p q c d event outcome note same is stays step writes cause later told log may fed =
      subst (λ (x : Place D). Acted x (Inside d) (event, outcome) note) (sym is ∙ same) (acted_inside c d event outcome note stays step writes cause later told log may fed)

  pub does_inside : (p q : Place D) (c d : DurableCore D) (event : Event) (outcome : Outcome) → q ≡ p → q ≡ Inside c → is_retire event ≡ false → Step (hall_of c) event outcome (hall_of d) → HasWritten c d event outcome
      → (is_log_fault outcome ≡ true → Rose (faults (disk_of c)) (faults (disk_of d))) → faults (disk_of c) ≤ faults (disk_of d) → crashes (disk_of d) ≡ crashes (disk_of c)
      → ((j : Journal) → KeepsLogOf crashes seen images c j → GoesOn crashes seen images moment left_since c d event outcome j)
      → Fed c d [] → Acted p (Inside d) (event, outcome) []
  does_inside p q c d event outcome same is stays step writes cause later told log fed = does_noted p q c d event outcome [] same is stays step writes cause later told log (inl refl) fed

  pub does_beside : (p q : Place D) (c d : DurableCore D) (event : Event) (outcome : Outcome) → q ≡ p → q ≡ Inside c → is_retire event ≡ false → Step (hall_of c) event outcome (hall_of d) → HasWritten c d event outcome → is_log_fault outcome ≡ false → disk_of d ≡ disk_of c
      → ((j : Journal) → KeepsLogOf crashes seen images c j → GoesOn crashes seen images moment left_since c d event outcome j)
      → Fed c d [] → Acted p (Inside d) (event, outcome) []
  does_beside p q c d event outcome same is stays step writes fine alone log fed =
      subst (λ (x : Place D). Acted x (Inside d) (event, outcome) []) (sym is ∙ same) (acted_beside c d event outcome stays step writes fine alone log fed)

  pub does_nothing : (p q left : Place D) (event : Event) → q ≡ p → q ≡ left → has_left left ≡ true → (hall_in left).stopped ≡ true → ((disk : D) → TellsNow images moment left_since disk) → Acted p q (event, when_stopped event) []
  does_nothing p q left event same is out stops tells =
      subst (λ (x : Place D). Acted x q (event, when_stopped event) []) (sym is ∙ same) (subst (λ (x : Place D). Acted left x (event, when_stopped event) []) (sym is) (acted_outside left event out stops tells))

  -- and of the halls there
  pub hall_inside : (p q : Place D) (c : DurableCore D) → q ≡ p → q ≡ Inside c → hall_of c ≡ hall_in p
  hall_inside p q c same is = ap hall_in (sym is ∙ same)

  -- a retirement, after which the disk is given out
  pub retired : (p q : Place D) (c d : DurableCore D) (outcome : Outcome) → p ≡ Inside c → has_left q ≡ true → hall_in q ≡ stopped (hall_of d) → disk_in q ≡ disk_of d → writing_in q ≡ writing_of d → writing_of d ≡ writing_of c → ((k : Journal) → KeepsIn crashes seen images q k)
      → (hall_of d).stopped ≡ true → Step (hall_of c) Retire outcome (hall_of d)
      → (is_log_fault outcome ≡ true → Rose (faults (disk_of c)) (faults (disk_of d))) → faults (disk_of c) ≤ faults (disk_of d) → crashes (disk_of d) ≡ crashes (disk_of c)
      → ((j : Journal) → KeepsLogOf crashes seen images c j → GoesOn crashes seen images moment left_since c d Retire outcome j)
      → Acted p q (Retire, outcome) []
  retired p q c d outcome is out hall same carried kept_so keeps stops step cause later told log =
      let there : hall_of d ≡ hall_in q = sym (hall ∙ same_hall (hall_of d) true stops) in
      subst (λ (x : Place D). Acted x q (Retire, outcome) []) (sym is) (record {
        noted = inl refl;
        fed = λ goes. absurd (true≢false (sym (ap (λ (h : Hall). h.stopped) hall) ∙ goes));
        step = subst (λ (h : Hall). Step (hall_of c) Retire outcome h) there step;
        later = subst (λ (x : D). faults (disk_of c) ≤ faults x) (sym same) later;
        cause = λ failed. subst (λ (x : D). Rose (faults (disk_of c)) (faults x)) (sym same) (cause failed);
        told = ap crashes same ∙ told;
        out = out;
        stays = λ out. absurd (true≢false (sym out));
        writes = λ _. carried ∙ kept_so;
        log = λ j kept crash.
            let on = log j kept in
            let owes = on.owes crash in (
              on.after,
              keeps on.after,
              subst (λ (x : D). moment (disk_of c) ≤ moment x) (sym same) (not_earlier (disk_of c) (disk_of d) (hall_of c) (hall_of d) Retire outcome j on.after owes.turn (hall_of c).stopped refl),
              subst (λ (x : D). KeepsSafe images moment left_since (disk_of c) x (hall_of c) j Retire outcome (hall_in q) on.after) (sym same)
                  (subst (λ (h : Hall). KeepsSafe images moment left_since (disk_of c) (disk_of d) (hall_of c) j Retire outcome h on.after) there owes.safe),
            );
        left = λ j kept crash before earlier some. subst (λ (x : D). LeavesOnly moment left_since (disk_of c) x (HasGrown before earlier)) (sym same)
            (left_inside c d Retire outcome j (log j kept) crash before earlier some);
      })

  -- and the disk that it gives out
  pub gives_out : (p q : Place D) (c d : DurableCore D) (given : D) (answer : CallOutcome) → p ≡ Inside c → has_left q ≡ true → hall_in q ≡ stopped (hall_of d) → disk_in q ≡ disk_of d → writing_in q ≡ writing_of d → given ≡ disk_of d
      → ((j : Journal) → KeepsLogOf crashes seen images c j → GoesOn crashes seen images moment left_since c d Retire (Answered answer) j)
      → ((j : Journal) → KeepsLogOf crashes seen images c j → answer ≡ called.Ok → (s : Sides) → seen (disk_of d) ≡ Some s → opened_generation s ≡ generation_of d)
      → GivesOut crashes seen images moment left_since faults p (Some (given, answer)) q
  gives_out p q c d given answer is out hall same carried back log found =
      subst (λ (x : Place D). GivesOut crashes seen images moment left_since faults x (Some (given, answer)) q) (sym is) (
        refl,
        out,
        same ∙ sym back,
        λ j kept crash ok image at.
            let shown = ((log j kept).owes crash).turn.shown (ap (λ (a : CallOutcome). shows Retire (Answered a)) ok) in
            subst (λ (h : Hall). Recovers image h.world) (sym hall) (shown image (subst (λ (x : D). images x image) back at)),
        λ j kept ok s told. found j kept ok s (subst (λ (x : D). seen x ≡ Some s) back told) ∙ sym (ap (λ (w : Writing). w.generation) carried),
      )
