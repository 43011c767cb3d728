-- What a call of a core owes to its log, from what its journal and its hall did.
use Rattle.std.specs.Prelude.{if◌then◌else◌}
use Rattle.std.proofs.Common.{◌≡◌, ◌≢◌, ◌∙◌, ◌⊎◌, ◌≤◌, ℕ, Bool, true, false, ◌&&◌, ◌||◌, List, [], ◌++◌, Option, Some, Ok, Err, refl, sym, ap, subst, append-nil, inl, inr}
use Rattle.std.specs.List.{AllByRecursion}
use Rattle.std.proofs.lemmas.Grind.{flat_map-append}
use Rattle.byte_text.specs.Names.{Bytes}
use Rattle.ordered_lists.specs.Reading.{each-append}
use Rattle.world_data.specs.Records.{record_writer}
use Rattle.world_data.specs.declared.worlds.Change.{Change}
use Rattle.world_data.specs.declared.worlds.World.{World}
use Rattle.fence_model.specs.Writes.{Write}
use Rattle.world_model.specs.Halls.{Hall}
use Rattle.world_model.specs.Histories.{Step, answer, given, is_fine, when_stopped}
use Rattle.world_model.specs.declared.events.CallOutcome.{CallOutcome}
use Rattle.world_model.specs.declared.events.CallOutcome.TheVariants as called
use Rattle.world_model.specs.declared.events.Event.{Event}
use Rattle.world_model.specs.declared.events.Event.TheVariants.{Take, Rewrite, Retire}
use Rattle.world_model.specs.declared.events.Outcome.{Outcome}
use Rattle.world_model.specs.declared.events.Outcome.TheVariants.{Answered}
use Rattle.outside.specs.Sides.{Sides, IfTold}
use Rattle.outside.specs.CrashLaws.{begins, if_told}
use Rattle.outside.specs.Crashes.{EachImage, LeavesOnly}
use Rattle.journal.specs.Journals.{Keeps, pending}
use Rattle.journal.specs.Logs.{HasGrown}
use Rattle.journal.specs.Openings.{AreWhole}
use Rattle.journal.specs.declared.journals.Journal.{Journal}
use Rattle.journal.specs.KeptLaws.{kept_told, kept_now, kept_images}
use Rattle.log_record.specs.Versions.{IsRecordedIn}
use Rattle.log_record.specs.VersionLaws.{recorded_newest}
use Rattle.log_record.specs.Batches.{records_text}
use Rattle.log_record.specs.Folding.{folded}
use Rattle.log_record.specs.Recovery.{Recovers, RecoversEither}
use Rattle.log_record.specs.EventWrites.{changes_of, writes_of, writes_by}
use Rattle.log_record.specs.EventWriteLaws.{folded-append, steps_make_their_writes}
use Rattle.log_record.specs.Journals as log
use Rattle.log_record.specs.AnswerLaws.{stopped_says}
use Rattle.log_record.specs.TurnLaws.{turn_keeps_safe}
use Rattle.world_recovery.specs.Recorded.{record_fault, world_in}
use Rattle.world_recovery.specs.BatchesHeld.{held_recovers}
use Rattle.tile_core.specs.RecordSinks.{IsRecordedBy}
use Rattle.durable_core.specs.Kept.{IsKeptBy, HasPending, HasPushed, LeadsTo}
use Rattle.durable_core.specs.Logged.{generation_of, hall_of, disk_of, IsLogOf, KeepsLogOf, Owes, GoesOn}
use Rattle.durable_core.specs.StepLaws.{does, lacks, same_hall, stops}
use Rattle.durable_core.specs.declared.cores.DurableCore.{DurableCore}
use Rattle.durable_core.specs.Rewriting.{IsCopyWhile}
use Rattle.durable_core.specs.Steps.{IsEnded, ended}
use Rattle.durable_core.specs.Written.{KeepsSided, Sided}
use Rattle.durable_core.specs.declared.rewritings.Rewriting.{Rewriting}
use Rattle.durable_core.specs.declared.tails.Tail.{Tail}

-- records

-- the changes of an event that makes none
none_if : (b : Bool) (none : List Write) → none ≡ [] → (if b then none else []) ≡ []
none_if true none is = is
none_if false none is = refl

pub makes_none : (h : Hall) (event : Event) (outcome : Outcome) → writes_of h event ≡ [] → changes_of (writes_by h event outcome) ≡ []
makes_none h event outcome none = ap changes_of (none_if (is_fine outcome) (writes_of h event) none)

pub take_hides : (n : ℕ) (outcome : Outcome) → given outcome ≡ false → log.shows (Take n) outcome ≡ false
take_hides n outcome none = ap (λ (b : Bool). b || (false && is_fine outcome)) none

-- a step of a core's hall is one of the hall over a disk that has not failed
pub lifted : (h next : Hall) (event : Event) (outcome : Outcome) (b c : Bool) → h.stopped ≡ false → next.stopped ≡ false → b ≡ false → c ≡ false → Step h event outcome next
    → Step (record h { stopped = b }) event outcome (record next { stopped = c })
lifted h next event outcome b c was is going on step =
    subst (λ (g : Hall). Step (record h { stopped = b }) event outcome g) (sym (same_hall next c (is ∙ sym on)))
    (subst (λ (g : Hall). Step g event outcome next) (sym (same_hall h b (was ∙ sym going))) step)

-- what a journal keeps of its disk
module _ {D : Type 0} (crashes : D → Bool) (seen : D → Option Sides) (images : D → Sides → Type 0) where
  -- what is kept is durable
  pub durable : ((disk : D) → IfTold (seen disk) (images disk)) → (t : Tail D) (j : log.Journal) → IsKeptBy crashes seen images t j → crashes t.journal.disk ≡ true → log.IsDurable (images t.journal.disk) j
  durable as_read t j kept crash =
      let k = t.journal in
      let told = kept_told (crashes k.disk) (seen k.disk) (images k.disk) k.log.side k.log.version k.log.generation k.log.gate k.rewriter kept.batches kept.copied kept.keeps in
      record {
        some = (told.0, if_told (seen k.disk) told.0 (images k.disk) told.1 (as_read k.disk));
        each = λ c image. subst (λ (w : World). Recovers c w) (sym kept.committed)
            (held_recovers k.log.version kept.batches c kept.whole (kept_images (crashes k.disk) (seen k.disk) (images k.disk) k.log.side k.log.version k.log.generation k.log.gate k.rewriter kept.batches kept.copied kept.keeps crash c image));
      }

  -- and the disk reads as a log of the committed world
  pub reads_batches : (k : Journal D) (batches copied : List Bytes) → Keeps crashes seen images k batches copied → AreWhole (record_fault k.log.version) batches
      → (s : Sides) → seen k.disk ≡ Some s → Recovers s (world_in k.log.version batches)
  reads_batches k batches copied keeps whole s told =
      held_recovers k.log.version batches s whole (kept_now (crashes k.disk) (seen k.disk) (images k.disk) k.log.side k.log.version k.log.generation k.log.gate k.rewriter batches copied keeps s told)

  pub reads : (t : Tail D) (j : log.Journal) → IsKeptBy crashes seen images t j → (s : Sides) → seen t.journal.disk ≡ Some s → Recovers s j.committed
  reads t j kept s told = subst (λ (w : World). Recovers s w) (sym kept.committed) (reads_batches t.journal kept.batches kept.copied kept.keeps kept.whole s told)

-- the disks of which is spoken, with their laws
module _ {D : Type 0} (crashes : D → Bool) (seen : D → Option Sides) (images : D → Sides → Type 0) (moment : D → ℕ) (left_since : D → ℕ → Sides → Type 0)
    (as_read : (disk : D) → IfTold (seen disk) (images disk)) (counts_now : (disk : D) (t : ℕ) (c : Sides) → t ≤ moment disk → images disk c → left_since disk t c)
    (only_now : (disk : D) (c : Sides) → left_since disk (moment disk) c → images disk c) where
  tells : (disk : D) → log.TellsNow images moment left_since disk
  tells disk = record { counts_now = counts_now disk; only_now = only_now disk }

  -- an event of a hall that goes on, which leaves no more than the committed world and the whole one, and makes its changes
  pub owes : (old new : D) (h next : Hall) (event : Event) (outcome : Outcome) (before after : log.Journal) → h.stopped ≡ false → Step h event outcome next
      → log.Leaves moment left_since old new before → (next.stopped ≡ false → log.IsDurable (images new) after)
      → (next.stopped ≡ false → log.whole after ≡ folded (log.whole before) (changes_of (writes_by h event outcome)))
      → (log.shows event outcome ≡ true → EachImage (images new) (λ image. Recovers image next.world))
      → Owes images moment left_since old new h event outcome next before after
  owes old new h next event outcome before after going step leaves durable_then logs shown =
      let turn : log.Turn images moment left_since old new h before event outcome next after = record { stopped = λ is. absurd (cc); leaves = λ _. leaves; durable = durable_then; logs = logs; shown = shown } in
      record { turn = turn; safe = turn_keeps_safe images moment left_since old new h next before after event outcome (tells old) (tells new) step turn }

  -- and one of a hall that has stopped
  pub owes_nothing : (disk : D) (h next : Hall) (event : Event) (outcome : Outcome) (before : log.Journal) → h.stopped ≡ true → next.stopped ≡ true → Step h event outcome next
      → log.shows event outcome ≡ false → Owes images moment left_since disk disk h event outcome next before before
  owes_nothing disk h next event outcome before is still step none =
      let turn : log.Turn images moment left_since disk disk h before event outcome next before = record { stopped = λ _. refl; leaves = λ going. absurd (cc); durable = λ going. absurd (cc); logs = λ going. absurd (cc); shown = λ shows. absurd (cc) } in
      record { turn = turn; safe = turn_keeps_safe images moment left_since disk disk h next before before event outcome (tells disk) (tells disk) step turn }

  -- a core left no log on this disk that did not grow from its own
  abbrev LeavesGrown : DurableCore D → D → Type 0
  LeavesGrown old disk = crashes (disk_of old) ≡ true → (s : Sided) → KeepsSided crashes seen images old.tail.journal s
      → LeavesOnly moment left_since (disk_of old) disk (HasGrown (generation_of old) s.batches)

  -- on its own it left none
  none_left : (core : DurableCore D) → LeavesGrown core (disk_of core)
  none_left core crash s keeps = begins moment left_since (disk_of core) (HasGrown (generation_of core) s.batches)

  -- a call of a core: its journal keeps the log with what the call made, and where frames are given nothing is pending
  pub goes : (old new : DurableCore D) (event : Event) (outcome : Outcome) (before after : log.Journal) → (hall_of old).stopped ≡ false → Step (hall_of old) event outcome (hall_of new)
      → IsLogOf crashes seen images old before → crashes (disk_of new) ≡ crashes (disk_of old)
      → (crashes (disk_of old) ≡ true → log.Leaves moment left_since (disk_of old) (disk_of new) before)
      → ((hall_of new).stopped ≡ false → IsKeptBy crashes seen images new.tail after)
      → ((hall_of new).stopped ≡ false → log.whole after ≡ folded (log.whole before) (changes_of (writes_by (hall_of old) event outcome)))
      → (log.shows event outcome ≡ true → ((hall_of new).stopped ≡ false) × (after.pending ≡ []))
      → LeavesGrown old (disk_of new)
      → GoesOn crashes seen images moment left_since old new event outcome before
  goes old new event outcome before after going step of told leaves kept made shown grown =
      let world : (hall_of new).stopped ≡ false → (hall_of new).world ≡ log.whole after = λ on.
      (steps_make_their_writes (hall_of old) (hall_of new) event outcome step).world ∙ ap (λ (w : World). folded w (changes_of (writes_by (hall_of old) event outcome))) of.world ∙ sym (made on) in
      let committed : (hall_of new).stopped ≡ false → after.pending ≡ [] → after.committed ≡ (hall_of new).world = λ on none.
      sym (world on ∙ ap (folded after.committed) none) in
      record {
        after = after;
        log = λ on. record { kept = kept on; world = world on };
        owes = λ crash.
            let durable_then : (hall_of new).stopped ≡ false → log.IsDurable (images (disk_of new)) after = λ on. durable crashes seen images as_read new.tail after (kept on) (told ∙ crash) in
            owes (disk_of old) (disk_of new) (hall_of old) (hall_of new) event outcome before after going step (leaves crash) durable_then made
            (λ shows c image. let on = shown shows in subst (λ (w : World). Recovers c w) (committed on.0 on.1) ((durable_then on.0).each c image));
        leaves_grown = grown;
      }

  -- a call of a core that has stopped
  pub stays : (core : DurableCore D) (event : Event) (before : log.Journal) → (hall_of core).stopped ≡ true → GoesOn crashes seen images moment left_since core core event (when_stopped event) before
  stays core event before is = record {
    after = before;
    log = λ going. absurd (cc);
    owes = λ crash. owes_nothing (disk_of core) (hall_of core) (hall_of core) event (when_stopped event) before is is (stops (hall_of core) event is) (stopped_says event).not_shown;
    leaves_grown = none_left core;
  }

  -- a call that leaves the journal alone, and makes no change
  pub rests : (old new : DurableCore D) (event : Event) (outcome : Outcome) (before : log.Journal) → (hall_of old).stopped ≡ false → Step (hall_of old) event outcome (hall_of new)
      → KeepsLogOf crashes seen images old before → new.tail ≡ old.tail → writes_of (hall_of old) event ≡ [] → log.shows event outcome ≡ false
      → GoesOn crashes seen images moment left_since old new event outcome before
  rests old new event outcome before going step keeps same none hidden =
      goes old new event outcome before before going step (keeps going) (ap (λ (t : Tail D). crashes t.journal.disk) same)
      (λ _. subst (λ (t : Tail D). log.Leaves moment left_since (disk_of old) t.journal.disk before) (sym same) (begins moment left_since (disk_of old) (RecoversEither before.committed (log.whole before))))
      (λ _. subst (λ (t : Tail D). IsKeptBy crashes seen images t before) (sym same) (keeps going).kept)
      (λ _. sym (ap (folded (log.whole before)) (makes_none (hall_of old) event outcome none)))
      (λ shows. absurd (cc))
      (subst (λ (t : Tail D). LeavesGrown old t.journal.disk) (sym same) (none_left old))

  -- a call that the disk failed
  pub faulted : {E : Type 0} (fault : E) (old new : DurableCore D) (event : Event) (outcome : Outcome) (before k : log.Journal) → (hall_of old).stopped ≡ false → (hall_of new).stopped ≡ true
      → Step (hall_of old) event outcome (hall_of new) → KeepsLogOf crashes seen images old before → crashes (disk_of new) ≡ crashes (disk_of old)
      → LeadsTo crashes seen images moment left_since old.tail new.tail (Err fault) before k → log.shows event outcome ≡ false
      → GoesOn crashes seen images moment left_since old new event outcome before
  faulted fault old new event outcome before k going failed step keeps told leads hidden =
      goes old new event outcome before k going step (keeps going) told leads.leaves (λ on. absurd (cc)) (λ on. absurd (cc)) (λ shows. absurd (cc)) leads.leaves_grown

  -- a call that commits and makes no change
  pub settles : {E : Type 0} (old new : DurableCore D) (event : Event) (outcome : Outcome) (before : log.Journal) → (hall_of old).stopped ≡ false → (hall_of new).stopped ≡ false
      → Step (hall_of old) event outcome (hall_of new) → KeepsLogOf crashes seen images old before → crashes (disk_of new) ≡ crashes (disk_of old)
      → LeadsTo {E = E} crashes seen images moment left_since old.tail new.tail (Ok tt) before (log.settled before) → writes_of (hall_of old) event ≡ []
      → GoesOn crashes seen images moment left_since old new event outcome before
  settles old new event outcome before going on step keeps told leads none =
      goes old new event outcome before (log.settled before) going step (keeps going) told leads.leaves (λ _. leads.kept)
      (λ _. sym (ap (folded (log.whole before)) (makes_none (hall_of old) event outcome none))) (λ _. (on, refl)) leads.leaves_grown

  -- records that were pushed behind a log
  pub pushed : (mid new : Tail D) (k : log.Journal) (changes : List Change) → IsKeptBy crashes seen images mid k
      → HasPending crashes seen images mid new (pending mid.journal ++ records_text changes) → AllByRecursion (IsRecordedIn mid.journal.log.version) changes
      → IsKeptBy crashes seen images new (record k { pending = k.pending ++ changes })
  pushed mid new k changes kept pends are = let version = sym pends.same.version in record {
    batches = kept.batches;
    copied = kept.copied;
    keeps = pends.kept kept.batches kept.copied kept.keeps;
    whole = subst (λ (v : ℕ). AreWhole (record_fault v) kept.batches) version kept.whole;
    committed = kept.committed ∙ ap (λ (v : ℕ). world_in v kept.batches) version;
    pending_is = pends.pending_is ∙ ap (λ (l : Bytes). l ++ records_text changes) kept.pending_is ∙ sym (flat_map-append record_writer k.pending changes);
    recorded = subst (λ (v : ℕ). AllByRecursion (IsRecordedIn v) (k.pending ++ changes)) version (each-append (IsRecordedIn mid.journal.log.version) k.pending changes kept.recorded are);
    copies = subst (λ (v : ℕ). IsCopyWhile new.rewriting v kept.copied kept.batches) version
        (subst (λ (r : Rewriting). IsCopyWhile r mid.journal.log.version kept.copied kept.batches) (sym pends.rewriting) kept.copies);
  }

  -- nothing was pushed
  left : (mid new : Tail D) → (new ≡ mid) ⊎ HasPending crashes seen images mid new (pending mid.journal)
      → HasPending crashes seen images mid new (pending mid.journal ++ records_text [])
  left mid new (inl same) = subst (λ (t : Tail D). HasPending crashes seen images mid t (pending mid.journal ++ [])) (sym same)
      (record { pending_is = sym (append-nil (pending mid.journal)); same = record { disk = refl; side = refl; version = refl; generation = refl; gate = refl; rewriter = refl; failed = refl }; rewriting = refl; kept = λ batches copied kept. kept })
  left mid new (inr pends) = record { pending_is = pends.pending_is ∙ sym (append-nil (pending mid.journal)); same = pends.same; rewriting = pends.rewriting; kept = pends.kept }

  -- what a ledger took of an event
  pub led : (mid new : Tail D) (h : Hall) (event : Event) (answer : CallOutcome)
      → (answer ≡ called.Ok → IsRecordedBy (HasPushed crashes seen images) h event mid new)
      → (answer ≢ called.Ok → (new ≡ mid) ⊎ HasPending crashes seen images mid new (pending mid.journal))
      → let changes = changes_of (writes_by h event (Answered answer)) in
      HasPending crashes seen images mid new (pending mid.journal ++ records_text changes) × AllByRecursion (IsRecordedIn mid.journal.log.version) changes
  led mid new h event called.Ok took stayed =
      let by = took refl in
      let changes = changes_of (writes_of h event) in
      (by.took.pends, subst (λ (v : ℕ). AllByRecursion (IsRecordedIn v) changes) (sym by.took.latest) (recorded_newest changes by.recorded))
  led mid new h event called.Full took stayed = (left mid new (stayed (λ e. cc e)), tt)
  led mid new h event called.Gone took stayed = (left mid new (stayed (λ e. cc e)), tt)
  led mid new h event called.LogFault took stayed = (left mid new (stayed (λ e. cc e)), tt)
  led mid new h event called.Stopped took stayed = (left mid new (stayed (λ e. cc e)), tt)
  led mid new h event called.Spent took stayed = (left mid new (stayed (λ e. cc e)), tt)
  led mid new h event called.Memory took stayed = (left mid new (stayed (λ e. cc e)), tt)

  -- what else a tail says of a rewriting, where the log is copied as far
  pub turned : (late new : Tail D) (k : log.Journal) → new.journal ≡ late.journal
      → ((v : ℕ) (copied batches : List Bytes) → IsCopyWhile late.rewriting v copied batches → IsCopyWhile new.rewriting v copied batches)
      → IsKeptBy crashes seen images late k → IsKeptBy crashes seen images new k
  turned late new k same copies kept = record {
    batches = kept.batches;
    copied = kept.copied;
    keeps = subst (λ (l : Journal D). Keeps crashes seen images l kept.batches kept.copied) (sym same) kept.keeps;
    whole = subst (λ (l : Journal D). AreWhole (record_fault l.log.version) kept.batches) (sym same) kept.whole;
    committed = kept.committed ∙ ap (λ (l : Journal D). world_in l.log.version kept.batches) (sym same);
    pending_is = ap pending same ∙ kept.pending_is;
    recorded = subst (λ (l : Journal D). AllByRecursion (IsRecordedIn l.log.version) k.pending) (sym same) kept.recorded;
    copies = subst (λ (l : Journal D). IsCopyWhile new.rewriting l.log.version kept.copied kept.batches) (sym same) (copies late.journal.log.version kept.copied kept.batches kept.copies);
  }

  -- a call whose records were pushed behind a commit
  pub served : {E : Type 0} (old new : DurableCore D) (mid late : Tail D) (event : Event) (answer : CallOutcome) (before k : log.Journal) → (hall_of old).stopped ≡ false
      → Step (hall_of old) event (Answered answer) (hall_of new) → KeepsLogOf crashes seen images old before → crashes mid.journal.disk ≡ crashes (disk_of old)
      → LeadsTo {E = E} crashes seen images moment left_since old.tail mid (Ok tt) before k
      → (let changes = changes_of (writes_by (hall_of old) event (Answered answer)) in
      HasPending crashes seen images mid late (pending mid.journal ++ records_text changes) × AllByRecursion (IsRecordedIn mid.journal.log.version) changes)
      → new.tail.journal ≡ late.journal → ((v : ℕ) (copied batches : List Bytes) → IsCopyWhile late.rewriting v copied batches → IsCopyWhile new.tail.rewriting v copied batches)
      → log.shows event (Answered answer) ≡ false → GoesOn crashes seen images moment left_since old new event (Answered answer) before
  served old new mid late event answer before k going step keeps told leads took same copies hidden =
      let changes = changes_of (writes_by (hall_of old) event (Answered answer)) in
      let disk : disk_of new ≡ mid.journal.disk = ap (λ (l : Journal D). l.disk) same ∙ took.0.same.disk in
      goes old new event (Answered answer) before (record k { pending = k.pending ++ changes }) going step (keeps going) (ap crashes disk ∙ told)
      (λ crash. subst (λ (d : D). log.Leaves moment left_since (disk_of old) d before) (sym disk) (leads.leaves crash))
      (λ _. turned late new.tail (record k { pending = k.pending ++ changes }) same copies (pushed mid late k changes leads.kept took.0 took.1))
      (λ _. folded-append k.committed k.pending changes ∙ ap (λ (w : World). folded w changes) leads.same)
      (λ shows. absurd (cc))
      (subst (LeavesGrown old) (sym disk) leads.leaves_grown)

  -- a step of a rewriting
  pub stepped : (old new : DurableCore D) (answer : CallOutcome) (before : log.Journal) → (hall_of old).stopped ≡ false → answer ≢ called.LogFault → IsEnded answer → hall_of new ≡ hall_of old
      → KeepsLogOf crashes seen images old before → crashes (disk_of new) ≡ crashes (disk_of old)
      → LeadsTo crashes seen images moment left_since old.tail new.tail (ended answer) before (log.settled before)
      → GoesOn crashes seen images moment left_since old new Rewrite (Answered answer) before
  stepped old new answer before going fine (inl is) same keeps told leads =
      subst (λ (a : CallOutcome). GoesOn crashes seen images moment left_since old new Rewrite (Answered a) before) (sym is)
      (settles old new Rewrite (Answered called.Ok) before going (ap (λ (h : Hall). h.stopped) same ∙ going) (does (hall_of old) (hall_of new) Rewrite going refl same) keeps told
      (subst (λ (a : CallOutcome). LeadsTo crashes seen images moment left_since old.tail new.tail (ended a) before (log.settled before)) is leads) refl)
  stepped old new answer before going fine (inr (inl is)) same keeps told leads =
      subst (λ (a : CallOutcome). GoesOn crashes seen images moment left_since old new Rewrite (Answered a) before) (sym is)
      (settles old new Rewrite (Answered called.Memory) before going (ap (λ (h : Hall). h.stopped) same ∙ going) (lacks (hall_of old) (hall_of new) Rewrite refl going refl same) keeps told
      (subst (λ (a : CallOutcome). LeadsTo crashes seen images moment left_since old.tail new.tail (ended a) before (log.settled before)) is leads) refl)
  stepped old new answer before going fine (inr (inr is)) same keeps told leads = absurd (fine is)

  -- the last call, which commits and stops the hall
  pub retires : {E : Type 0} (old new : DurableCore D) (before : log.Journal) → (hall_of old).stopped ≡ false → (hall_of new).stopped ≡ true → (hall_of new).world ≡ (hall_of old).world
      → Step (hall_of old) Retire (answer called.Ok) (hall_of new) → KeepsLogOf crashes seen images old before → crashes (disk_of new) ≡ crashes (disk_of old)
      → LeadsTo {E = E} crashes seen images moment left_since old.tail new.tail (Ok tt) before (log.settled before)
      → GoesOn crashes seen images moment left_since old new Retire (answer called.Ok) before
  retires old new before going is same step keeps told leads = record {
    after = log.settled before;
    log = λ on. absurd (cc);
    owes = λ crash. owes (disk_of old) (disk_of new) (hall_of old) (hall_of new) Retire (answer called.Ok) before (log.settled before) going step (leads.leaves crash) (λ on. absurd (cc)) (λ on. absurd (cc))
        (λ _ c image. subst (λ (w : World). Recovers c w) (sym (same ∙ (keeps going).world)) ((durable crashes seen images as_read new.tail (log.settled before) leads.kept (told ∙ crash)).each c image));
    leaves_grown = leads.leaves_grown;
  }
