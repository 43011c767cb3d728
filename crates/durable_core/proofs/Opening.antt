-- The world of a log is sound, and a core over it has a log and stands at an opening.
use Rattle.std.proofs.Common.{◌≡◌, ◌⊎◌, ◌∙◌, ◌≤◌, ◌<◌, ◌&&◌, ℕ, Bool, true, false, List, [], ◌∷◌, Option, Some, Result, refl, sym, ap, subst, inl, inr, ⊎_elim, arith}
use Rattle.std.proofs.Math.Nat.{eq-or-lt_of_le}
use Rattle.std.specs.List.{AllByRecursion, list_all}
use Rattle.std.proofs.lemmas.Bool.{and_from}
use Rattle.byte_text.specs.Names.{Bytes, is_name}
use Rattle.outside.specs.Sides.{Sides, IfTold}
use Rattle.outside.specs.Crashes.{EachImage, LeavesOnly}
use Rattle.outside.specs.CrashLaws.{since_carries, then, weaker}
use Rattle.log_sides.specs.Texts.{newest}
use Rattle.journal.specs.Growing.{grown_on, grown_opened}
use Rattle.journal.specs.Logs.{Grows, HasGrown}
use Rattle.journal.specs.Openings.{IsLeftByOpening, opened_generation, opened_version}
use Rattle.world_data.specs.Filters.{are_fields}
use Rattle.world_data.specs.Records.{record_reader, is_kept_deadline, is_kept_field}
use Rattle.world_data.specs.Sound.{IsSoundObject, IsSoundWorld, is_sound_channel}
use Rattle.world_data.specs.Worlds.{is_sorted_world}
use Rattle.world_data.specs.declared.channels.Channel.{Channel}
use Rattle.world_data.specs.declared.objects.Object.{Object}
use Rattle.world_data.specs.declared.worlds.Change.TheVariants.{Put, SetChan}
use Rattle.world_data.specs.declared.worlds.World.{World}
use Rattle.world_model.specs.Halls.{Hall}
use Rattle.world_model.specs.Histories.{opening_hall}
use Rattle.world_model.specs.declared.events.Opening.{Opening}
use Rattle.journal.specs.Journals.{Keeps, pending}
use Rattle.journal.specs.KeptLaws.{kept_told}
use Rattle.journal.specs.Openings.{AreWhole}
use Rattle.journal.specs.declared.journals.Journal.{Journal}
use Rattle.journal.specs.declared.openings.OpenFault.{OpenFault}
use Rattle.journal.specs.declared.openings.OpenFault.TheVariants.{Disk, Memory}
use Rattle.log_record.specs.RecordsRead.{record_read}
use Rattle.log_record.specs.Recovery.{Recovers, RecoversEither}
use Rattle.log_record.specs.Laws.{Stood}
use Rattle.log_record.specs.TurnLaws.{openings_stand}
use Rattle.log_record.specs.Words.{IsRecorded}
use Rattle.world_recovery.specs.Recorded.{record_fault, world_in}
use Rattle.world_recovery.specs.Opened.{IsOpened, AreRecorded, RecoversSince}
use Rattle.durable_core.specs.Kept.{IsKeptBy, LeadsTo, settled_log}
use Rattle.durable_core.specs.Logged.{hall_of, disk_of}
use Rattle.durable_core.specs.Opened.{IsHalfRewritten, IsLeftByStart, IsOpening, ReadsAlike, WasRead}
use Rattle.durable_core.specs.StepLaws.{same_hall}
use Rattle.durable_core.specs.Rewriting.{IsCopyWhile}
use Rattle.durable_core.specs.declared.rewritings.Rewriting.{Rewriting}
use Rattle.durable_core.specs.declared.rewritings.Rewriting.TheVariants.{Idle}
use Rattle.durable_core.specs.declared.tails.Tail.{Tail}
use Rattle.durable_core.specs.declared.cores.DurableCore.{DurableCore}
use Rattle.durable_core.proofs.Copying.{world_sorted}
use Rattle.durable_core.proofs.Going.{durable, reads_batches}

-- what has a record is sound
all_three : (a b c d e : Bool) → (a && b && c && d && e) ≡ true → (a ≡ true) × (b ≡ true) × (c ≡ true)
all_three true true true d e is = (refl, refl, refl)
all_three true true false d e is = absurd (cc is)
all_three true false c d e is = absurd (cc is)
all_three false b c d e is = absurd (cc is)

object_sound : (o : Object) → IsRecorded (Put o) → IsSoundObject o
object_sound o is =
    let read = record_read (record_reader (Put o)) (Put o) is.read_back in
    let are = all_three (is_name o.key) (is_name o.id) (are_fields o.fields) (list_all is_kept_field o.fields) (is_kept_deadline o.deadline) read.1 in
    record { key = are.0; id = are.1; accepted = read.2; fields = are.2 }

objects_sound : (objects : List Object) → AllByRecursion (λ o. IsRecorded (Put o)) objects → AllByRecursion IsSoundObject objects
objects_sound [] are = tt
objects_sound (o ∷ objects) are = (object_sound o are.0, objects_sound objects are.1)

channels_sound : (channels : List Channel) → AllByRecursion (λ c. IsRecorded (SetChan c)) channels → list_all is_sound_channel channels ≡ true
channels_sound [] are = refl
channels_sound (c ∷ channels) are =
    and_from (is_sound_channel c) (list_all is_sound_channel channels) (record_read (record_reader (SetChan c)) (SetChan c) are.0.read_back).2 (channels_sound channels are.1)

pub world_sound : (v : ℕ) (batches : List Bytes) (w : World) → w ≡ world_in v batches → AreRecorded w → IsSoundWorld w
world_sound v batches w is are = record {
  sorted = subst (λ (x : World). is_sorted_world x ≡ true) (sym is) (world_sorted v batches);
  objects = objects_sound w.objects are.objects;
  channels = channels_sound w.channels are.channels;
}

-- the hall of a core over a world
pub opened_hall : (h : Hall) (w : World) (logged : ℕ) → h ≡ opening_hall w logged → record h { stopped = false } ≡ opening_hall h.world h.logged
opened_hall h w logged is = same_hall h false (ap (λ (g : Hall). g.stopped) is) ∙ is ∙ ap (λ (g : Hall). opening_hall g.world g.logged) (sym is)

-- from a disk to others
module _ {D : Type 0} (crashes : D → Bool) (seen : D → Option Sides) (images : D → Sides → Type 0) (moment : D → ℕ) (left_since : D → ℕ → Sides → Type 0) (old mid new : D) (w : World) where
  abbrev AlsoLeaves : Type 0
  AlsoLeaves = LeavesOnly moment left_since mid new (RecoversEither w w)

  one_of_both : (c : Sides) → RecoversEither w w c → Recovers c w
  one_of_both c (inl r) = r
  one_of_both c (inr r) = r

  -- what was recovered since a moment is so still
  pub since_on : (v : ℕ) (kept : List Bytes → Type 0) → IsOpened crashes seen moment left_since old mid w v kept → (s : Sides) → seen old ≡ Some s → crashes old ≡ true
      → AlsoLeaves → RecoversSince moment left_since old new w
  since_on v kept opened s told crash leaves =
      let since = opened.since s told crash in
      record {
        since = since.since;
        begun = since.begun;
        past = let past = since.past in omega (arith, past, leaves.later);
        each = since_carries moment left_since mid new (λ c. Recovers c w) since.since (weaker moment left_since mid new (RecoversEither w w) (λ c. Recovers c w) one_of_both leaves) since.past since.each;
      }

  pub was_read : (v : ℕ) (kept : List Bytes → Type 0) → IsOpened crashes seen moment left_since old mid w v kept
      → ((s : Sides) → seen old ≡ Some s → crashes old ≡ true → AlsoLeaves) → WasRead crashes seen moment left_since old new w
  was_read v kept opened leaves = (
    v,
    record {
      batches = opened.batches;
      whole = opened.whole;
      world_is = opened.world_is;
      holds = opened.holds;
      keeps = λ s told. tt;
      recovers = opened.recovers;
      since = λ s told crash. since_on v kept opened s told crash (leaves s told crash);
    },
  )

  -- what a crash leaves of an opening, where a log of an older version is rewritten behind it, and one of the newest is not
  pub start_leaves : (s : Sides) (v : ℕ) → v ≡ opened_version s → v ≤ newest → (v ≡ newest → new ≡ mid) → Recovers s w
      → LeavesOnly moment left_since old mid (IsLeftByOpening (images old) s) → AlsoLeaves → LeavesOnly moment left_since old new (IsLeftByStart (images old) s)
  start_leaves s v version known stays before opened leaves = by_version (eq-or-lt_of_le known)
    where
      begun : LeavesOnly moment left_since old mid (IsLeftByStart (images old) s)
      begun = weaker moment left_since old mid (IsLeftByOpening (images old) s) (IsLeftByStart (images old) s) (λ c left. inl left) opened

      by_version : (v ≡ newest) ⊎ (v < newest) → LeavesOnly moment left_since old new (IsLeftByStart (images old) s)
      by_version (inl is) = subst (λ (d : D). LeavesOnly moment left_since old d (IsLeftByStart (images old) s)) (sym (stays is)) begun
      by_version (inr less) = then moment left_since old mid new (IsLeftByStart (images old) s) begun
          (weaker moment left_since mid new (RecoversEither w w) (IsLeftByStart (images old) s) (λ c either. inr (subst (λ (k : ℕ). k < newest) version less, (w, before, one_of_both c either))) leaves)

  -- nor does it leave one that did not grow from what the log of the disk grew from
  pub start_grown : (s : Sides) (before : ℕ) (earlier : List Bytes) → HasGrown before earlier s → EachImage (images old) (HasGrown before earlier)
      → LeavesOnly moment left_since old mid (IsLeftByOpening (images old) s) → LeavesOnly moment left_since mid new (HasGrown before earlier)
      → LeavesOnly moment left_since old new (HasGrown before earlier)
  start_grown s before earlier has each opened leaves =
      then moment left_since old mid new (HasGrown before earlier)
      (weaker moment left_since old mid (IsLeftByOpening (images old) s) (HasGrown before earlier) (λ c left. by c left) opened) leaves
    where
      by : (c : Sides) → IsLeftByOpening (images old) s c → HasGrown before earlier c
      by c (inl image) = each c image
      by c (inr fresh) = let used = has.holds.1.used in let none = fresh.0 in absurd (cc)

-- a journal that was opened keeps batches that grew from what the log of the disk grew from
pub opened_grows : {D : Type 0} (crashes : D → Bool) (seen : D → Option Sides) (moment : D → ℕ) (left_since : D → ℕ → Sides → Type 0) (kept : List Bytes → Type 0) (old : D) (k : Journal D) (w : World) (s : Sides)
    → (opened : IsOpened crashes seen moment left_since old k.disk w k.log.version kept) → seen old ≡ Some s → k.log.generation ≡ opened_generation s
    → (before : ℕ) (earlier : List Bytes) → HasGrown before earlier s → Grows before k.log.generation earlier opened.batches
opened_grows crashes seen moment left_since kept old k w s opened told generation before earlier has =
    subst (λ (n : ℕ). Grows before n earlier opened.batches) (sym generation) (grown_opened s k.log.version before opened.batches earlier (opened.holds s told) has)

-- the disks of which is spoken, with their laws
module _ {D : Type 0} (crashes : D → Bool) (seen : D → Option Sides) (images : D → Sides → Type 0) (moment : D → ℕ) (left_since : D → ℕ → Sides → Type 0)
    (as_read : (disk : D) → IfTold (seen disk) (images disk)) where
  -- the log of an opened journal is that of its world
  pub opened_kept : (old : D) (t : Tail D) (w : World) (s : Sides) → IsOpened crashes seen moment left_since old t.journal.disk w t.journal.log.version (λ batches. Keeps crashes seen images t.journal batches [])
      → seen old ≡ Some s → pending t.journal ≡ [] → t.rewriting ≡ Idle → IsKeptBy crashes seen images t (settled_log w)
  opened_kept old t w s opened told none idle = record {
    batches = opened.batches;
    copied = [];
    keeps = opened.keeps s told;
    whole = opened.whole;
    committed = opened.world_is;
    pending_is = none;
    recorded = tt;
    copies = subst (λ (r : Rewriting). IsCopyWhile r t.journal.log.version [] opened.batches) (sym idle) tt;
  }

  -- and a step behind an opening that leads on from it leaves none that did not grow so
  pub opened_leaves : {E : Type 0} (old : D) (t new : Tail D) (w : World) (s : Sides) (r : Result Unit E)
      → (opened : IsOpened crashes seen moment left_since old t.journal.disk w t.journal.log.version (λ batches. Keeps crashes seen images t.journal batches []))
      → seen old ≡ Some s → t.journal.log.generation ≡ opened_generation s → crashes t.journal.disk ≡ true
      → LeadsTo crashes seen images moment left_since t new r (settled_log w) (settled_log w)
      → (before : ℕ) (earlier : List Bytes) → HasGrown before earlier s → LeavesOnly moment left_since t.journal.disk new.journal.disk (HasGrown before earlier)
  opened_leaves old t new w s r opened told generation crash leads before earlier has =
      let k = t.journal in
      let grows = opened_grows crashes seen moment left_since (λ batches. Keeps crashes seen images k batches []) old k w s opened told generation before earlier has in
      weaker moment left_since k.disk new.journal.disk (HasGrown k.log.generation opened.batches) (HasGrown before earlier)
      (λ c grown. grown_on before k.log.generation earlier opened.batches c grows grown)
      (leads.leaves_grown crash (record { batches = opened.batches; copied = [] }) (opened.keeps s told))

  -- and all stands at its opening
  pub is_opening : (old : D) (c : DurableCore D) (count : ℕ) → RecoversSince moment left_since old (disk_of c) (hall_of c).world
      → hall_of c ≡ opening_hall (hall_of c).world (hall_of c).logged → IsKeptBy crashes seen images c.tail (settled_log (hall_of c).world) → crashes (disk_of c) ≡ true
      → IsOpening images moment left_since (moment old) count c
  is_opening old c count since is kept crash =
      let w = (hall_of c).world in
      let at : Opening = record { world = w; logged = (hall_of c).logged; moment = since.since; count = count } in
      let holds = durable crashes seen images as_read c.tail (settled_log w) kept crash in
      record {
        opening = at;
        world = refl;
        logged = refl;
        begun = since.begun;
        count_is = refl;
        stood = subst (λ (h : Hall). Stood images moment left_since (disk_of c) at [] h (settled_log w)) (sym is) (openings_stand images moment left_since (disk_of c) at since.past since.each holds);
      }

  -- a disk that was opened, and handed back for want of memory
  pub reads_alike : (k : Journal D) (batches copied : List Bytes) (new : D) (w : World) (s : Sides) (why : OpenFault) → why ≡ Memory → Keeps crashes seen images k batches copied
      → AreWhole (record_fault k.log.version) batches → w ≡ world_in k.log.version batches → Recovers s w → new ≡ k.disk → ReadsAlike (seen new) s why
  reads_alike k batches copied new w s why cause keeps whole is before back =
      let now = kept_told (crashes k.disk) (seen k.disk) (images k.disk) k.log.side k.log.version k.log.generation k.log.gate k.rewriter batches copied keeps in
      record {
        cause = cause;
        world = w;
        before = before;
        now = now.0;
        told = ap seen back ∙ now.1;
        after = subst (λ (x : World). Recovers now.0 x) (sym is) (reads_batches crashes seen images k batches copied keeps whole now.0 now.1);
      }

  -- one that failed while a log of an older version was rewritten
  pub half_rewritten : ((disk : D) (t : ℕ) (c : Sides) → t ≤ moment disk → images disk c → left_since disk t c) → ((disk : D) (c : Sides) → left_since disk (moment disk) c → images disk c)
      → (t : Tail D) (new : D) (w : World) (s : Sides) (why : OpenFault) → why ≡ Disk → IsKeptBy crashes seen images t (settled_log w) → Recovers s w → t.journal.log.version ≡ opened_version s
      → t.journal.log.version < newest → (crashes t.journal.disk ≡ true → LeavesOnly moment left_since t.journal.disk new (RecoversEither w w)) → crashes new ≡ crashes t.journal.disk
      → IsHalfRewritten (crashes new) (images new) s why
  half_rewritten counts_now only_now t new w s why cause kept before version less leaves told = record {
    cause = cause;
    old = subst (λ (k : ℕ). k < newest) version less;
    world = w;
    before = before;
    each = λ crash c image.
        let old = t.journal.disk in
        let goes = sym told ∙ crash in
        let left = leaves goes in
        ⊎_elim (λ now. (durable crashes seen images as_read t (settled_log w) kept goes).each c (only_now old c now)) (λ either. one_of_both crashes seen images moment left_since old old new w c either)
        (left.either (moment old) c (omega arith) (counts_now new (moment old) c left.later image));
  }
