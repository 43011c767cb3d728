-- The steps of a rewriting, each of which leads from a log to the same log.
use Rattle.std.proofs.Common.{◌≡◌, ◌∙◌, ℕ, Bool, true, List, [], Option, Result, Ok, Err, ⊎_elim, refl, sym, ap, subst, inl, inr, arith}
use Rattle.std.proofs.lemmas.Result.{on_ok_weaker}
use Rattle.std.specs.Prelude.{take, drop, ◌+◌}
use Rattle.std.specs.List.{AllByRecursion}
use Rattle.byte_text.specs.Names.{Bytes}
use Rattle.world_data.specs.declared.worlds.World.{World}
use Rattle.outside.specs.Sides.{Sides}
use Rattle.outside.specs.Crashes.{LeavesOnly}
use Rattle.outside.specs.CrashLaws.{then, weaker}
use Rattle.log_sides.specs.Texts.{committed, newest}
use Rattle.journal.specs.Growing.{grown_of, grown_on, grows_kept, grows_on, new_grown}
use Rattle.journal.specs.Logs.{HasGrown, HoldsLog, HoldsOf, HoldsOrNew}
use Rattle.journal.specs.Standing.{of_any}
use Rattle.journal.specs.Journals.{Keeps, pending}
use Rattle.journal.specs.Openings.{AreWhole}
use Rattle.log_record.specs.Batches.{records_text}
use Rattle.log_record.specs.Versions.{IsRecordedIn}
use Rattle.log_record.specs.VersionLaws.{recorded_any, recorded_newest}
use Rattle.log_record.specs.Recovery.{Recovers, RecoversEither}
use Rattle.log_record.specs.Journals as log
use Rattle.world_recovery.specs.Recorded.{record_fault, world_in}
use Rattle.world_recovery.specs.BatchesHeld.{committed_world, committed_whole, held_recovers}
use Rattle.durable_core.specs.Kept.{IsKeptBy, LeadsTo}
use Rattle.durable_core.specs.Pieces.{IsNextPiece}
use Rattle.durable_core.specs.Rewriting.{changes_of, items_left, last_behind, IsCopiedTo, IsCopy, IsCopyWhile}
use Rattle.durable_core.specs.Written.{KeepsGrown, KeepsSided, Sided}
use Rattle.durable_core.specs.declared.pieces.NextPiece.{NextPiece}
use Rattle.durable_core.specs.declared.rewritings.LastCopied.{LastCopied}
use Rattle.durable_core.specs.declared.rewritings.LastCopied.TheVariants as last
use Rattle.durable_core.specs.declared.rewritings.Rewriting.{Rewriting}
use Rattle.durable_core.specs.declared.rewritings.Rewriting.TheVariants.{Going, Idle}
use Rattle.durable_core.specs.declared.tails.Tail.{Tail}
use Rattle.durable_core.proofs.Copying.{all_copied, items_copied, none_copied, world_sorted}

-- the items of a piece were copied
pub piece_copied : (from : LastCopied) (next : NextPiece) (v : ℕ) (copied batches : List Bytes) → IsNextPiece from (world_in v batches) next → IsCopy from v copied batches
    → IsCopy next.last v (committed copied next.piece.records) batches
piece_copied from next v copied batches is copies =
    let w = world_in v batches in
    let items = take 256 (items_left from w) in
    let recorded = recorded_newest (changes_of items) is.recorded in
    let on = (items_copied w (world_sorted v batches) items (drop 256 (items_left from w)) from (world_in newest copied) is.split copies.part).0 in
    let made : committed copied next.piece.records ≡ committed copied (records_text (changes_of items)) = ap (committed copied) is.records in
    record {
      whole = subst (AreWhole (record_fault newest)) (sym made) (committed_whole newest copied (changes_of items) copies.whole recorded);
      part = subst (λ (l : LastCopied). IsCopiedTo l (world_in newest (committed copied next.piece.records)) w) (sym is.last_is)
          (subst (λ (x : World). IsCopiedTo (last_behind from items) x w) (sym (ap (world_in newest) made ∙ committed_world newest copied (changes_of items) recorded)) on);
    }

-- where no item is left, both make one world
pub one_world : (from : LastCopied) (v : ℕ) (copied batches : List Bytes) → items_left from (world_in v batches) ≡ [] → IsCopy from v copied batches → world_in newest copied ≡ world_in v batches
one_world from v copied batches none copies = all_copied (world_in v batches) (world_sorted v batches) from (world_in newest copied) none copies.part

module _ {D : Type 0} (crashes : D → Bool) (seen : D → Option Sides) (images : D → Sides → Type 0) (moment : D → ℕ) (left_since : D → ℕ → Sides → Type 0) (old new : Tail D) (j : log.Journal) (kept : IsKeptBy crashes seen images old j) where
  abbrev v : ℕ
  v = old.journal.log.version

  abbrev g : ℕ
  g = old.journal.log.generation

  keeps_on : (k : ℕ) (batches copied : List Bytes) → new.journal.log.version ≡ k → Keeps crashes seen images new.journal batches copied → AreWhole (record_fault k) batches → j.committed ≡ world_in k batches
      → AllByRecursion (IsRecordedIn k) j.pending → pending old.journal ≡ [] → pending new.journal ≡ [] → IsCopyWhile new.rewriting k copied batches → IsKeptBy crashes seen images new j
  keeps_on k batches copied version keeps whole is recorded none still copies = record {
    batches = batches;
    copied = copied;
    keeps = keeps;
    whole = subst (λ (n : ℕ). AreWhole (record_fault n) batches) (sym version) whole;
    committed = is ∙ ap (λ (n : ℕ). world_in n batches) (sym version);
    pending_is = still ∙ sym none ∙ kept.pending_is;
    recorded = subst (λ (n : ℕ). AllByRecursion (IsRecordedIn n) j.pending) (sym version) recorded;
    copies = subst (λ (n : ℕ). IsCopyWhile new.rewriting n copied batches) (sym version) copies;
  }

  -- what is held is recovered
  recovers : (k : ℕ) (batches : List Bytes) → AreWhole (record_fault k) batches → j.committed ≡ world_in k batches → (c : Sides) → HoldsLog k batches c → RecoversEither j.committed (log.whole j) c
  recovers k batches whole is c holds = inl (subst (λ (w : World). Recovers c w) (sym is) (held_recovers k batches c whole holds))

  held : LeavesOnly moment left_since old.journal.disk new.journal.disk (HoldsOf v g kept.batches) → log.Leaves moment left_since old.journal.disk new.journal.disk j
  held left = weaker moment left_since old.journal.disk new.journal.disk (HoldsOf v g kept.batches) (RecoversEither j.committed (log.whole j))
      (λ c holds. recovers v kept.batches kept.whole kept.committed c (of_any c v g kept.batches holds)) left

  abbrev LeavesLog : Type 0
  LeavesLog = (batches copied : List Bytes) → Keeps crashes seen images old.journal batches copied → crashes old.journal.disk ≡ true
      → LeavesOnly moment left_since old.journal.disk new.journal.disk (HoldsOf v g batches)

  abbrev LeavesGrown : Type 0
  LeavesGrown = crashes old.journal.disk ≡ true → (s : Sided) → KeepsSided crashes seen images old.journal s
      → LeavesOnly moment left_since old.journal.disk new.journal.disk (HasGrown g s.batches)

  -- what is held grew
  held_grown : LeavesLog → LeavesGrown
  held_grown left told s keeps = weaker moment left_since old.journal.disk new.journal.disk (HoldsOf v g s.batches) (HasGrown g s.batches) (λ c holds. grown_of v g s.batches c holds) (left s.batches s.copied keeps told)

  -- the batches stay
  stay_grown : (t : Sided) → new.journal.log.generation ≡ g → KeepsSided crashes seen images new.journal t → KeepsGrown crashes seen images new.journal g t.batches
  stay_grown t same keeps = record { sides = t; keeps = keeps; grows = grows_kept g new.journal.log.generation t.batches same }

  -- the new side is begun
  pub begun : {E : Type 0} → new.journal.log.version ≡ v → new.journal.log.generation ≡ g → ((batches copied : List Bytes) → Keeps crashes seen images old.journal batches copied → Keeps crashes seen images new.journal batches []) → LeavesLog
      → pending old.journal ≡ [] → pending new.journal ≡ [] → new.rewriting ≡ Going last.Nothing → LeadsTo {E = E} crashes seen images moment left_since old new (Ok tt) j j
  begun version same keeps left none still going = record {
    same = refl;
    leaves = λ told. held (left kept.batches kept.copied kept.keeps told);
    kept = keeps_on v kept.batches [] version (keeps kept.batches kept.copied kept.keeps) kept.whole kept.committed kept.recorded none still
        (subst (λ (r : Rewriting). IsCopyWhile r v [] kept.batches) (sym going) (record { whole = tt; part = none_copied (world_in v kept.batches) }));
    leaves_grown = held_grown left;
    grown = λ s k. stay_grown (record { batches = s.batches; copied = [] }) same (keeps s.batches s.copied k);
  }

  -- a piece is copied
  pub copied_on : {E : Type 0} → (from : LastCopied) (next : NextPiece) → new.journal.log.version ≡ v → new.journal.log.generation ≡ g → old.rewriting ≡ Going from → IsNextPiece from j.committed next
      → ((batches copied : List Bytes) → Keeps crashes seen images old.journal batches copied → Keeps crashes seen images new.journal batches (committed copied next.piece.records)) → LeavesLog
      → pending old.journal ≡ [] → pending new.journal ≡ [] → new.rewriting ≡ Going next.last → LeadsTo {E = E} crashes seen images moment left_since old new (Ok tt) j j
  copied_on from next version same was is keeps left none still going =
      let copies : IsCopy from v kept.copied kept.batches = subst (λ (r : Rewriting). IsCopyWhile r v kept.copied kept.batches) was kept.copies in
      let piece = subst (λ (w : World). IsNextPiece from w next) kept.committed is in
      record {
        same = refl;
        leaves = λ told. held (left kept.batches kept.copied kept.keeps told);
        kept = keeps_on v kept.batches (committed kept.copied next.piece.records) version (keeps kept.batches kept.copied kept.keeps) kept.whole kept.committed kept.recorded none still
            (subst (λ (r : Rewriting). IsCopyWhile r v (committed kept.copied next.piece.records) kept.batches) (sym going) (piece_copied from next v kept.copied kept.batches piece copies));
        leaves_grown = held_grown left;
        grown = λ s k. stay_grown (record { batches = s.batches; copied = committed s.copied next.piece.records }) same (keeps s.batches s.copied k);
      }

  -- what was committed is read
  pub read_on : {E : Type 0} → new.journal.log.version ≡ v → new.journal.log.generation ≡ g → ((batches copied : List Bytes) → Keeps crashes seen images old.journal batches copied → Keeps crashes seen images new.journal batches copied) → LeavesLog
      → pending old.journal ≡ [] → pending new.journal ≡ [] → new.rewriting ≡ old.rewriting → LeadsTo {E = E} crashes seen images moment left_since old new (Ok tt) j j
  read_on version one keeps left none still same = record {
    same = refl;
    leaves = λ told. held (left kept.batches kept.copied kept.keeps told);
    kept = keeps_on v kept.batches kept.copied version (keeps kept.batches kept.copied kept.keeps) kept.whole kept.committed kept.recorded none still
        (subst (λ (r : Rewriting). IsCopyWhile r v kept.copied kept.batches) (sym same) kept.copies);
    leaves_grown = held_grown left;
    grown = λ s k. stay_grown s one (keeps s.batches s.copied k);
  }

  -- a step that the disk failed
  pub faulted_on : {E : Type 0} (fault : E) → LeavesLog → LeadsTo crashes seen images moment left_since old new (Err fault) j j
  faulted_on fault left = record { same = refl; leaves = λ told. held (left kept.batches kept.copied kept.keeps told); kept = tt; leaves_grown = held_grown left; grown = tt }

  -- the new side takes the place of the other
  module _ (from : LastCopied) (was : old.rewriting ≡ Going from) (none_left : items_left from j.committed ≡ []) where
    copies : IsCopy from v kept.copied kept.batches
    copies = subst (λ (r : Rewriting). IsCopyWhile r v kept.copied kept.batches) was kept.copies

    is_copied : j.committed ≡ world_in newest kept.copied
    is_copied = kept.committed ∙ sym (one_world from v kept.copied kept.batches (subst (λ (w : World). items_left from w ≡ []) kept.committed none_left) copies)

    abbrev LeavesBoth : Type 0
    LeavesBoth = (batches copied : List Bytes) → Keeps crashes seen images old.journal batches copied → crashes old.journal.disk ≡ true
        → LeavesOnly moment left_since old.journal.disk new.journal.disk (HoldsOrNew v g batches copied)

    either : (c : Sides) → HoldsOrNew v g kept.batches kept.copied c → RecoversEither j.committed (log.whole j) c
    either c (inl holds) = recovers v kept.batches kept.whole kept.committed c (of_any c v g kept.batches holds)
    either c (inr holds) = recovers newest kept.copied copies.whole is_copied c (of_any c newest (g + 1) kept.copied holds)

    held_either : LeavesBoth → crashes old.journal.disk ≡ true → log.Leaves moment left_since old.journal.disk new.journal.disk j
    held_either left told = weaker moment left_since old.journal.disk new.journal.disk (HoldsOrNew v g kept.batches kept.copied) (RecoversEither j.committed (log.whole j)) either (left kept.batches kept.copied kept.keeps told)

    both_grown : LeavesBoth → LeavesGrown
    both_grown left told s keeps = weaker moment left_since old.journal.disk new.journal.disk (HoldsOrNew v g s.batches s.copied) (HasGrown g s.batches) (λ c holds. new_grown v g s.batches s.copied c holds) (left s.batches s.copied keeps told)

    pub finished : {E : Type 0} → new.journal.log.version ≡ newest → new.journal.log.generation ≡ g + 1 → ((batches copied any : List Bytes) → Keeps crashes seen images old.journal batches copied → Keeps crashes seen images new.journal copied any) → LeavesBoth
        → pending old.journal ≡ [] → pending new.journal ≡ [] → new.rewriting ≡ Idle → LeadsTo {E = E} crashes seen images moment left_since old new (Ok tt) j j
    finished version next keeps left none still idle = record {
      same = refl;
      leaves = held_either left;
      kept = keeps_on newest kept.copied [] version (keeps kept.batches kept.copied [] kept.keeps) copies.whole is_copied (recorded_newest j.pending (recorded_any v j.pending kept.recorded)) none still
          (subst (λ (r : Rewriting). IsCopyWhile r newest [] kept.copied) (sym idle) tt);
      leaves_grown = both_grown left;
      grown = λ s k. record { sides = record { batches = s.copied; copied = [] }; keeps = keeps s.batches s.copied [] k; grows = inr (omega (arith, next)) };
    }

    pub not_finished : {E : Type 0} (fault : E) → LeavesBoth → LeadsTo crashes seen images moment left_since old new (Err fault) j j
    not_finished fault left = record { same = refl; leaves = held_either left; kept = tt; leaves_grown = both_grown left; grown = tt }

-- a commit, and a step behind it
module _ {D E : Type 0} (crashes : D → Bool) (seen : D → Option Sides) (images : D → Sides → Type 0) (moment : D → ℕ) (left_since : D → ℕ → Sides → Type 0) (old mid new : Tail D) (j : log.Journal)
    (one : LeadsTo {E = E} crashes seen images moment left_since old mid (Ok tt) j (log.settled j)) (told : crashes mid.journal.disk ≡ crashes old.journal.disk) where
  both_leave : {F : Type 0} (r : Result Unit F) → LeadsTo crashes seen images moment left_since mid new r (log.settled j) (log.settled j) → crashes old.journal.disk ≡ true
      → log.Leaves moment left_since old.journal.disk new.journal.disk j
  both_leave r two crash = then moment left_since old.journal.disk mid.journal.disk new.journal.disk (RecoversEither j.committed (log.whole j)) (one.leaves crash)
      (weaker moment left_since mid.journal.disk new.journal.disk (RecoversEither (log.whole j) (log.whole j)) (RecoversEither j.committed (log.whole j)) (λ c either. ⊎_elim (λ e. inr e) (λ e. inr e) either) (two.leaves (told ∙ crash)))

  both_grow : {F : Type 0} (r : Result Unit F) → LeadsTo crashes seen images moment left_since mid new r (log.settled j) (log.settled j) → crashes old.journal.disk ≡ true
      → (s : Sided) → KeepsSided crashes seen images old.journal s → LeavesOnly moment left_since old.journal.disk new.journal.disk (HasGrown old.journal.log.generation s.batches)
  both_grow r two crash s keeps =
      let m = one.grown s keeps in
      let g = old.journal.log.generation in
      let h = mid.journal.log.generation in
      then moment left_since old.journal.disk mid.journal.disk new.journal.disk (HasGrown g s.batches) (one.leaves_grown crash s keeps)
      (weaker moment left_since mid.journal.disk new.journal.disk (HasGrown h m.sides.batches) (HasGrown g s.batches) (λ c has. grown_on g h s.batches m.sides.batches c m.grows has) (two.leaves_grown (told ∙ crash) m.sides m.keeps))

  abbrev Grown : Type 0
  Grown = (s : Sided) → KeepsSided crashes seen images old.journal s → KeepsGrown crashes seen images new.journal old.journal.log.generation s.batches

  abbrev GrownOn : Type 0
  GrownOn = (s : Sided) → KeepsSided crashes seen images mid.journal s → KeepsGrown crashes seen images new.journal mid.journal.log.generation s.batches

  both_grew : GrownOn → Grown
  both_grew two s keeps =
      let m = one.grown s keeps in
      let n = two m.sides m.keeps in
      record {
        sides = n.sides;
        keeps = n.keeps;
        grows = grows_on old.journal.log.generation mid.journal.log.generation new.journal.log.generation s.batches m.sides.batches n.sides.batches m.grows n.grows;
      }

  pub then_done : {F G : Type 0} → LeadsTo {E = F} crashes seen images moment left_since mid new (Ok tt) (log.settled j) (log.settled j)
      → LeadsTo {E = G} crashes seen images moment left_since old new (Ok tt) j (log.settled j)
  then_done {F = F} two =
      record { same = refl; leaves = both_leave {F = F} (Ok tt) two; kept = two.kept; leaves_grown = both_grow {F = F} (Ok tt) two; grown = both_grew two.grown }

  pub then_faulted : {F G : Type 0} (fault : F) (why : G) → LeadsTo crashes seen images moment left_since mid new (Err fault) (log.settled j) (log.settled j)
      → LeadsTo crashes seen images moment left_since old new (Err why) j (log.settled j)
  then_faulted fault why two = record { same = refl; leaves = both_leave (Err fault) two; kept = tt; leaves_grown = both_grow (Err fault) two; grown = tt }

  -- whatever the second answers
  pub then_as : {F : Type 0} (r : Result Unit F) → LeadsTo crashes seen images moment left_since mid new r (log.settled j) (log.settled j)
      → LeadsTo crashes seen images moment left_since old new r j (log.settled j)
  then_as r two =
      record { same = refl; leaves = both_leave r two; kept = two.kept; leaves_grown = both_grow r two; grown = on_ok_weaker {P = GrownOn} {Q = Grown} r both_grew two.grown }
