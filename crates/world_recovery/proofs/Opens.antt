-- What is replayed of a disk is opened.
use Rattle.std.proofs.Common.{◌≡◌, ◌∙◌, ℕ, Bool, List, [], ◌∷◌, ◌++◌, length, Option, refl, sym, ap, subst, arith, length-append}
use Rattle.byte_text.specs.Names.{Bytes}
use Rattle.byte_text.specs.StreamTexts.{text_long}
use Rattle.outside.specs.Sides.{Sides}
use Rattle.world_data.specs.Records.{record_reader}
use Rattle.world_data.specs.declared.worlds.Change.{Change}
use Rattle.world_data.specs.declared.worlds.World.{World}
use Rattle.journal.specs.Opened.{IsReplayed}
use Rattle.log_record.specs.Batches.{records_text}
use Rattle.log_record.specs.Folding.{folded}
use Rattle.log_record.specs.Recovery.{Recovers}
use Rattle.world_recovery.specs.Recorded.{record_fault, world_in}
use Rattle.world_recovery.specs.BatchesHeld.{held_recovers}
use Rattle.world_recovery.specs.Replayed.{Replayed, Stands, StandsFor}
use Rattle.world_recovery.specs.Opened.{IsOpened}

-- no bytes are the records of no change
no_changes : (changes : List Change) (rest : Bytes) → [] ≡ records_text changes ++ rest → changes ≡ []
no_changes [] rest none = refl
no_changes (c ∷ changes) rest none =
    let some = text_long (record_reader c) in
    absurd (omega (arith, some, ap (λ (l : Bytes). length l) none, length-append (records_text (c ∷ changes)) rest, length-append (records_text (c ∷ [])) (records_text changes)))

-- where nothing was taken, it was in whatever version
pub begun_as : (v w : ℕ) (world : World) (waiting : Option Bytes) (taken place : ℕ) → Stands v world waiting taken place [] [] → Stands w world waiting taken place [] []
begun_as v w world waiting taken place stands =
    let none = no_changes stands.changes stands.beginning stands.text in
    record {
      changes = [];
      beginning = stands.beginning;
      text = stands.text ∙ ap (λ (l : List Change). records_text l ++ stands.beginning) none;
      recorded = tt;
      goes_on = stands.goes_on;
      waits = stands.waits;
      taken_is = stands.taken_is;
      place_is = stands.place_is ∙ ap (λ (l : List Change). length (records_text l)) none;
      world_is = stands.world_is ∙ ap (λ (l : List Change). folded (world_in v []) l) none;
    }

-- behind whole batches the world is that of these
pub world_of_batches : (v : ℕ) (world : World) (waiting : Option Bytes) (taken place : ℕ) (batches : List Bytes) → Stands v world waiting taken place batches [] → world ≡ world_in v batches
world_of_batches v world waiting taken place batches stands =
    stands.world_is ∙ ap (λ (l : List Change). folded (world_in v batches) l) (no_changes stands.changes stands.beginning stands.text)

pub opens : {D : Type 0} (crashes : D → Bool) (seen : D → Option Sides) (moment : D → ℕ) (left_since : D → ℕ → Sides → Type 0) (old new : D) (r : Replayed) (v : ℕ) (kept : List Bytes → Type 0)
    → IsReplayed StandsFor record_fault crashes seen moment left_since old new r v kept → IsOpened crashes seen moment left_since old new r.world v kept
opens crashes seen moment left_since old new r v kept replayed =
    let batches = replayed.batches in
    let is = world_of_batches v r.world r.waiting r.taken r.place batches replayed.taken.1 in
    record {
      batches = batches;
      whole = replayed.whole;
      world_is = is;
      holds = replayed.holds;
      keeps = replayed.keeps;
      recovers = λ s told. subst (λ (w : World). Recovers s w) (sym is) (held_recovers v batches s replayed.whole (replayed.holds s told));
      since = λ s told crash.
          let since = replayed.since s told crash in
          record {
            since = since.since;
            begun = since.begun;
            past = since.past;
            each = λ c left. subst (λ (w : World). Recovers c w) (sym is) (held_recovers v batches c replayed.whole (since.each c left));
          };
    }
