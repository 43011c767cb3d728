-- The batches on both sides of a log: what each commit and each step of a rewriting writes.
use Rattle.std.specs.Prelude.{◌⊎◌, ℕ, Bool, List, [], ◌∷◌, Option, take}
use Rattle.byte_text.specs.Names.{Bytes}
use Rattle.world_data.specs.declared.worlds.World.{World}
use Rattle.outside.specs.Sides.{Sides}
use Rattle.log_sides.specs.Texts.{committed}
use Rattle.journal.specs.Journals.{Keeps, pending}
use Rattle.journal.specs.Logs.{Grows}
use Rattle.journal.specs.declared.journals.Journal.{Journal}
use Rattle.log_record.specs.Batches.{records_text}
use Rattle.durable_core.specs.Rewriting.{Item, changes_of, items_left}
use Rattle.durable_core.specs.declared.rewritings.Rewriting.{Rewriting}
use Rattle.durable_core.specs.declared.tails.TheConstants.{PENDING}
use Rattle.durable_core.specs.declared.rewritings.Rewriting.TheVariants as rewriting

-- the batches of the side in use, and those of the new side, where one is written
pub record Sided : Type 0 where
  pub batches : List Bytes
  pub copied : List Bytes

-- so many bytes that are pending are much
abbrev pub much : ℕ
much = PENDING

-- a batch more, on both
abbrev pub sided_with : Bytes → Sided → Sided
sided_with batch s = record { batches = committed s.batches batch; copied = committed s.copied batch }

-- a piece of items, on the new side alone; where there is none, the new side takes the place of the other
abbrev pub sided_on : List Item → Sided → Sided
sided_on [] s = record { batches = s.copied; copied = [] }
sided_on (item ∷ items) s = record { batches = s.batches; copied = committed s.copied (records_text (changes_of (take 256 (item ∷ items)))) }

-- behind the next step of a rewriting
abbrev pub sided_next : Rewriting → World → Sided → Sided
sided_next rewriting.Idle w s = s
sided_next rewriting.Asked w s = record { batches = s.batches; copied = [] }
sided_next (rewriting.Going last) w s = sided_on (items_left last w) s

-- a journal keeps these batches
abbrev pub KeepsSided : {D : Type 0} → (D → Bool) → (D → Option Sides) → (D → Sides → Type 0) → Journal D → Sided → Type 0
KeepsSided crashes seen images k s = Keeps crashes seen images k s.batches s.copied

-- a journal keeps batches that grew from these of this generation
pub record KeepsGrown {D : Type 0} (crashes : D → Bool) (seen : D → Option Sides) (images : D → Sides → Type 0) (k : Journal D) (generation : ℕ)
    (earlier : List Bytes) : Type 0 where
  pub sides : Sided
  pub keeps : KeepsSided crashes seen images k sides
  pub grows : Grows generation k.log.generation earlier sides.batches

-- from one journal to another nothing was written, or what was pending, on both sides
abbrev pub IsMirrored : {D : Type 0} → (D → Bool) → (D → Option Sides) → (D → Sides → Type 0) → Journal D → Journal D → Type 0
IsMirrored crashes seen images old new = (s : Sided) → KeepsSided crashes seen images old s
    → KeepsSided crashes seen images new s ⊎ KeepsSided crashes seen images new (sided_with (pending old) s)
