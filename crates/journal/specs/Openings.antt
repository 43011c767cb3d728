-- What an opening reads of the sides, and where they are damaged.
use Rattle.std.specs.Prelude.{◌≡◌, ◌⊎◌, ◌+◌, ◌≤◌, ℕ, Bool, true, List, [], ◌∷◌, ◌++◌, Option, None, Some}
use Rattle.std.specs.List.{AllByRecursion}
use Rattle.byte_text.specs.Names.{Bytes}
use Rattle.outside.specs.declared.sides.Side.{Side}
use Rattle.outside.specs.Sides.{Sides, side_of}
use Rattle.outside.specs.Crashes.{EachImage, EachSince}
use Rattle.log_sides.specs.Texts.{open_gate, newest, framed, front_text, gate_place}
use Rattle.log_sides.specs.States.{SideIsSafe, SideLeads}
use Rattle.append_log.specs.Heads.{head_of, start_of, IsHeaded}
use Rattle.append_log.specs.Reading.{HasNoGate, HasNoBatch}
use Rattle.append_log.specs.Logs.{IsFresh}
use Rattle.append_log.specs.declared.side_heads.Start.{Start}
use Rattle.append_log.specs.declared.side_heads.Start.TheVariants.{Fresh, Standing, Damaged}
use Rattle.journal.specs.Logs.{HoldsLog}
use Rattle.journal.specs.declared.openings.OpenFault.{OpenFault}
use Rattle.journal.specs.declared.openings.OpenFault.TheVariants as fault_of
use Rattle.journal.specs.declared.side_replays.Stop.{Stop}
use Rattle.journal.specs.declared.side_replays.Stop.TheVariants as stop_of

-- each batch has whole records alone
abbrev pub AreWhole : (Bytes → Option ℕ) → List Bytes → Type 0
AreWhole fault batches = AllByRecursion (λ b. fault b ≡ None) batches

-- behind these batches stands one with bytes that are no record, and this is the place of the first of them
pub record HasNoRecord (fault : Bytes → Option ℕ) (version generation : ℕ) (batches : List Bytes) (side : Bytes) (place : ℕ) : Type 0 where
  pub batch : Bytes
  pub rest : Bytes
  pub text : side ≡ front_text version generation batches ++ open_gate ∷ (framed batch ++ rest)
  pub at : ℕ
  pub none : fault batch ≡ Some at
  pub here : place ≡ gate_place version generation batches + 9 + at

-- the bytes of a batch that begins at `start` are no record from this place on
pub record IsRefused (fault : Bytes → Option ℕ) (start place : ℕ) (batch : Bytes) : Type 0 where
  pub at : ℕ
  pub none : fault batch ≡ Some at
  pub here : place ≡ start + at

-- a side of this version is damaged behind whole batches: no gate, a length that goes past the end, or a batch with bytes that are no record of it
pub record IsBroken (fault : ℕ → Bytes → Option ℕ) (version generation : ℕ) (side : Bytes) (place : ℕ) : Type 0 where
  pub batches : List Bytes
  pub whole : AreWhole (fault version) batches
  pub cause : (HasNoGate version generation batches side place ⊎ HasNoBatch version generation batches side place)
      ⊎ HasNoRecord (fault version) version generation batches side place

-- a side in use is damaged there
pub record IsBrokenIn (fault : ℕ → Bytes → Option ℕ) (s : Sides) (side : Side) (place : ℕ) : Type 0 where
  pub version : ℕ
  pub generation : ℕ
  pub len : ℕ
  pub used : start_of (head_of s.a) (head_of s.b) ≡ Standing side version generation len
  pub broken : IsBroken fault version generation (side_of s side) place

-- the sides are damaged there: in what their first bytes say, or in the side in use
abbrev pub IsDamaged : (ℕ → Bytes → Option ℕ) → Sides → Side → ℕ → Type 0
IsDamaged fault s side place = (start_of (head_of s.a) (head_of s.b) ≡ Damaged side place) ⊎ IsBrokenIn fault s side place

-- both sides read as these, safely
pub record IsAllSafe (crashes : Bool) (seen : Option Sides) (images : Sides → Type 0) (s : Sides) : Type 0 where
  pub told : seen ≡ Some s
  pub settled : crashes ≡ true → EachImage images (λ c. c ≡ s)

abbrev pub AllSafeOn : {D : Type 0} → (D → Bool) → (D → Option Sides) → (D → Sides → Type 0) → D → Sides → Type 0
AllSafeOn crashes seen images disk s = IsAllSafe (crashes disk) (seen disk) (images disk) s

-- a side of them is in use, if its batches are whole
pub record IsUsed (s : Sides) (side : Side) (version generation len : ℕ) : Type 0 where
  pub used : start_of (head_of s.a) (head_of s.b) ≡ Standing side version generation len
  pub headed : IsHeaded (side_of s side) version generation len

-- calls that only look at a side
pub record Looked {D : Type 0} (crashes : D → Bool) (seen : D → Option Sides) (images : D → Sides → Type 0) (moment : D → ℕ) (left_since : D → ℕ
    → Sides → Type 0) (faults : D → ℕ) (side : Side) (old new : D) : Type 0 where
  pub told : crashes new ≡ crashes old
  pub later : faults old ≤ faults new
  pub safe : (bytes : Bytes) → SideIsSafe (crashes old) (seen old) (images old) side (λ x. x ≡ bytes)
      → SideIsSafe (crashes new) (seen new) (images new) side (λ x. x ≡ bytes)
  pub same : (bytes : Bytes) → SideIsSafe (crashes old) (seen old) (images old) side (λ x. x ≡ bytes)
      → SideLeads crashes seen images moment left_since side (λ x. x ≡ bytes) old new

-- from some moment of these calls on, whatever a crash might have left holds these batches
pub record HoldsSince {D : Type 0} (moment : D → ℕ) (left_since : D → ℕ → Sides → Type 0) (old new : D) (version : ℕ) (batches : List
    Bytes) : Type 0 where
  pub since : ℕ
  pub begun : moment old ≤ since
  pub past : since ≤ moment new
  pub each : EachSince left_since new since (HoldsLog version batches)

-- the version, the generation and the bytes of the side with which a journal begins: the one in use, or the one that is made
abbrev pub first_version : Start → ℕ
first_version Fresh = newest
first_version (Standing side version generation len) = version
first_version (Damaged side place) = 0

abbrev pub first_generation : Start → ℕ
first_generation Fresh = 1
first_generation (Standing side version generation len) = generation
first_generation (Damaged side place) = 0

abbrev pub first_len : Start → ℕ
first_len Fresh = 17
first_len (Standing side version generation len) = len
first_len (Damaged side place) = 0

abbrev pub opened_version : Sides → ℕ
opened_version s = first_version (start_of (head_of s.a) (head_of s.b))

abbrev pub opened_generation : Sides → ℕ
opened_generation s = first_generation (start_of (head_of s.a) (head_of s.b))

abbrev pub opened_len : Sides → ℕ
opened_len s = first_len (start_of (head_of s.a) (head_of s.b))

-- what a crash leaves during an opening: what it might have left before, or, where no log had been begun, one without a batch
abbrev pub IsLeftByOpening : (Sides → Type 0) → Sides → Sides → Type 0
IsLeftByOpening images s c = images c ⊎ (IsFresh s × HoldsLog newest [] c)

-- a disk that was not opened reads as before, unless it failed while the first side was made
abbrev pub IsUnopened : Option Sides → Sides → OpenFault → Type 0
IsUnopened seen s fault = (seen ≡ Some s) ⊎ ((fault ≡ fault_of.Disk) × IsFresh s)

-- why a disk is not opened, where the side in use was not read to its end
abbrev pub fault_in : Side → Stop → OpenFault
fault_in side (stop_of.Broken place) = fault_of.Damaged side place
fault_in side stop_of.Disk = fault_of.Disk
fault_in side stop_of.Memory = fault_of.Memory
