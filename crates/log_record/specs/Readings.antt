-- The two sides of a log: the text of a side, and what is read of both.
use Rattle.std.specs.Prelude.{◌≡◌, ℕ, ◌+◌, ◌<◌, ◌==◌, Bool, true, false, not, ◌&&◌, ◌||◌, nat_le, nat_lt, List, [], ◌∷◌, ◌++◌, length, take, drop}
use Rattle.std.specs.Prelude.{flat_map, Option, Some, None, option_map, if◌then◌else◌, Result, Ok, Err, codes, slice_index}
use Rattle.byte_text.specs.Names.{Bytes, same}
use Rattle.world_data.specs.Worlds.{empty_world}
use Rattle.world_data.specs.declared.worlds.World.{World}
use Rattle.world_data.specs.declared.worlds.Change.{Change}
use Rattle.outside.specs.declared.sides.Side.{Side}
use Rattle.outside.specs.declared.sides.Side.TheVariants.{A, B}
use Rattle.outside.specs.Sides.{Sides, side_of}
pub use Rattle.log_sides.specs.Texts.{header, max_side, is_unknown, is_misnumbered}
use Rattle.log_record.specs.Folding.{folded}
use Rattle.log_record.specs.Batches.{number_of, batch_text, open_gate, closed_gate, Batches, batches_in}

-- the text of a side

-- the length of a gate and the header
abbrev pub header_len : ℕ
header_len = 16

-- batches, each behind its open gate
abbrev pub open_batches : List (List Change) → Bytes
open_batches batches = flat_map (λ changes. open_gate ∷ batch_text changes) batches

-- an open side of a version and a generation, up to and with its closed gate
abbrev pub side_text : ℕ → ℕ → List (List Change) → Bytes
side_text version generation batches = open_gate ∷ header version generation ++ open_batches batches ++ closed_gate ∷ []

-- such a side whose last gate is torn or closed, with stale bytes behind it
abbrev pub side_over : ℕ → ℕ → List (List Change) → ℕ → Bytes → Bytes
side_over version generation batches gate stale = open_gate ∷ (header version generation ++ (open_batches batches ++ gate ∷ stale))

-- the place of its last gate
abbrev pub gate_place : List (List Change) → ℕ
gate_place batches = header_len + length (open_batches batches)

-- what is read

abbrev pub has_open_gate : Bytes → Bool
has_open_gate [] = false
has_open_gate (gate ∷ bytes) = gate == open_gate

-- a header and a gate stand there, and the side's gate is open
abbrev pub is_open : Bytes → Bool
is_open bytes = nat_le (header_len + 1) (length bytes) && has_open_gate bytes

abbrev pub version_of : Bytes → ℕ
version_of bytes = slice_index bytes 4

abbrev pub generation_of : Bytes → ℕ
generation_of bytes = number_of (take 8 (drop 8 bytes))

-- the least place at which a header is wrong
abbrev pub header_fault : Bytes → Option ℕ
header_fault bytes =
    if not (same (take 3 (drop 1 bytes)) (codes "TFL")) then Some 1 else
    if is_unknown (version_of bytes) then Some 4 else
    if not (same (take 3 (drop 5 bytes)) (0 ∷ 0 ∷ 0 ∷ [])) then Some 5 else
    if is_misnumbered (version_of bytes) (generation_of bytes) then Some 8 else None

-- a log that stands: the side in use, its version and generation, the place of its closed gate, and the world
pub record Standing : Type 0 where
  pub side : Side
  pub version : ℕ
  pub generation : ℕ
  pub gate : ℕ
  pub world : World

-- both sides hold no log yet, or one that stands, or are damaged at a place
pub data Reading : Type 0 where
  fresh : Reading
  stands : (standing : Standing) → Reading
  damaged : (side : Side) → (place : ℕ) → Reading

-- the causes of damage that are looked at before any batch

abbrev pub too_long : Sides → Side → Option (Side × ℕ)
too_long s side = if nat_lt max_side (length (side_of s side)) then Some (side, max_side) else None

abbrev pub wrong_header : Sides → Side → Option (Side × ℕ)
wrong_header s side = if is_open (side_of s side) then option_map (λ place. (side, place)) (header_fault (side_of s side)) else None

abbrev pub equal_generations : Sides → Option (Side × ℕ)
equal_generations s = if is_open s.a && is_open s.b && generation_of s.a == generation_of s.b then Some (B, 8) else None

abbrev pub no_header : Sides → Option (Side × ℕ)
no_header s = if not (is_open s.a) && not (is_open s.b) && nat_lt 0 (length s.b) then Some (A, 0) else None

abbrev pub first_cause : List (Option (Side × ℕ)) → Option (Side × ℕ)
first_cause [] = None
first_cause (None ∷ causes) = first_cause causes
first_cause (Some cause ∷ causes) = Some cause

abbrev pub cause_of : Sides → Option (Side × ℕ)
cause_of s = first_cause (too_long s A ∷ too_long s B ∷ wrong_header s A ∷ wrong_header s B ∷ equal_generations s ∷ no_header s ∷ [])

-- the open side with the greater generation
abbrev pub side_in_use : Sides → Option Side
side_in_use s =
    if is_open s.a && (not (is_open s.b) || nat_lt (generation_of s.b) (generation_of s.a)) then Some A else
    if is_open s.b then Some B else None

-- what the batches of a side make of it
abbrev pub reading_of : Side → ℕ → ℕ → Result Batches ℕ → Reading
reading_of side version generation (Ok batches) = stands (record {
  side = side;
  version = version;
  generation = generation;
  gate = batches.gate;
  world = folded empty_world batches.changes;
})
reading_of side version generation (Err place) = damaged side place

abbrev pub side_reading : Side → Bytes → Reading
side_reading side bytes =
    reading_of side (version_of bytes) (generation_of bytes) (batches_in (version_of bytes) header_len (drop header_len bytes))

abbrev pub reading_in_use : Sides → Option Side → Reading
reading_in_use s None = fresh
reading_in_use s (Some side) = side_reading side (side_of s side)

abbrev pub unless_damaged : Option (Side × ℕ) → Reading → Reading
unless_damaged None found = found
unless_damaged (Some cause) found = damaged cause.0 cause.1

-- what both sides are: of fresh, standing and damaged exactly one, since this is a function
unfoldable pub reading : Sides → Reading
reading s = unless_damaged (cause_of s) (reading_in_use s (side_in_use s))

abbrev pub Fresh : Sides → Type 0
Fresh s = reading s ≡ fresh

-- a side that is not in use beside one of this generation: it is not open, or its header is right and its generation smaller
abbrev pub IsOlder : ℕ → Bytes → Type 0
IsOlder generation bytes = is_open bytes ≡ true → (header_fault bytes ≡ None) × (generation_of bytes < generation)

abbrev pub Damaged : Sides → Side → ℕ → Type 0
Damaged s side place = reading s ≡ damaged side place
