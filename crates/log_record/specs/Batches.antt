-- Batches of records: their text, and how they are read.
use Rattle.std.specs.Prelude.{ℕ, zero, suc, ◌+◌, ◌-◌, ◌^◌, ◌<◌, ◌==◌, nat_le, List, [], ◌∷◌, ◌++◌, length, take, drop, flat_map, Option, Some, None}
use Rattle.std.specs.Prelude.{option_map, if◌then◌else◌, Result, Ok, Err}
use Rattle.std.specs.List.{AllByRecursion}
use Rattle.std.specs.Int.{w64, from_be_bytes}
use Rattle.byte_text.specs.Names.{Bytes}
use Rattle.byte_text.specs.Streams.{Front, found, begun, broken, request}
pub use Rattle.outside.specs.Sides.{AreBytes}
pub use Rattle.log_sides.specs.Texts.{open_gate}
unfoldable pub use Rattle.log_sides.specs.Texts.{number_bytes}
use Rattle.world_data.specs.Records.{record_writer}
use Rattle.world_data.specs.declared.worlds.Change.{Change}
use Rattle.log_record.specs.Versions.{change_of_version, IsRecordedIn}

-- the number that 8 bytes are, the highest first
abbrev pub number_of : Bytes → ℕ
number_of bytes = from_be_bytes w64 bytes

-- the text of records, one behind another
abbrev pub records_text : List Change → Bytes
records_text changes = flat_map record_writer changes

-- a batch behind its gate: its length, and its records
abbrev pub batch_text : List Change → Bytes
batch_text changes = number_bytes (length (records_text changes)) ++ records_text changes

-- the changes of batches
abbrev pub all_changes : List (List Change) → List Change
all_changes [] = []
all_changes (changes ∷ batches) = changes ++ all_changes batches

-- each change has a record in this version, and each batch has a length
abbrev pub AreRecorded : ℕ → List (List Change) → Type 0
AreRecorded version batches =
    AllByRecursion (λ changes. AllByRecursion (IsRecordedIn version) changes × (length (records_text changes) < 2 ^ 64)) batches

-- the gate that is written behind a batch
abbrev pub closed_gate : ℕ
closed_gate = 0

-- the record of a version at the front of some bytes, and the bytes behind it
abbrev pub record_front : ℕ → Front (List Bytes) → Option (Change × Bytes)
record_front version (found words behind) = option_map (λ c. (c, behind)) (change_of_version version words)
record_front version begun = None
record_front version (broken fault) = None

abbrev pub with_record : Change → Result (List Change) ℕ → Result (List Change) ℕ
with_record c (Ok changes) = Ok (c ∷ changes)
with_record c (Err at) = Err at

abbrev pub records_behind : ℕ → Bytes → Option (Change × Bytes) → (ℕ → Bytes → Result (List Change) ℕ) → Result (List Change) ℕ
records_behind at bytes None next = Err at
records_behind at bytes (Some front) next = with_record front.0 (next (at + (length bytes - length front.1)) front.1)

-- up to so many records of a version of the bytes that begin at a place
abbrev pub first_records : ℕ → ℕ → ℕ → Bytes → Result (List Change) ℕ
first_records version n at [] = Ok []
first_records version zero at (b ∷ bytes) = Err at
first_records version (suc n) at (b ∷ bytes) =
    records_behind at (b ∷ bytes) (record_front version (request (b ∷ bytes))) (first_records version n)

-- the changes of whole records of a version, or the place of the first bytes that are no record of it
unfoldable pub records_in : ℕ → ℕ → Bytes → Result (List Change) ℕ
records_in version at bytes = first_records version (length bytes) at bytes

-- what batches hold, and the place of the first gate that is not open
pub record Batches : Type 0 where
  pub changes : List Change
  pub gate : ℕ

abbrev pub with_changes : Result (List Change) ℕ → Result Batches ℕ → Result Batches ℕ
with_changes (Err at) others = Err at
with_changes (Ok changes) (Err at) = Err at
with_changes (Ok changes) (Ok others) = Ok (record { changes = changes ++ others.changes; gate = others.gate })

-- behind an open gate: the length, which reaches within the bytes, the records, and further batches
abbrev pub batch_behind : ℕ → ℕ → Bytes → (ℕ → Bytes → Result Batches ℕ) → Result Batches ℕ
batch_behind version at bytes next = let n = number_of (take 8 bytes) in
    if nat_le (8 + n) (length bytes)
    then with_changes (records_in version (at + 9) (take n (drop 8 bytes))) (next (at + 9 + n) (drop (8 + n) bytes))
    else Err (at + 1)

-- up to so many batches of a version from the gate at a place on
abbrev pub first_batches : ℕ → ℕ → ℕ → Bytes → Result Batches ℕ
first_batches version zero at bytes = Err at
first_batches version (suc n) at [] = Err at
first_batches version (suc n) at (gate ∷ bytes) = if gate == open_gate then batch_behind version at bytes (first_batches version n)
    else Ok (record { changes = []; gate = at })

-- the batches of a version from the gate at a place on, or the place at which they break off
unfoldable pub batches_in : ℕ → ℕ → Bytes → Result Batches ℕ
batches_in version at bytes = first_batches version (length bytes + 1) at bytes
