-- A reader of requests: what it holds between two pieces, and what it answers to one.
use Rattle.std.specs.Prelude.{◌≡◌, ℕ, ◌≤◌, List, [], ◌++◌, length, drop, Option, Some, None}
use Rattle.byte_text.specs.Names.{Bytes}
use Rattle.byte_text.specs.Requests.{IsRequest, request_text}
use Rattle.byte_text.specs.Streams.{Front, found, begun, broken, read_then, request}
use Rattle.byte_text.specs.declared.faults.RespFault.{RespFault}
use Rattle.resp_frames.specs.declared.faults.FeedFault.{FeedFault}
use Rattle.resp_frames.specs.declared.faults.FeedFault.TheVariants.{Broken, Dead, Memory}
use Rattle.resp_frames.specs.declared.request_places.Place.{Place}
use Rattle.resp_frames.specs.RequestPlaces.{from, IsPlace}

-- the bytes since the last request, which begin one; or nothing, once a fault was met
abbrev pub Held : Type 0
Held = Option Bytes

-- a piece goes on with the bytes held: it ends a request, and the reader holds nothing more; or they begin one all the same
abbrev pub IsTaken : Bytes → Held → Bytes → ℕ → Option (List Bytes) → Type 0
IsTaken held new piece taken None = (request (held ++ piece) ≡ begun) × (taken ≡ length piece) × (new ≡ Some (held ++ piece))
IsTaken held new piece taken (Some words) = (request (held ++ piece) ≡ found words (drop taken piece)) × (taken ≤ length piece) × (new ≡ Some [])
    × IsRequest words

-- what was fed: never by a reader that has met a fault
abbrev pub IsFed : Held → Held → Bytes → ℕ → Option (List Bytes) → Type 0
IsFed None new piece taken read = ⊥
IsFed (Some held) new piece taken read = IsTaken held new piece taken read

abbrev pub IsBroken : Bytes → Held → Bytes → RespFault → Type 0
IsBroken held new piece fault = (request (held ++ piece) ≡ broken fault) × (new ≡ None)

-- a piece is refused: with the fault of its bytes behind those held, and the reader is dead; or for want of memory, and it
-- holds what it held
abbrev pub IsRefused : Bytes → Held → Bytes → FeedFault → Type 0
IsRefused held new piece (Broken fault) = IsBroken held new piece fault
IsRefused held new piece Dead = ⊥
IsRefused held new piece Memory = new ≡ Some held

-- why nothing was fed: a dead reader stays dead, whatever comes
abbrev pub IsNotFed : Held → Held → Bytes → FeedFault → Type 0
IsNotFed None new piece fault = (fault ≡ Dead) × (new ≡ None)
IsNotFed (Some held) new piece fault = IsRefused held new piece fault

-- whether a thing was read, without the thing
abbrev pub blind : {A : Type 0} → Front A → Front (Unit {0})
blind front = read_then (λ a rest. found tt rest) front

-- the reader's own fields: a place, unless it is dead, and the bytes before it
abbrev pub held_of : Option Place → Bytes → Held
held_of None bytes = None
held_of (Some place) bytes = Some bytes

abbrev pub IsReader : Option Place → Bytes → Type 0
IsReader None bytes = Unit {0}
IsReader (Some place) bytes = IsPlace place × ((more : Bytes) → blind (request (bytes ++ more)) ≡ from place more)

-- what is read as a request is a request's text, and the other way round
abbrev pub TextsAreRead : Type 0
TextsAreRead = (words : List Bytes) (behind : Bytes) → IsRequest words → request (request_text words ++ behind) ≡ found words behind

abbrev pub ReadTexts : Type 0
ReadTexts = (bytes behind : Bytes) (words : List Bytes) → request bytes ≡ found words behind → IsRequest words
    × (bytes ≡ request_text words ++ behind)
