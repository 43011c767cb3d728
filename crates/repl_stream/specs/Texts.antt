-- What a follower asks for and what it is answered, as requests.
use Rattle.std.specs.Prelude.{◌≡◌, ℕ, ◌^◌, ◌<◌, ◌≤◌, List, [], ◌∷◌, length, slice_get, Some, codes, decimal}
use Rattle.byte_text.specs.Names.{Bytes}
use Rattle.byte_text.specs.Requests.{request_text}
use Rattle.repl_stream.specs.declared.asks.Ask.{Ask}
use Rattle.repl_stream.specs.declared.parts.Part.{Part}
use Rattle.repl_stream.specs.declared.parts.TheConstants.{MAX_PART}

-- the words of an ask
abbrev pub ask_words : Ask → List Bytes
ask_words ask = codes "FEED" ∷ decimal ask.generation ∷ decimal ask.from ∷ []

-- the words of a part with its bytes
abbrev pub part_words : Part → Bytes → List Bytes
part_words part bytes = codes "PART" ∷ decimal part.generation ∷ decimal part.from ∷ decimal part.end ∷ bytes ∷ []

abbrev pub ask_text : Ask → Bytes
ask_text ask = request_text (ask_words ask)

abbrev pub part_text : Part → Bytes → Bytes
part_text part bytes = request_text (part_words part bytes)

-- the most bytes of a part
abbrev pub max_part : ℕ
max_part = MAX_PART

-- the numbers of an ask are of 64 bits
pub record IsAsk (ask : Ask) : Type 0 where
  pub generation : ask.generation < 2 ^ 64
  pub from : ask.from < 2 ^ 64

-- the numbers of a part are of 64 bits, and there are not too many bytes
pub record IsPart (part : Part) (bytes : Bytes) : Type 0 where
  pub generation : part.generation < 2 ^ 64
  pub from : part.from < 2 ^ 64
  pub end : part.end < 2 ^ 64
  pub short : length bytes ≤ max_part

-- the words are this ask
abbrev pub IsAskOf : Ask → List Bytes → Type 0
IsAskOf ask words = IsAsk ask × (words ≡ ask_words ask)

-- the words are this part, with some bytes
abbrev pub IsPartOf : Part → List Bytes → Type 0
IsPartOf part words = (bytes : Bytes) × IsPart part bytes × (words ≡ part_words part bytes)

-- there are so many words, the first of them this name
abbrev pub HasName : ℕ → Bytes → List Bytes → Type 0
HasName count name words = (length words ≡ count) × (slice_get words 0 ≡ Some name)

-- the word at a place is the text of this number of 64 bits
abbrev pub IsNumberAt : List Bytes → ℕ → ℕ → Type 0
IsNumberAt words at n = (n < 2 ^ 64) × (slice_get words at ≡ Some (decimal n))
