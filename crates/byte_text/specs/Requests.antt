-- RESP2, "Sending commands to a Redis server": a request is an array of bulk strings, here within limits.
use Rattle.std.specs.Prelude.{◌≡◌, ℕ, zero, suc, ◌+◌, ◌-◌, ◌≤◌, ◌<◌, List, [], ◌∷◌, ◌++◌, length, take, drop, decimal, flat_map}
use Rattle.std.specs.List.{AllByRecursion}
use Rattle.byte_text.specs.declared.limits.TheConstants.{MAX_WORDS, MAX_WORD, MAX_REQUEST}
use Rattle.byte_text.specs.Names.{Bytes}
use Rattle.byte_text.specs.Lines.{line, bulk_text}

-- the most words of a request
abbrev pub max_words : ℕ
max_words = MAX_WORDS

-- the most bytes of a word
abbrev pub max_word : ℕ
max_word = MAX_WORD

-- the most bytes of all words of a request
abbrev pub max_request : ℕ
max_request = MAX_REQUEST

-- the bytes of all words
abbrev pub total : List Bytes → ℕ
total [] = 0
total (w ∷ ws) = length w + total ws

-- no word is too long
abbrev pub AreShort : List Bytes → Type 0
AreShort words = AllByRecursion (λ w. length w ≤ max_word) words

-- the words of some bytes that end at these places, one behind another from a place on
abbrev pub cut : ℕ → List ℕ → Bytes → List Bytes
cut start [] bytes = []
cut start (end ∷ ends) bytes = take (end - start) (drop start bytes) ∷ cut end ends bytes

-- where the word at a place begins, and the one before it ends
abbrev pub start_of : ℕ → List ℕ → ℕ → ℕ
start_of start ends zero = start
start_of start [] (suc at) = start
start_of start (end ∷ ends) (suc at) = start_of end ends at

-- these places ascend from one to another
abbrev pub Ascend : ℕ → List ℕ → ℕ → Type 0
Ascend start [] last = start ≡ last
Ascend start (end ∷ ends) last = (start ≤ end) × Ascend end ends last

-- the limits of a request
pub record FitsRequest (words : List Bytes) : Type 0 where
  pub few : length words ≤ max_words
  pub short : AreShort words
  pub small : total words ≤ max_request

-- the words of a request: at least one, within the limits
pub record IsRequest (words : List Bytes) : Type 0 where
  pub some : 0 < length words
  pub fits : FitsRequest words

-- `*`, the number of words, CR LF, and each word as a bulk string ("Arrays")
abbrev pub request_text : List Bytes → Bytes
request_text words = line 42 (decimal (length words)) ++ flat_map bulk_text words

-- the bytes are the text of one request
abbrev pub IsRequestText : Bytes → Type 0
IsRequestText text = (words : List Bytes) × IsRequest words × (text ≡ request_text words)
