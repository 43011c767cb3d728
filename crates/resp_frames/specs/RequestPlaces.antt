-- What is left to read of a request from a place on, and the numbers that a place holds.
use Rattle.std.specs.Prelude.{ℕ, zero, suc, ◌-◌, ◌<◌, ◌≤◌, length, drop, Option, None, IfSome, if◌then◌else◌, nat_le}
use Rattle.byte_text.specs.Requests.{max_words, max_word, max_request}
use Rattle.byte_text.specs.Streams.{found, begun, Grammar, ◌>>=◌, ◌>>◌, done, byte, number_line, count_limit, word_limit}
use Rattle.byte_text.specs.declared.faults.RespFault.TheVariants.{BadType, BadEnd}
use Rattle.resp_frames.specs.declared.request_places.Ahead.{Ahead}
use Rattle.resp_frames.specs.declared.request_places.Place.{Place}
use Rattle.resp_frames.specs.declared.request_places.Place.TheVariants.{Star, Count, CountEnd, Dollar, Length, LengthEnd, Word, WordEnd}

-- this many bytes, whatever they are
abbrev pub skipped : ℕ → Grammar (Unit {0})
skipped n bytes = if nat_le n (length bytes) then found tt (drop n bytes) else begun

-- the words of a request, whatever they are
abbrev pub words_skipped : ℕ → ℕ → Grammar (Unit {0})
words_skipped zero allowed = done tt
words_skipped (suc n) allowed = do
  byte 36 BadType
  len ← number_line (word_limit allowed) None
  byte 10 BadEnd
  skipped len
  byte 13 BadEnd
  byte 10 BadEnd
  words_skipped n (allowed - len)

-- what stands behind the LF of a word, behind its CR, behind its bytes, behind its length, and from its length on
abbrev pub behind_word : Ahead → ℕ → Grammar (Unit {0})
behind_word ahead len = words_skipped (ahead.words - 1) (ahead.bytes - len)

abbrev pub behind_return : Ahead → ℕ → Grammar (Unit {0})
behind_return ahead len = byte 10 BadEnd >> behind_word ahead len

abbrev pub behind_bytes : Ahead → ℕ → Grammar (Unit {0})
behind_bytes ahead len = byte 13 BadEnd >> behind_return ahead len

abbrev pub behind_length : Ahead → ℕ → Grammar (Unit {0})
behind_length ahead len = do
  byte 10 BadEnd
  skipped len
  behind_bytes ahead len

abbrev pub behind_dollar : Ahead → Option ℕ → Grammar (Unit {0})
behind_dollar ahead digits = number_line (word_limit ahead.bytes) digits >>= behind_length ahead

-- what stands behind the number of words
abbrev pub behind_count : ℕ → Grammar (Unit {0})
behind_count n = byte 10 BadEnd >> words_skipped n max_request

-- the rest of a request from a place on
abbrev pub from : Place → Grammar (Unit {0})
from Star = byte 42 BadType >> (number_line count_limit None >>= behind_count)
from (Count digits) = number_line count_limit digits >>= behind_count
from (CountEnd n) = behind_count n
from (Dollar ahead) = byte 36 BadType >> behind_dollar ahead None
from (Length ahead digits) = behind_dollar ahead digits
from (LengthEnd ahead n) = behind_length ahead n
from (Word ahead len left) = skipped left >> behind_bytes ahead len
from (WordEnd ahead len) = behind_return ahead len

-- a place of a request within its limits
abbrev pub IsPlace : Place → Type 0
IsPlace Star = Unit {0}
IsPlace (Count digits) = IfSome digits (λ n. (0 < n) × (n ≤ max_words))
IsPlace (CountEnd n) = 0 < n
IsPlace (Dollar ahead) = 0 < ahead.words
IsPlace (Length ahead digits) = (0 < ahead.words) × IfSome digits (λ n. (n ≤ max_word) × (n ≤ ahead.bytes))
IsPlace (LengthEnd ahead n) = (0 < ahead.words) × (n ≤ ahead.bytes)
IsPlace (Word ahead len left) = (0 < ahead.words) × (len ≤ ahead.bytes)
IsPlace (WordEnd ahead len) = (0 < ahead.words) × (len ≤ ahead.bytes)
