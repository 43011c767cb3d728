-- A stream of requests, read from its front, and the fault of one that goes on as no request.
use Rattle.std.specs.Prelude.{ℕ, zero, suc, ◌+◌, ◌-◌, ◌*◌, ◌==◌, ◌&&◌, Bool, nat_le, List, [], ◌∷◌, ◌++◌, length, take, drop, Option, Some, None}
use Rattle.std.specs.Prelude.{if◌then◌else◌}
use Rattle.byte_text.specs.Names.{Bytes}
use Rattle.byte_text.specs.Requests.{max_words, max_word, max_request}
use Rattle.byte_text.specs.declared.faults.RespFault.{RespFault}
use Rattle.byte_text.specs.declared.faults.RespFault.TheVariants.{BadType, BadLength, BadEnd, TooMany, TooLong}

-- what stands at the front of some bytes: a whole thing, and what is behind it; the beginning of one, and no more bytes; or
-- a first byte with which they begin none, and what is wrong in its place
pub data Front (A : Type 0) : Type 0 where
  found : (value : A) → (behind : Bytes) → Front A
  begun : Front A
  broken : (fault : RespFault) → Front A

-- how such a thing is read
abbrev pub Grammar : Type 0 → Type 0
Grammar A = Bytes → Front A

abbrev pub read_then : {A B : Type 0} → (A → Grammar B) → Front A → Front B
read_then next (found value behind) = next value behind
read_then next begun = begun
read_then next (broken fault) = broken fault

-- one thing, and then another, which may depend on it
infixl 1 ◌>>=◌
abbrev pub ◌>>=◌ : {A B : Type 0} → Grammar A → (A → Grammar B) → Grammar B
◌>>=◌ first next bytes = read_then next (first bytes)

infixl 1 ◌>>◌
abbrev pub ◌>>◌ : {A B : Type 0} → Grammar A → Grammar B → Grammar B
◌>>◌ first next = first >>= (λ _. next)

-- nothing more
abbrev pub done : {A : Type 0} → A → Grammar A
done value bytes = found value bytes

-- this byte, and the fault of any other in its place
abbrev pub byte : ℕ → RespFault → Grammar (Unit {0})
byte wanted fault [] = begun
byte wanted fault (b ∷ bytes) = if b == wanted then found tt bytes else broken fault

-- this many bytes
abbrev pub bytes_of : ℕ → Grammar Bytes
bytes_of n bytes = if nat_le n (length bytes) then found (take n bytes) (drop n bytes) else begun

abbrev pub is_digit : ℕ → Bool
is_digit b = nat_le 48 b && nat_le b 57

-- the number that one more digit makes; behind a leading zero stands none
abbrev pub with_digit : Option ℕ → ℕ → Option ℕ
with_digit None digit = Some digit
with_digit (Some zero) digit = None
with_digit (Some (suc n)) digit = Some (suc n * 10 + digit)

-- the number that one more byte makes, where it is a digit that keeps it canonical
abbrev pub with_byte : Option ℕ → ℕ → Option ℕ
with_byte so_far b = if is_digit b then with_digit so_far (b - 48) else None

abbrev pub unless_fault : {A : Type 0} → Option RespFault → Front A → Front A
unless_fault None front = front
unless_fault (Some fault) front = broken fault

-- a digit that makes the number pass its limit has the limit's fault
abbrev pub one_more : (ℕ → Option RespFault) → Option ℕ → (Option ℕ → Front ℕ) → Front ℕ
one_more limit None next = broken BadLength
one_more limit (Some n) next = unless_fault (limit n) (next (Some n))

-- a CR ends a number of at least one digit
abbrev pub number_end : Option ℕ → Grammar ℕ
number_end None bytes = broken BadLength
number_end (Some n) bytes = found n bytes

-- a canonical number behind the digits of `so_far`, and its CR
abbrev pub number_line : (ℕ → Option RespFault) → Option ℕ → Grammar ℕ
number_line limit so_far [] = begun
number_line limit so_far (b ∷ bytes) = if b == 13 then number_end so_far bytes else
    one_more limit (with_byte so_far b) (λ n. number_line limit n bytes)

-- a request has a word
abbrev pub count_limit : ℕ → Option RespFault
count_limit zero = Some BadLength
count_limit (suc n) = if nat_le (suc n) max_words then None else Some TooMany

-- a word is within its own limit and within what the words before it leave
abbrev pub word_limit : ℕ → ℕ → Option RespFault
word_limit allowed n = if nat_le n max_word && nat_le n allowed then None else Some TooLong

-- a word, where the words may have so many bytes more
abbrev pub word : ℕ → Grammar Bytes
word allowed = do
  byte 36 BadType
  n ← number_line (word_limit allowed) None
  byte 10 BadEnd
  text ← bytes_of n
  byte 13 BadEnd
  byte 10 BadEnd
  done text

-- this many words
abbrev pub words : ℕ → ℕ → Grammar (List Bytes)
words zero allowed = done []
words (suc n) allowed = do
  text ← word allowed
  others ← words n (allowed - length text)
  done (text ∷ others)

-- a request
unfoldable pub request : Grammar (List Bytes)
request = do
  byte 42 BadType
  n ← number_line count_limit None
  byte 10 BadEnd
  words n max_request

-- a stream: its whole requests, and either the bytes behind the last one, which begin another, or the fault behind it
pub data StreamEnd : Type 0 where
  holds : (rest : Bytes) → StreamEnd
  fails : (fault : RespFault) → StreamEnd

pub record Stream : Type 0 where
  pub requests : List (List Bytes)
  pub ending : StreamEnd

-- a request, and then a stream
abbrev pub with_first : List Bytes → Stream → Stream
with_first first others = record { requests = first ∷ others.requests; ending = others.ending }

-- no request, and these bytes
abbrev pub only_rest : Bytes → Stream
only_rest bytes = record { requests = []; ending = holds bytes }

-- no request, and this fault
abbrev pub only_fault : RespFault → Stream
only_fault fault = record { requests = []; ending = fails fault }

abbrev pub stream_behind : Bytes → Front (List Bytes) → (Bytes → Stream) → Stream
stream_behind bytes (found first behind) next = with_first first (next behind)
stream_behind bytes begun next = only_rest bytes
stream_behind bytes (broken fault) next = only_fault fault

-- up to so many requests of a stream
abbrev pub first_requests : ℕ → Bytes → Stream
first_requests zero bytes = only_rest bytes
first_requests (suc n) bytes = stream_behind bytes (request bytes) (first_requests n)

-- the stream of some bytes, which hold less requests than bytes
unfoldable pub stream_of : Bytes → Stream
stream_of bytes = first_requests (length bytes) bytes

-- the stream with more bytes behind it: its rest goes on, and nothing comes behind a fault
abbrev pub fed_ending : List (List Bytes) → StreamEnd → Bytes → Stream
fed_ending requests (holds rest) more = let others = stream_of (rest ++ more) in record {
  requests = requests
      ++ others.requests;
  ending = others.ending;
}
fed_ending requests (fails fault) more = record { requests = requests; ending = fails fault }

abbrev pub fed : Stream → Bytes → Stream
fed stream more = fed_ending stream.requests stream.ending more
