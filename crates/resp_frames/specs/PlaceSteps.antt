-- What each byte of a request may be, by the place where it stands.
use Rattle.std.specs.Prelude.{ℕ, zero, suc, ◌-◌, ◌<◌, ◌≤◌, Option, Some, None, IfSome, if◌then◌else◌, ◌==◌, ◌&&◌, nat_le}
use Rattle.byte_text.specs.declared.faults.RespFault.TheVariants.{BadType, BadLength, BadEnd, TooMany, TooLong}
use Rattle.byte_text.specs.Requests.{max_words, max_word, max_request}
use Rattle.byte_text.specs.Streams.{with_byte}
use Rattle.resp_frames.specs.declared.request_places.Ahead.{Ahead}
use Rattle.resp_frames.specs.declared.request_places.Place.{Place}
use Rattle.resp_frames.specs.declared.request_places.Place.TheVariants.{Star, Count, CountEnd, Dollar, Length, LengthEnd, Word, WordEnd}
use Rattle.resp_frames.specs.declared.request_places.Next.{Next}
use Rattle.resp_frames.specs.declared.request_places.Next.TheVariants.{Goes, Whole, Fails}

-- a request has a word
abbrev pub count_digit : Option ℕ → Next
count_digit None = Fails BadLength
count_digit (Some zero) = Fails BadLength
count_digit (Some (suc n)) = if nat_le (suc n) max_words then Goes (Count (Some (suc n))) else Fails TooMany

abbrev pub length_digit : Ahead → Option ℕ → Next
length_digit ahead None = Fails BadLength
length_digit ahead (Some n) = if nat_le n max_word && nat_le n ahead.bytes then Goes (Length ahead (Some n)) else Fails TooLong

abbrev pub count_end : Option ℕ → Next
count_end None = Fails BadLength
count_end (Some n) = Goes (CountEnd n)

abbrev pub length_end : Ahead → Option ℕ → Next
length_end ahead None = Fails BadLength
length_end ahead (Some n) = Goes (LengthEnd ahead n)

abbrev pub count_step : Option ℕ → ℕ → Next
count_step digits byte = if byte == 13 then count_end digits else count_digit (with_byte digits byte)

abbrev pub length_step : Ahead → Option ℕ → ℕ → Next
length_step ahead digits byte = if byte == 13 then length_end ahead digits else length_digit ahead (with_byte digits byte)

abbrev pub word_step : Ahead → ℕ → ℕ → ℕ → Next
word_step ahead len zero byte = if byte == 13 then Goes (WordEnd ahead len) else Fails BadEnd
word_step ahead len (suc left) byte = Goes (Word ahead len left)

abbrev pub word_end : Ahead → ℕ → Next
word_end ahead len = if ahead.words == 1 then Whole else Goes (Dollar (record { words = ahead.words - 1; bytes = ahead.bytes - len }))

abbrev pub step : Place → ℕ → Next
step Star byte = if byte == 42 then Goes (Count None) else Fails BadType
step (Count digits) byte = count_step digits byte
step (CountEnd n) byte = if byte == 10 then Goes (Dollar (record { words = n; bytes = max_request })) else Fails BadEnd
step (Dollar ahead) byte = if byte == 36 then Goes (Length ahead None) else Fails BadType
step (Length ahead digits) byte = length_step ahead digits byte
step (LengthEnd ahead n) byte = if byte == 10 then Goes (Word ahead n n) else Fails BadEnd
step (Word ahead len left) byte = word_step ahead len left byte
step (WordEnd ahead len) byte = if byte == 10 then word_end ahead len else Fails BadEnd

-- the numbers of a place
abbrev pub HasNumbers : Place → Type 0
HasNumbers Star = Unit {0}
HasNumbers (Count digits) = IfSome digits (λ n. n ≤ max_word)
HasNumbers (CountEnd n) = Unit {0}
HasNumbers (Dollar ahead) = Unit {0}
HasNumbers (Length ahead digits) = IfSome digits (λ n. n ≤ max_word)
HasNumbers (LengthEnd ahead n) = Unit {0}
HasNumbers (Word ahead len left) = Unit {0}
HasNumbers (WordEnd ahead len) = (0 < ahead.words) × (len ≤ ahead.bytes)
