-- The laws of the texts of asks and parts.
use Rattle.std.specs.Prelude.{◌≡◌, ◌≢◌, ◌++◌}
use Rattle.byte_text.specs.Names.{Bytes}
use Rattle.byte_text.specs.Requests.{IsRequest}
use Rattle.byte_text.specs.Streams.{found, request}
use Rattle.repl_stream.specs.Texts.{IsAsk, IsPart, ask_words, part_words, ask_text, part_text}
use Rattle.repl_stream.specs.declared.asks.Ask.{Ask}
use Rattle.repl_stream.specs.declared.parts.Part.{Part}

-- an ask is a request within the limits, and its text is read as its words, whatever is behind it
abbrev pub AsksAreRequests : Type 0
AsksAreRequests = (ask : Ask) (behind : Bytes) → IsAsk ask
    → IsRequest (ask_words ask) × (request (ask_text ask ++ behind) ≡ found (ask_words ask) behind)

-- so is a part
abbrev pub PartsAreRequests : Type 0
PartsAreRequests = (part : Part) (bytes behind : Bytes) → IsPart part bytes
    → IsRequest (part_words part bytes) × (request (part_text part bytes ++ behind) ≡ found (part_words part bytes) behind)

-- where the text of one ask stands, no other has its
abbrev pub AsksAreApart : Type 0
AsksAreApart = (a b : Ask) (x y : Bytes) → IsAsk a → IsAsk b → ask_text a ++ x ≡ ask_text b ++ y → (a ≡ b) × (x ≡ y)

-- where the text of one part with its bytes stands, no other has its
abbrev pub PartsAreApart : Type 0
PartsAreApart = (a b : Part) (v w x y : Bytes) → IsPart a v → IsPart b w → part_text a v ++ x ≡ part_text b w ++ y
    → (a ≡ b) × (v ≡ w) × (x ≡ y)

-- where the text of an ask stands, no part has its
abbrev pub KindsAreApart : Type 0
KindsAreApart = (ask : Ask) (part : Part) (bytes x y : Bytes) → IsAsk ask → IsPart part bytes
    → ask_text ask ++ x ≢ part_text part bytes ++ y
