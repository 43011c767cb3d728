-- Which channel the text of a request asks for.
use Rattle.std.specs.Prelude.{◌≡◌, ◌<◌, Bool, true, false, length, List, [], ◌∷◌, ◌++◌, Option, Some, None, is_none, is_some, if◌then◌else◌}
use Rattle.std.specs.Io.KnownBytes.{Consumes, IsAtEnd}
use Rattle.byte_text.specs.Names.{Bytes}
use Rattle.byte_text.specs.Streams.{Front, found, begun, broken, request}
use Rattle.world_data.specs.declared.channels.Channel.{Channel}
use Rattle.world_data.specs.declared.worlds.Change.{Change}
use Rattle.world_data.specs.declared.worlds.Change.TheVariants.{Put, Del, Drop, Flush, SetChan, DelChan}
use Rattle.world_model.specs.Commands.{command_spelled}
use Rattle.fence_model.specs.Fences.{roams_over}
use Rattle.log_record.specs.Words.{settled}

-- the channel that a change sets, where it watches an area
abbrev pub zone_of : Option Change → Option Channel
zone_of None = None
zone_of (Some (SetChan c)) = if is_none (roams_over c.fence.watch) then Some c else None
zone_of (Some (Put o)) = None
zone_of (Some (Del key id)) = None
zone_of (Some (Drop key)) = None
zone_of (Some Flush) = None
zone_of (Some (DelChan name)) = None

-- of words that spell a SETCHAN whose area stands in them; the seconds of EX are nothing to it
abbrev pub fence_of_words : List Bytes → Option Channel
fence_of_words words = zone_of (settled None (command_spelled words))

abbrev pub fence_of_front : Front (List Bytes) → Option Channel
fence_of_front (found words []) = fence_of_words words
fence_of_front (found words (b ∷ behind)) = None
fence_of_front begun = None
fence_of_front (broken fault) = None

-- the channel that the text of one request asks for, with nothing behind it
abbrev pub fence_in : Bytes → Option Channel
fence_in text = fence_of_front (request text)

-- no request has as many bytes as these, whatever comes behind them
abbrev pub IsTooLong : Bytes → Type 0
IsTooLong text = (rest : Bytes) → fence_in (text ++ rest) ≡ None

-- the next bytes that a source had left were put behind a text, or none were left
pub record IsPieceRead (left left' : Option Bytes) (text text' : Bytes) (ended : Bool) : Type 0 where
  pub piece : Bytes
  pub consumed : Consumes left left' piece
  pub text_is : text' ≡ text ++ piece
  pub at_end : ended ≡ true → IsAtEnd left'
  pub some : ended ≡ false → 0 < length piece

-- what a source had left was read to its end, where it tells; or so much of it that it is no request
abbrev pub IsReadWhole : Option Bytes → Option Bytes → Option Bytes → Type 0
IsReadWhole left left' (Some text) = Consumes left left' text × IsAtEnd left'
IsReadWhole left left' None = (text : Bytes) × Consumes left left' text × IsTooLong text

-- what a source had left, where it tells, asks for this fence; and it was read to its end, or asks for none
pub record IsAsked (left left' : Option Bytes) (asked : Option Channel) : Type 0 where
  pub fence : (text : Bytes) → left ≡ Some text → fence_in text ≡ asked
  pub whole : is_some asked ≡ true → IsAtEnd left'
