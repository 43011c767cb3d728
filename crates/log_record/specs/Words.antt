-- The record of a change read back: the change that some words are the record of.
use Rattle.std.specs.Prelude.{◌≡◌, ℕ, Bool, true, false, ◌&&◌, List, [], ◌∷◌, Option, Some, None, if◌then◌else◌}
use Rattle.std.specs.Prelude.{codes, Result, Ok, Err}
use Rattle.byte_text.specs.Names.{Bytes, same}
use Rattle.byte_text.specs.Numbers.{digits_value}
use Rattle.byte_text.specs.Requests.{IsRequest}
use Rattle.geo_text.specs.Texts.{Shape, shape_of}
use Rattle.geo_text.specs.declared.faults.GeoFault.{GeoFault}
use Rattle.planar_geom.specs.declared.shapes.Area.{Area}
use Rattle.planar_geom.specs.declared.shapes.Area.TheVariants.{Figure}
use Rattle.world_model.specs.Effects.{settled_channel}
use Rattle.world_data.specs.declared.channels.Channel.{Channel}
use Rattle.world_data.specs.Filters.{Field, value_in}
use Rattle.world_model.specs.Commands.{command_spelled}
use Rattle.world_data.specs.Sound.{is_sound_channel}
use Rattle.world_data.specs.Records.{record_reader, is_kept}
use Rattle.world_data.specs.declared.worlds.Change.{Change}
use Rattle.world_data.specs.declared.worlds.Change.TheVariants.{Put, Del, Drop, Flush, SetChan, DelChan}
use Rattle.world_model.specs.declared.search_commands.AreaWords.{AreaWords}
use Rattle.world_model.specs.declared.search_commands.AreaWords.TheVariants.{Given, Of}
use Rattle.world_model.specs.declared.commands.Command.{Command}
use Rattle.world_model.specs.declared.commands.Command.TheVariants as command
use Rattle.world_model.specs.declared.channel_commands.ChannelCommand.TheVariants as of_channel

-- the words at their places say which change they could be the record of; its record is then compared with them

-- the fields at the front of some words, and the words behind them
abbrev pub fields_front : List Bytes → List Field × List Bytes
fields_front (called ∷ name ∷ value ∷ words) =
    if same called (codes "FIELD") then (let behind = fields_front words in ((name, value_in value) ∷ behind.0, behind.1))
    else ([], called ∷ name ∷ value ∷ words)
fields_front words = ([], words)

-- the deadline at the front, if there is one, and the words behind it
abbrev pub deadline_front : List Bytes → Option ℕ × List Bytes
deadline_front (called ∷ value ∷ words) = if same called (codes "AT") then (Some (digits_value value), words) else (None, called ∷ value ∷ words)
deadline_front words = (None, words)

abbrev pub put_with : Bytes → Bytes → List Field → Option ℕ → Bytes → Result Shape GeoFault → Option Change
put_with key id fields deadline text (Ok shape) =
    Some (Put (record { key = key; id = id; text = text; shape = shape; fields = fields; deadline = deadline }))
put_with key id fields deadline text (Err fault) = None

-- the last two words: `OBJECT` and the text
abbrev pub put_text : Bytes → Bytes → List Field → Option ℕ → List Bytes → Option Change
put_text key id fields deadline (called ∷ text ∷ []) = put_with key id fields deadline text (shape_of text)
put_text key id fields deadline words = None

abbrev pub put_of : List Bytes → Option Change
put_of (key ∷ id ∷ words) = let fields = fields_front words in let deadline = deadline_front fields.1 in
    put_text key id fields.0 deadline.0 deadline.1
put_of words = None

abbrev pub del_of : List Bytes → Option Change
del_of (key ∷ id ∷ []) = Some (Del key id)
del_of words = None

abbrev pub drop_of : List Bytes → Option Change
drop_of (key ∷ []) = Some (Drop key)
drop_of words = None

abbrev pub flush_of : List Bytes → Option Change
flush_of [] = Some Flush
flush_of words = None

abbrev pub delchan_of : List Bytes → Option Change
delchan_of (name ∷ []) = Some (DelChan name)
delchan_of words = None

-- the channel with this deadline
abbrev pub until : Option ℕ → Channel → Channel
until deadline c = record c { deadline = deadline }

-- a setting whose area stands in its words
abbrev pub settled : Option ℕ → Option Command → Option Change
settled deadline (Some (command.Channel (of_channel.Setchan c None after_ex))) = Some (SetChan (until deadline c))
settled deadline (Some (command.Channel (of_channel.Setchan c (Some (Given a)) after_ex))) = Some (SetChan (until deadline c))
settled deadline o = None

-- a setting with the deadline that stands behind its name
abbrev pub setchan_until : Bytes → Option ℕ × List Bytes → Option Change
setchan_until name behind = settled behind.0 (command_spelled (codes "SETCHAN" ∷ name ∷ behind.1))

abbrev pub setchan_of : List Bytes → Option Change
setchan_of (name ∷ words) = setchan_until name (deadline_front words)
setchan_of [] = None

-- the change that the words could be the record of
abbrev pub could_be : List Bytes → Option Change
could_be [] = None
could_be (called ∷ words) =
    if same called (codes "SET") then put_of words else
    if same called (codes "DEL") then del_of words else
    if same called (codes "DROP") then drop_of words else
    if same called (codes "FLUSHDB") then flush_of words else
    if same called (codes "SETCHAN") then setchan_of words else
    if same called (codes "DELCHAN") then delchan_of words else None

-- an object's text has its shape, and a channel is sound
abbrev pub HasShape : Change → Type 0
HasShape (Put o) = shape_of o.text ≡ Ok o.shape
HasShape (SetChan c) = is_sound_channel c ≡ true
HasShape (Del key id) = Unit {0}
HasShape (Drop key) = Unit {0}
HasShape Flush = Unit {0}
HasShape (DelChan name) = Unit {0}

-- the same words
abbrev pub same_words : List Bytes → List Bytes → Bool
same_words [] [] = true
same_words [] (w ∷ ws) = false
same_words (v ∷ vs) [] = false
same_words (v ∷ vs) (w ∷ ws) = same v w && same_words vs ws

abbrev pub if_recorded : List Bytes → Option Change → Option Change
if_recorded words None = None
if_recorded words (Some c) = if same_words (record_reader c) words && is_kept c then Some c else None

-- the change that these words are the record of
unfoldable pub change_of_words : List Bytes → Option Change
change_of_words words = if_recorded words (could_be words)

-- the change has a record, which fits a request
pub record IsRecorded (c : Change) : Type 0 where
  pub read_back : change_of_words (record_reader c) ≡ Some c
  pub fits : IsRequest (record_reader c)

-- the words that set a channel anew, without its deadline
abbrev pub normal_words : Channel → List Bytes
normal_words c = codes "SETCHAN" ∷ c.name ∷ c.words

-- a setting's normal words spell the setting itself, without the seconds of EX, and no deadline stands at their front
pub record IsNormal (c : Channel) (from : Option AreaWords) : Type 0 where
  pub spelled : command_spelled (normal_words c) ≡ Some (command.Channel (of_channel.Setchan c from None))
  pub undated : deadline_front c.words ≡ (None, c.words)

-- where its area stood in the words, and where it was an object's, once the object's text stands there
pub record SettingsAreNormal : Type 0 where
  pub given : (words : List Bytes) (c : Channel) (a : Area) (after_ex : Option ℕ)
      → command_spelled words ≡ Some (command.Channel (of_channel.Setchan c (Some (Given a)) after_ex)) → IsNormal c (Some (Given a))
  pub near : (words : List Bytes) (c : Channel) (after_ex : Option ℕ)
      → command_spelled words ≡ Some (command.Channel (of_channel.Setchan c None after_ex)) → IsNormal c None
  pub stored : (words : List Bytes) (c : Channel) (after_ex : Option ℕ) (key id text : Bytes) (shape : Shape)
      → command_spelled words ≡ Some (command.Channel (of_channel.Setchan c (Some (Of key id)) after_ex)) → shape_of text ≡ Ok shape
      → IsNormal (settled_channel c (Figure shape) (codes "OBJECT" ∷ text ∷ [])) (Some (Given (Figure shape)))
