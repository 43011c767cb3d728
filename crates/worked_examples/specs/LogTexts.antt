-- Sides of a log, and words of records.
use Rattle.std.specs.Prelude.{◌≡◌, ◌+◌, ◌-◌, ◌^◌, ℕ, pos, negsuc, Bool, true, false, ◌==◌, List, [], ◌∷◌, ◌++◌, length, take, drop, codes, Option}
use Rattle.std.specs.Prelude.{Some, None, option_map, if◌then◌else◌}
use Prim.Native.String.{String}
use Rattle.byte_text.specs.Names.{Bytes}
use Rattle.byte_text.specs.Requests.{request_text}
use Rattle.planar_geom.specs.Points.{pt}
use Rattle.planar_geom.specs.declared.shapes.Part.TheVariants.{Spot}
use Rattle.geo_text.specs.Texts.{joins_first}
use Rattle.world_data.specs.Worlds.{empty_world}
use Rattle.world_model.specs.Commands.{command_spelled}
use Rattle.world_data.specs.Filters.{Field}
use Rattle.world_data.specs.Records.{record_reader}
use Rattle.world_data.specs.declared.values.Value.TheVariants.{Whole, Word}
use Rattle.world_model.specs.declared.commands.Command.{Command}
use Rattle.world_model.specs.declared.commands.Command.TheVariants as command
use Rattle.world_model.specs.declared.channel_commands.ChannelCommand.TheVariants as of_channel
use Rattle.world_data.specs.declared.objects.Object.{Object}
use Rattle.world_data.specs.declared.worlds.World.{World}
use Rattle.world_data.specs.declared.worlds.Change.{Change}
use Rattle.world_data.specs.declared.worlds.Change.TheVariants.{Put, Del, Drop, Flush, SetChan, DelChan}
use Rattle.outside.specs.declared.sides.Side.{Side}
use Rattle.outside.specs.declared.sides.Side.TheVariants.{A, B}
use Rattle.outside.specs.Sides.{Sides}
use Rattle.log_record.specs.Words.{change_of_words, same_words, until}
use Rattle.log_record.specs.Versions.{least_version, change_of_version}
use Rattle.log_record.specs.Readings.{side_text, Reading, fresh, stands, damaged, reading}

abbrev pub split_spaces : Bytes → List Bytes
split_spaces [] = [] ∷ []
split_spaces (b ∷ bs) = if b == 32 then [] ∷ split_spaces bs else joins_first b (split_spaces bs)

abbrev pub line : String → List Bytes
line s = split_spaces (codes s)

-- the object of `SET k a POINT 1 2`
abbrev pub spot : Object
spot = record {
  key = codes "k";
  id = codes "a";
  text = codes "{\"type\":\"Point\",\"coordinates\":[2,1]}";
  shape = Spot (pt (pos 2) (pos 1)) ∷ [];
  fields = [];
  deadline = None;
}

abbrev pub one_object : World
one_object = record { objects = spot ∷ []; channels = [] }

-- 108 bytes: a header and its gate, an open gate with a batch of 82 bytes, and a closed gate
abbrev pub example : Bytes
example = (1 ∷ 84 ∷ 70 ∷ 76 ∷ 3 ∷ 0 ∷ 0 ∷ 0 ∷ 0 ∷ 0 ∷ 0 ∷ 0 ∷ 0 ∷ 0 ∷ 0 ∷ 1 ∷ []) ++ (1 ∷ 0 ∷ 0 ∷ 0 ∷ 0 ∷ 0 ∷ 0 ∷ 0 ∷ 82 ∷ [])
    ++ codes "*5\r\n$3\r\nSET\r\n$1\r\nk\r\n$1\r\na\r\n$6\r\nOBJECT\r\n$36\r\n{\"type\":\"Point\",\"coordinates\":[2,1]}\r\n" ++ 0 ∷ []

abbrev pub sides : Bytes → Bytes → Sides
sides a b = record { a = a; b = b }

-- the first n bytes of the example, on side A alone
abbrev pub first : ℕ → Reading
first n = reading (sides (take n example) [])

-- the byte at a place set
abbrev pub with_byte : ℕ → ℕ → Bytes → Bytes
with_byte at b bytes = take at bytes ++ b ∷ drop (at + 1) bytes

-- a side of version 3 and a generation with these batches
abbrev pub side : ℕ → List (List Change) → Bytes
side = side_text 3

abbrev pub putting : List (List Change)
putting = (Put spot ∷ []) ∷ []

-- a side that stands, of a version
abbrev pub stood_of : ℕ → Side → ℕ → ℕ → World → Reading
stood_of v s g gate w = stands (record { side = s; version = v; generation = g; gate = gate; world = w })

abbrev pub stood : Side → ℕ → ℕ → World → Reading
stood = stood_of 3

pub record HoldsSides : Type 0 where
  pub length : length example ≡ 108
  pub text : side 1 putting ≡ example
  pub whole : reading (sides example []) ≡ stood A 1 107 one_object
  pub no_byte : first 0 ≡ fresh
  pub one_byte : first 1 ≡ fresh
  pub no_gate : first 16 ≡ fresh
  pub no_length : first 17 ≡ damaged A 17
  pub half_length : first 20 ≡ damaged A 17
  pub half_batch : first 106 ≡ damaged A 17
  pub no_last_gate : first 107 ≡ damaged A 107
  -- a gate that is torn is closed, whatever its byte: the batch behind it is not read
  pub torn : reading (sides (with_byte 16 255 example) []) ≡ stood A 1 16 empty_world
  pub torn_two : reading (sides (with_byte 16 2 (take 20 example)) []) ≡ stood A 1 16 empty_world
  -- what stands behind the closed gate is not read
  pub stale : reading (sides (example ++ 9 ∷ 9 ∷ []) []) ≡ stood A 1 107 one_object
  -- the side's own gate
  pub side_closed : reading (sides (with_byte 0 7 example) []) ≡ fresh
  pub side_closed_b : reading (sides (with_byte 0 7 example) (1 ∷ [])) ≡ damaged A 0
  -- wrong headers, the least place first
  pub mark_wrong : reading (sides (with_byte 4 4 (with_byte 2 0 example)) []) ≡ damaged A 1
  pub version_wrong : reading (sides (with_byte 15 0 (with_byte 4 4 example)) []) ≡ damaged A 4
  pub zeros_wrong : reading (sides (with_byte 15 0 (with_byte 7 1 example)) []) ≡ damaged A 5
  pub generation_wrong : reading (sides (with_byte 15 0 example) []) ≡ damaged A 8
  -- a header of the side that is not in use counts too, and side A is looked at first
  pub old_header : reading (sides (with_byte 3 0 example) (side 2 [])) ≡ damaged A 1
  pub header_b : reading (sides (take 17 example) (with_byte 5 1 (side 2 []))) ≡ damaged B 5
  pub header_a_first : reading (sides (with_byte 15 0 example) (with_byte 1 1 (side 2 []))) ≡ damaged A 8
  -- generations
  pub equal : reading (sides example (side 1 [])) ≡ damaged B 8
  pub newer_b : reading (sides example (side 2 [])) ≡ stood B 2 16 empty_world
  pub newer_a : reading (sides (side 3 putting) (side 2 [])) ≡ stood A 3 107 one_object
  -- the side that is not in use is not read to its end
  pub old_broken : reading (sides (take 50 example) (side 256 putting)) ≡ stood B 256 107 one_object
  pub b_broken : reading (sides example (take 30 (side 2 putting))) ≡ damaged B 17
  -- a record that is none, at the place of its first byte
  pub no_record : reading (sides (with_byte 33 115 example) []) ≡ damaged A 25
  pub second_record : reading (sides (side 1 ((Put spot ∷ Drop (codes "k") ∷ []) ∷ (Del (codes "") (codes "a") ∷ []) ∷ [])) []) ≡ damaged A 137
  pub two_batches : reading (sides (side 1 ((Put spot ∷ Drop (codes "k") ∷ []) ∷ (Put spot ∷ []) ∷ [])) []) ≡ stood A 1 219 one_object

-- the words are a record, and say what they are the record of
abbrev pub is_record : List Bytes → Bool
is_record words = kept (change_of_words words)
  where
    kept : Option Change → Bool
    kept None = false
    kept (Some c) = same_words (record_reader c) words

-- the channel that a command sets, with this deadline
abbrev pub channel_set : Option ℕ → Option Command → Option Change
channel_set deadline (Some (command.Channel (of_channel.Setchan c from after_ex))) = Some (SetChan (until deadline c))
channel_set deadline o = None

-- the put of the object with these fields
abbrev pub with_fields : List Field → Change
with_fields fields = Put (record spot { fields = fields })

pub record HoldsWords : Type 0 where
  pub put : change_of_words (line "SET k a OBJECT {\"type\":\"Point\",\"coordinates\":[2,1]}") ≡ Some (Put spot)
  pub all : change_of_words (line "SET k a FIELD b -5 FIELD c 7 AT 1000 OBJECT {\"type\":\"Point\",\"coordinates\":[2,1]}")
      ≡ Some (Put (record spot { fields = (codes "b", Whole (negsuc 4)) ∷ (codes "c", Whole (pos 7)) ∷ []; deadline = Some 1000 }))
  pub lower : change_of_words (line "set k a OBJECT {\"type\":\"Point\",\"coordinates\":[2,1]}") ≡ None
  pub point : change_of_words (line "SET k a POINT 1 2") ≡ None
  pub order : change_of_words (line "SET k a FIELD c 7 FIELD b 5 OBJECT {\"type\":\"Point\",\"coordinates\":[2,1]}") ≡ None
  pub twice : change_of_words (line "SET k a FIELD b 7 FIELD b 5 OBJECT {\"type\":\"Point\",\"coordinates\":[2,1]}") ≡ None
  pub zero_value : change_of_words (line "SET k a FIELD b 0 OBJECT {\"type\":\"Point\",\"coordinates\":[2,1]}") ≡ None
  -- what is no canonical number of 64 bits is a text
  pub not_canonical : change_of_words (line "SET k a FIELD b 07 OBJECT {\"type\":\"Point\",\"coordinates\":[2,1]}")
      ≡ Some (with_fields ((codes "b", Word (codes "07")) ∷ []))
  pub too_great : change_of_words (line "SET k a FIELD b 9223372036854775808 OBJECT {\"type\":\"Point\",\"coordinates\":[2,1]}")
      ≡ Some (with_fields ((codes "b", Word (codes "9223372036854775808")) ∷ []))
  pub no_value : change_of_words (codes "SET" ∷ codes "k" ∷ codes "a" ∷ codes "FIELD" ∷ codes "b" ∷ [] ∷ codes "OBJECT" ∷ spot.text ∷ []) ≡ None
  pub great : is_record (line "SET k a FIELD b 9223372036854775807 AT 18446744073709551615 OBJECT {\"type\":\"Point\",\"coordinates\":[2,1]}") ≡ true
  pub late : is_record (line "SET k a AT 18446744073709551616 OBJECT {\"type\":\"Point\",\"coordinates\":[2,1]}") ≡ false
  pub no_text : change_of_words (line "SET k a OBJECT") ≡ None
  pub bad_text : change_of_words (line "SET k a OBJECT {}") ≡ None
  -- a field may be called as an option
  pub called_at : is_record (line "SET k a FIELD AT 5 FIELD FIELD 6 FIELD OBJECT 7 OBJECT {\"type\":\"Point\",\"coordinates\":[2,1]}") ≡ true
  pub del : change_of_words (line "DEL k a") ≡ Some (Del (codes "k") (codes "a"))
  pub drop : change_of_words (line "DROP k") ≡ Some (Drop (codes "k"))
  pub flush : change_of_words (line "FLUSHDB") ≡ Some Flush
  pub flush_more : change_of_words (line "FLUSHDB x") ≡ None
  pub delchan : change_of_words (line "DELCHAN f") ≡ Some (DelChan (codes "f"))
  pub none : change_of_words [] ≡ None
  pub ping : change_of_words (line "PING") ≡ None
  -- a channel's normal words alone
  pub setchan : change_of_words (line "SETCHAN f WITHIN k FENCE DETECT enter,exit BOUNDS 0 0 5 5")
      ≡ channel_set None (command_spelled (line "SETCHAN f WITHIN k FENCE DETECT exit,enter BOUNDS 0 0 5 5"))
  pub not_normal : change_of_words (line "SETCHAN f WITHIN k FENCE DETECT exit,enter BOUNDS 0 0 5 5") ≡ None
  pub by_get : change_of_words (line "SETCHAN f WITHIN k FENCE GET k a") ≡ None
  pub roam : is_record (line "SETCHAN r NEARBY k MATCH a* WHERE s -inf 5 WHEREIN t 2 1 9 FENCE NODWELL COMMANDS set ROAM k * 5") ≡ true
  pub disc : is_record (line "SETCHAN r NEARBY k FENCE POINT 1 2 30") ≡ true
  pub figure : is_record (line "SETCHAN r INTERSECTS k FENCE OBJECT {\"type\":\"Point\",\"coordinates\":[2,1]}") ≡ true
  pub same : is_record (line "SETCHAN r WITHIN k WHERE s idle idle WHEREIN t 2 1 busy FENCE BOUNDS 0 0 5 5") ≡ true
  pub two_texts : change_of_words (line "SETCHAN r WITHIN k WHERE s idle busy FENCE BOUNDS 0 0 5 5") ≡ None
  -- a channel that goes: its deadline stands behind its name, and no seconds
  pub dated : change_of_words (line "SETCHAN f AT 5000 WITHIN k FENCE BOUNDS 0 0 5 5")
      ≡ channel_set (Some 5000) (command_spelled (line "SETCHAN f EX 5 WITHIN k FENCE BOUNDS 0 0 5 5"))
  pub dated_last : is_record (line "SETCHAN f AT 18446744073709551615 WITHIN k FENCE BOUNDS 0 0 5 5") ≡ true
  pub too_late : is_record (line "SETCHAN f AT 18446744073709551616 WITHIN k FENCE BOUNDS 0 0 5 5") ≡ false
  pub date_not_canonical : is_record (line "SETCHAN f AT 05000 WITHIN k FENCE BOUNDS 0 0 5 5") ≡ false
  pub dated_twice : is_record (line "SETCHAN f AT 5000 AT 5000 WITHIN k FENCE BOUNDS 0 0 5 5") ≡ false
  pub date_behind : is_record (line "SETCHAN f WITHIN k AT 5000 FENCE BOUNDS 0 0 5 5") ≡ false
  pub no_date : is_record (line "SETCHAN f AT WITHIN k FENCE BOUNDS 0 0 5 5") ≡ false
  pub seconds : is_record (line "SETCHAN f EX 5 WITHIN k FENCE BOUNDS 0 0 5 5") ≡ false

-- the object of a text
abbrev pub idle : Object
idle = record spot { fields = (codes "state", Word (codes "idle")) ∷ [] }

abbrev pub idle_world : World
idle_world = record { objects = idle ∷ []; channels = [] }

-- a side of a version with one batch, the record that these words are
abbrev pub side_of_words : ℕ → List Bytes → Bytes
side_of_words version words = let text = request_text words in
    1 ∷ (84 ∷ 70 ∷ 76 ∷ version ∷ 0 ∷ 0 ∷ 0 ∷ 0 ∷ 0 ∷ 0 ∷ 0 ∷ 0 ∷ 0 ∷ 0 ∷ 1 ∷ []) ++ (1 ∷ 0 ∷ 0 ∷ 0 ∷ 0 ∷ 0 ∷ 0 ∷ 0 ∷ length text ∷ []) ++ text ++ 0 ∷ []

abbrev pub dated_side : ℕ → Reading
dated_side version = reading (sides (side_of_words version (line "SETCHAN f AT 5000 WITHIN k FENCE BOUNDS 0 0 5 5")) [])

-- where the gate is that is closed, if the log stands
abbrev pub gate_in : Reading → Option ℕ
gate_in fresh = None
gate_in (stands s) = Some s.gate
gate_in (damaged side place) = None

-- the least version that can say the change whose record a line is
abbrev pub said_since : String → Option ℕ
said_since s = option_map least_version (change_of_words (line s))

pub record HoldsVersions : Type 0 where
  pub number : least_version (with_fields ((codes "n", Whole (pos 3)) ∷ [])) ≡ 1
  pub text : least_version (Put idle) ≡ 2
  pub mortal : least_version (Put (record spot { deadline = Some 1000 })) ≡ 1
  pub range : said_since "SETCHAN f WITHIN k WHERE n 1 5 WHEREIN n 2 1 5 FENCE BOUNDS 0 0 5 5" ≡ Some 1
  pub same : said_since "SETCHAN f WITHIN k WHERE state idle idle FENCE BOUNDS 0 0 5 5" ≡ Some 2
  pub among : said_since "SETCHAN f WITHIN k WHEREIN state 2 3 idle FENCE BOUNDS 0 0 5 5" ≡ Some 2
  pub dated : said_since "SETCHAN f AT 5000 WITHIN k FENCE BOUNDS 0 0 5 5" ≡ Some 3
  pub dated_same : said_since "SETCHAN f AT 5000 WITHIN k WHERE state idle idle FENCE BOUNDS 0 0 5 5" ≡ Some 3
  -- words as records of each version
  pub text_in_one : change_of_version 1 (record_reader (Put idle)) ≡ None
  pub text_in_two : change_of_version 2 (record_reader (Put idle)) ≡ Some (Put idle)
  pub text_in_three : change_of_version 3 (record_reader (Put idle)) ≡ Some (Put idle)
  pub number_in_one : change_of_version 1 (record_reader (Put spot)) ≡ Some (Put spot)
  pub none_in_three : change_of_version 3 (line "SETCHAN f EX 5 WITHIN k FENCE BOUNDS 0 0 5 5") ≡ None
  -- the worked side in the older versions, and in versions that there are not
  pub first_version : reading (sides (with_byte 4 1 example) []) ≡ stood_of 1 A 1 107 one_object
  pub second_version : reading (sides (with_byte 4 2 example) []) ≡ stood_of 2 A 1 107 one_object
  pub no_version : reading (sides (with_byte 4 0 example) []) ≡ damaged A 4
  pub fourth_version : reading (sides (with_byte 4 4 example) []) ≡ damaged A 4
  pub last_version : reading (sides (with_byte 4 255 example) []) ≡ damaged A 4
  -- the greatest generation is one of the newest version alone
  pub first_latest : reading (sides (side_text 1 (2 ^ 64 - 1) putting) []) ≡ damaged A 8
  pub second_latest : reading (sides (side_text 2 (2 ^ 64 - 1) putting) []) ≡ damaged A 8
  pub second_late : reading (sides (side_text 2 (2 ^ 64 - 2) putting) []) ≡ stood_of 2 A (2 ^ 64 - 2) 107 one_object
  pub latest : reading (sides (side_text 3 (2 ^ 64 - 1) putting) []) ≡ stood A (2 ^ 64 - 1) 107 one_object
  -- an older side in use beside a newer one
  pub older_in_use : reading (sides (side_text 1 5 putting) (side_text 3 4 [])) ≡ stood_of 1 A 5 107 one_object
  -- a record of a later version is none, at its first byte
  pub later_text : reading (sides (side_text 1 1 ((Put idle ∷ []) ∷ [])) []) ≡ damaged A 25
  pub text_stands : reading (sides (side_text 2 1 ((Put idle ∷ []) ∷ [])) []) ≡ stood_of 2 A 1 139 idle_world
  pub dated_one : dated_side 1 ≡ damaged A 25
  pub dated_two : dated_side 2 ≡ damaged A 25
  pub dated_three : gate_in (dated_side 3) ≡ Some 138
