-- How the commands on channels are spelled.
use Rattle.std.specs.Prelude.{ℕ, ℤ, Bool, true, false, not, ◌&&◌, nat_lt, List, [], ◌∷◌, ◌++◌, length, map, filter, Option, Some, None, is_none}
use Rattle.std.specs.Prelude.{if◌then◌else◌, codes, decimal, flat_map}
use Rattle.std.specs.List.{list_all}
use Rattle.std.specs.Fmt.{signed_decimal}
use Rattle.byte_text.specs.Names.{Bytes}
use Rattle.planar_geom.specs.declared.shapes.Area.TheVariants.{Disc}
use Rattle.geo_text.specs.Texts.{with_commas}
use Rattle.world_data.specs.Limits.{max_tests}
use Rattle.world_data.specs.Filters.{value_text}
use Rattle.world_model.specs.Grammar.{Form, ◌>>=◌, ◌>>◌, done, one_of, where_, word, maybe, repeated}
use Rattle.world_model.specs.Kinds.{name, glob, seconds, meters, lat_lon, list_of, is_in}
use Rattle.world_data.specs.declared.filters.Test.{Test}
use Rattle.world_data.specs.declared.filters.Test.TheVariants.{Range, Same, Among}
use Rattle.world_data.specs.declared.channels.Kind.{Kind}
use Rattle.world_data.specs.declared.channels.Kind.TheVariants.{Within, Intersects, Near}
use Rattle.world_data.specs.declared.channels.Watch.{Watch}
use Rattle.world_data.specs.declared.channels.Watch.TheVariants as watch
use Rattle.world_data.specs.declared.channels.Wanted.{Wanted}
use Rattle.world_model.specs.declared.search_commands.AreaWords.{AreaWords}
use Rattle.world_model.specs.declared.commands.Command.{Command}
use Rattle.world_model.specs.declared.commands.Command.TheVariants as command
use Rattle.world_model.specs.declared.channel_commands.ChannelCommand.TheVariants as of_channel
use Rattle.world_model.specs.Rows.{Row, row, of_one}
use Rattle.world_model.specs.SearchForms.{test, area, area_words}

-- SETCHAN: what the fence options have said so far
pub record FenceOptions : Type 0 where
  pub glob : Option Bytes
  pub tests : List Test
  pub fence : Bool
  pub detect : Option (List Bytes)
  pub commands : Option (List Bytes)
  pub nodwell : Bool

abbrev pub no_fence_options : FenceOptions
no_fence_options = record { glob = None; tests = []; fence = false; detect = None; commands = None; nodwell = false }

abbrev pub detect_names : List Bytes
detect_names = codes "inside" ∷ codes "outside" ∷ codes "enter" ∷ codes "exit" ∷ codes "cross" ∷ []

abbrev pub command_names : List Bytes
command_names = codes "set" ∷ codes "del" ∷ codes "drop" ∷ []

-- NODWELL stands in NEARBY alone, and not beside DETECT
abbrev pub fence_option : Bool → FenceOptions → Form FenceOptions
fence_option near so_far = one_of (
    where_ (is_none so_far.glob) (word (codes "MATCH") >> glob >>= λ pattern. done (record so_far { glob = Some pattern })) ∷
    where_ (nat_lt (length so_far.tests) max_tests) (test >>= λ t. done (record so_far { tests = so_far.tests ++ t ∷ [] })) ∷
    where_ (not so_far.fence) (word (codes "FENCE") >> done (record so_far { fence = true })) ∷
    where_ (is_none so_far.detect && not so_far.nodwell)
    (word (codes "DETECT") >> list_of detect_names >>= λ l. done (record so_far { detect = Some l })) ∷
    where_ (is_none so_far.commands) (word (codes "COMMANDS") >> list_of command_names >>= λ l. done (record so_far { commands = Some l })) ∷
    where_ (near && not so_far.nodwell && is_none so_far.detect) (word (codes "NODWELL") >> done (record so_far { nodwell = true })) ∷ [])

abbrev pub wants : Option (List Bytes) → Bytes → Bool
wants None w = true
wants (Some names) w = is_in names w

abbrev pub wanted_of : FenceOptions → Wanted
wanted_of o = record {
  inside = wants o.detect (codes "inside");
  outside = wants o.detect (codes "outside");
  enter = wants o.detect (codes "enter");
  exit = wants o.detect (codes "exit");
  cross = wants o.detect (codes "cross");
  set = wants o.commands (codes "set");
  del = wants o.commands (codes "del");
  drop = wants o.commands (codes "drop");
}

-- normal words

abbrev pub bound_word : Bytes → Option ℤ → Bytes
bound_word endless None = endless
bound_word endless (Some z) = signed_decimal z

abbrev pub test_words : Test → List Bytes
test_words (Range n low high) = codes "WHERE" ∷ n ∷ bound_word (codes "-inf") low ∷ bound_word (codes "+inf") high ∷ []
test_words (Same n t) = codes "WHERE" ∷ n ∷ t ∷ t ∷ []
test_words (Among n values) = codes "WHEREIN" ∷ n ∷ decimal (length values) ∷ map value_text values

abbrev pub glob_words : Option Bytes → List Bytes
glob_words None = []
glob_words (Some pattern) = codes "MATCH" ∷ pattern ∷ []

-- a list of names where not all are wanted
abbrev pub list_words : Bytes → List Bytes → Option (List Bytes) → List Bytes
list_words called names found = if list_all (wants found) names then [] else called ∷ with_commas (filter (wants found) names) ∷ []

abbrev pub option_words : FenceOptions → List Bytes
option_words o = glob_words o.glob ++ flat_map test_words o.tests ++ codes "FENCE" ∷ (if o.nodwell then codes "NODWELL" ∷ [] else [])
    ++ list_words (codes "DETECT") detect_names o.detect ++ list_words (codes "COMMANDS") command_names o.commands

-- a name, and the seconds that EX gives behind it, where it stands there
pub record Called : Type 0 where
  pub name : Bytes
  pub after_ex : Option ℕ

abbrev pub setting : Called → Bytes → Bytes → FenceOptions → Watch → List Bytes → Option AreaWords → Command
setting called kind_word key o w area_words from = command.Channel (of_channel.Setchan (record {
  name = called.name;
  fence = record { key = key; glob = o.glob; tests = o.tests; wanted = wanted_of o; watch = w };
  words = kind_word ∷ key ∷ option_words o ++ area_words;
  deadline = None;
}) from called.after_ex)

abbrev pub setchan_area : Bytes → Kind → Called → Form Command
setchan_area kind_word kind channel = do
  word kind_word
  key ← name
  o ← repeated (fence_option false) no_fence_options
  a ← where_ o.fence area
  done (setting channel kind_word key o (watch.Zone kind a.area) a.words (Some a.from))

-- a disc, or objects near others: NODWELL is of the second alone, DETECT of the first
abbrev pub near_area : Called → Bytes → FenceOptions → Form Command
near_area channel key o = one_of (
    where_ (not o.nodwell) (word (codes "POINT") >> lat_lon >>= λ p. meters >>= λ r.
    done (setting channel (codes "NEARBY") key o (watch.Zone Near (Disc p r))
    (codes "POINT" ∷ signed_decimal p.y ∷ signed_decimal p.x ∷ decimal r ∷ []) None)) ∷
    where_ (is_none o.detect) (word (codes "ROAM") >> name >>= λ other. glob >>= λ pattern. meters >>= λ r.
    done (setting channel (codes "NEARBY") key o (watch.Roam other pattern r o.nodwell) (codes "ROAM" ∷ other ∷ pattern ∷ decimal r ∷ []) None)) ∷ [])

abbrev pub setchan_near : Called → Form Command
setchan_near channel = do
  word (codes "NEARBY")
  key ← name
  o ← repeated (fence_option true) no_fence_options
  where_ o.fence (near_area channel key o)

abbrev pub setchan_kinds : Called → Form Command
setchan_kinds channel =
    one_of (setchan_area (codes "WITHIN") Within channel ∷ setchan_area (codes "INTERSECTS") Intersects channel ∷ setchan_near channel ∷ [])

-- EX and seconds, or nothing
abbrev pub after_ex_words : Form (Option ℕ)
after_ex_words = maybe None (word (codes "EX") >> seconds >>= λ s. done (Some s))

-- EX stands directly behind the name
abbrev pub setchan_words : Form Command
setchan_words = do
  channel_name ← name
  after_ex ← after_ex_words
  setchan_kinds (record { name = channel_name; after_ex = after_ex })

-- a row a command
abbrev pub channel_rows : List Row
channel_rows =
    row (codes "SETCHAN") setchan_words ∷
    row (codes "DELCHAN") (of_one name (λ channel. command.Channel (of_channel.Delchan channel))) ∷
    row (codes "PDELCHAN") (of_one glob (λ pattern. command.Channel (of_channel.Pdelchan pattern))) ∷
    row (codes "CHANS") (of_one glob (λ pattern. command.Channel (of_channel.Chans pattern))) ∷ []
