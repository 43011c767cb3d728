-- Which commands are asked for.
use Rattle.std.specs.Prelude.{◌≡◌, ◌<◌, ℕ, true, List, Option, Ok, length, IfSome}
use Rattle.std.specs.List.{AllByRecursion}
use Rattle.byte_text.specs.Names.{Bytes, is_name}
use Rattle.byte_text.specs.Globs.{is_well_formed}
use Rattle.geo_text.specs.Texts.{shape_of}
use Rattle.world_data.specs.Filters.{are_fields}
use Rattle.world_model.specs.Commands.{reads}
use Rattle.world_data.specs.Sound.{is_sound_area, is_sound_query}
use Rattle.world_model.specs.Sound.{is_sound_reach, is_sound_setting}
use Rattle.world_model.specs.declared.search_commands.AreaWords.{AreaWords}
use Rattle.world_model.specs.declared.search_commands.AreaWords.TheVariants.{Given, Of}
use Rattle.world_model.specs.declared.commands.Command.{Command}
use Rattle.world_model.specs.declared.commands.Command.TheVariants as command
use Rattle.world_model.specs.declared.object_commands.ObjectCommand.TheVariants as of_object
use Rattle.world_model.specs.declared.search_commands.SearchCommand.TheVariants as of_search
use Rattle.world_model.specs.declared.channel_commands.ChannelCommand.TheVariants as of_channel
use Rattle.world_model.specs.declared.session_commands.SessionCommand.TheVariants as of_session
use Rattle.world_data.specs.declared.queries.Query.{Query}
use Rattle.world_data.specs.declared.queries.Rule.{Rule}
use Rattle.world_data.specs.declared.queries.Rule.TheVariants.{All, Descending, InArea, Nearest}
use Rattle.world_data.specs.declared.queries.Shown.{Shown}
use Rattle.world_data.specs.declared.queries.Shown.TheVariants as shown

-- an output of one object
abbrev pub IsOfObject : Shown → Type 0
IsOfObject shown.Objects = Unit {0}
IsOfObject shown.Points = Unit {0}
IsOfObject shown.Bounds = Unit {0}
IsOfObject shown.Ids = ⊥
IsOfObject shown.Count = ⊥

-- a pattern of names
abbrev pub IsPattern : Bytes → Type 0
IsPattern pattern = (is_name pattern ≡ true) × (is_well_formed pattern ≡ true)

-- the objects of a key by id, up or down
abbrev pub IsById : Rule → Type 0
IsById All = Unit {0}
IsById Descending = Unit {0}
IsById (InArea kind a) = ⊥
IsById Nearest = ⊥

-- the query is sound, its objects are sought by id, and a pattern is a name
pub record IsScan (q : Query) : Type 0 where
  pub sound : is_sound_query q ≡ true
  pub by_id : IsById q.rule
  pub named : IfSome q.glob (λ pattern. is_name pattern ≡ true)

-- a search in an area: the query is sound, a pattern is a name, and the rule keeps the area that is given, or what holds the place of an object's
abbrev pub IsKept : Rule → AreaWords → Type 0
IsKept (InArea kind a) (Given b) = (b ≡ a) × (is_sound_area b ≡ true)
IsKept (InArea kind a) (Of key id) = (is_name key ≡ true) × (is_name id ≡ true)
IsKept All from = ⊥
IsKept Descending from = ⊥
IsKept Nearest from = ⊥

pub record IsSearch (q : Query) (from : AreaWords) : Type 0 where
  pub sound : is_sound_query q ≡ true
  pub kept : IsKept q.rule from
  pub named : IfSome q.glob (λ pattern. is_name pattern ≡ true)

-- a search of the nearest: the query is sound, a pattern is a name, and the meters are within their limit
pub record IsNearby (q : Query) (reach : Option ℕ) : Type 0 where
  pub sound : is_sound_query q ≡ true
  pub nearest : q.rule ≡ Nearest
  pub within : is_sound_reach reach ≡ true
  pub named : IfSome q.glob (λ pattern. is_name pattern ≡ true)

-- the command is served: its keys, ids, field names and patterns are names, and so are the channels that it takes out or subscribes to;
-- fields are in order and none is 0; a text has the shape; a channel that is put is sound
abbrev pub IsServed : Command → Type 0
IsServed (command.Object (of_object.Set key id fields cleared seconds only text shape)) =
    (is_name key ≡ true) × (is_name id ≡ true) × (are_fields fields ≡ true) × (shape_of text ≡ Ok shape)
IsServed (command.Object (of_object.Get key id with_fields how)) = (is_name key ≡ true) × (is_name id ≡ true) × IsOfObject how
IsServed (command.Object (of_object.Del key id)) = (is_name key ≡ true) × (is_name id ≡ true)
IsServed (command.Object (of_object.Pdel key pattern)) = (is_name key ≡ true) × IsPattern pattern
IsServed (command.Object (of_object.Drop key)) = is_name key ≡ true
IsServed (command.Object (of_object.Fset key id fields cleared)) = (is_name key ≡ true) × (is_name id ≡ true) × (are_fields fields ≡ true)
IsServed (command.Object (of_object.Fget key id field)) = (is_name key ≡ true) × (is_name id ≡ true) × (is_name field ≡ true)
IsServed (command.Object (of_object.Expire key id seconds)) = (is_name key ≡ true) × (is_name id ≡ true)
IsServed (command.Object (of_object.Persist key id)) = (is_name key ≡ true) × (is_name id ≡ true)
IsServed (command.Object (of_object.Ttl key id)) = (is_name key ≡ true) × (is_name id ≡ true)
IsServed (command.Object (of_object.Keys pattern)) = IsPattern pattern
IsServed (command.Object (of_object.Bounds key)) = is_name key ≡ true
IsServed (command.Object (of_object.Stats keys)) = (0 < length keys) × AllByRecursion (λ key. is_name key ≡ true) keys
IsServed (command.Object of_object.Flush) = Unit {0}
IsServed (command.Object of_object.Shrink) = Unit {0}
IsServed (command.Session of_session.Ping) = Unit {0}
IsServed (command.Session of_session.Quit) = Unit {0}
IsServed (command.Search (of_search.Scan key q)) = (is_name key ≡ true) × IsScan q
IsServed (command.Search (of_search.Area key q from)) = (is_name key ≡ true) × IsSearch q from
IsServed (command.Search (of_search.Nearby key q at reach)) = (is_name key ≡ true) × IsNearby q reach
IsServed (command.Channel (of_channel.Setchan c from after_ex)) = is_sound_setting c from ≡ true
IsServed (command.Channel (of_channel.Delchan name)) = is_name name ≡ true
IsServed (command.Channel (of_channel.Pdelchan pattern)) = IsPattern pattern
IsServed (command.Channel (of_channel.Chans pattern)) = IsPattern pattern
IsServed (command.Session (of_session.Subscribe names)) = (0 < length names) × AllByRecursion (λ name. is_name name ≡ true) names
IsServed (command.Session (of_session.Psubscribe patterns)) = (0 < length patterns) × AllByRecursion IsPattern patterns

-- what words ask for is served
abbrev pub CommandsAreServed : Type 0
CommandsAreServed = (words : List Bytes) (c : Command) → reads words ≡ Ok c → IsServed c
