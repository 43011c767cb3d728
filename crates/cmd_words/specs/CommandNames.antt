-- The names of the commands.
use Rattle.std.specs.Prelude.{◌≡◌, true, false, List, [], ◌∷◌, codes}
use Rattle.std.specs.List.{AllByRecursion}
use Rattle.byte_text.specs.Names.{Bytes, is_word}
use Rattle.world_model.specs.Commands.{command_rows}
use Rattle.cmd_words.specs.Progress.{Place}
use Rattle.cmd_words.specs.declared.command_names.Row.{Row}
use Rattle.cmd_words.specs.declared.command_names.CommandName.{CommandName}
use Rattle.cmd_words.specs.declared.command_names.CommandName.TheVariants as command
use Rattle.cmd_words.specs.declared.command_names.ObjectName.{ObjectName}
use Rattle.cmd_words.specs.declared.command_names.ObjectName.TheVariants as object
use Rattle.cmd_words.specs.declared.command_names.SearchName.{SearchName}
use Rattle.cmd_words.specs.declared.command_names.SearchName.TheVariants as search
use Rattle.cmd_words.specs.declared.command_names.ChannelName.{ChannelName}
use Rattle.cmd_words.specs.declared.command_names.ChannelName.TheVariants as channel
use Rattle.cmd_words.specs.declared.command_names.SessionName.{SessionName}
use Rattle.cmd_words.specs.declared.command_names.SessionName.TheVariants as session

abbrev pub object_word : ObjectName → Bytes
object_word object.Set = codes "SET"
object_word object.Get = codes "GET"
object_word object.Del = codes "DEL"
object_word object.Pdel = codes "PDEL"
object_word object.Drop = codes "DROP"
object_word object.Fset = codes "FSET"
object_word object.Fget = codes "FGET"
object_word object.Expire = codes "EXPIRE"
object_word object.Persist = codes "PERSIST"
object_word object.Ttl = codes "TTL"
object_word object.Keys = codes "KEYS"
object_word object.Bounds = codes "BOUNDS"
object_word object.Stats = codes "STATS"
object_word object.Flush = codes "FLUSHDB"
object_word object.Shrink = codes "AOFSHRINK"

abbrev pub search_word : SearchName → Bytes
search_word search.Scan = codes "SCAN"
search_word search.Within = codes "WITHIN"
search_word search.Intersects = codes "INTERSECTS"
search_word search.Nearby = codes "NEARBY"

abbrev pub channel_word : ChannelName → Bytes
channel_word channel.Setchan = codes "SETCHAN"
channel_word channel.Delchan = codes "DELCHAN"
channel_word channel.Pdelchan = codes "PDELCHAN"
channel_word channel.Chans = codes "CHANS"

abbrev pub session_word : SessionName → Bytes
session_word session.Subscribe = codes "SUBSCRIBE"
session_word session.Psubscribe = codes "PSUBSCRIBE"
session_word session.Ping = codes "PING"
session_word session.Quit = codes "QUIT"

-- the word that calls the command
abbrev pub word_of : CommandName → Bytes
word_of (command.Object name) = object_word name
word_of (command.Search name) = search_word name
word_of (command.Channel name) = channel_word name
word_of (command.Session name) = session_word name

-- the row has the word of what it names
abbrev pub IsRow : Row → Type 0
IsRow r = r.word.now ≡ word_of r.name

-- the word calls none of these commands
abbrev pub AreOthers : Bytes → List Row → Type 0
AreOthers called rows = AllByRecursion (λ r. is_word called r.word.now ≡ false) rows

-- the word calls no command
abbrev pub IsNoName : Bytes → Type 0
IsNoName called = AllByRecursion (λ r. is_word called r.called ≡ false) command_rows

-- the word that was read is this name
abbrev pub IsNamed : Bytes → Place → Type 0
IsNamed name p = (called : Bytes) × (p.read ≡ called ∷ []) × (is_word called name ≡ true)
