-- The lengths of records, by their words.
use Rattle.std.specs.Prelude.{ℕ, ◌≤◌, List, length, flat_map}
use Rattle.std.specs.List.{AllByRecursion}
use Rattle.byte_text.specs.Names.{Bytes}
use Rattle.byte_text.specs.Lines.{bulk_text}
use Rattle.world_data.specs.Limits.{max_weight}
use Rattle.world_data.specs.Records.{record_len}
use Rattle.world_data.specs.declared.channels.Channel.{Channel}
use Rattle.world_data.specs.declared.objects.Object.{Object}
use Rattle.world_data.specs.declared.worlds.Change.TheVariants as change

-- the bytes of words in a request
abbrev pub words_len : List Bytes → ℕ
words_len words = length (flat_map bulk_text words)

-- the length of the record of an object, and of a channel
abbrev pub len_of : Object → ℕ
len_of o = record_len (change.Put o)

abbrev pub len_of_channel : Channel → ℕ
len_of_channel c = record_len (change.SetChan c)

-- an object has no more fields than all records of a world may have bytes; so it is of each object whose record fits a request, also
-- of one that has more fields than a command may give it
abbrev pub HasFewFields : Object → Type 0
HasFewFields o = length o.fields ≤ max_weight

abbrev pub HaveFewFields : List Object → Type 0
HaveFewFields objects = AllByRecursion HasFewFields objects
