-- The text of some words of a record.
use Rattle.std.specs.Prelude.{List, flat_map}
use Rattle.byte_text.specs.Names.{Bytes}
use Rattle.byte_text.specs.Lines.{bulk_text}
use Rattle.world_data.specs.Filters.{Field}
use Rattle.world_data.specs.Records.{field_words}

-- each as a bulk string, one behind another
abbrev pub words_text : List Bytes → Bytes
words_text words = flat_map bulk_text words

-- the words of a field
abbrev pub field_text : Field → Bytes
field_text f = words_text (field_words f)
