-- The words of the workload, as they are sent.
use Rattle.std.specs.Prelude.{List, ◌++◌, codes, decimal, map}
use Rattle.byte_text.specs.Names.{Bytes}
use Rattle.work_gen.specs.declared.words.Word.{Word}
use Rattle.work_gen.specs.declared.words.Word.TheVariants as word

abbrev pub word_text : Word → Bytes
word_text word.Psubscribe = codes "PSUBSCRIBE"
word_text word.Setchan = codes "SETCHAN"
word_text word.Set = codes "SET"
word_text word.Del = codes "DEL"
word_text word.Intersects = codes "INTERSECTS"
word_text word.Nearby = codes "NEARBY"
word_text word.Within = codes "WITHIN"
word_text word.Fence = codes "FENCE"
word_text word.Detect = codes "DETECT"
word_text word.Point = codes "POINT"
word_text word.Bounds = codes "BOUNDS"
word_text word.Count = codes "COUNT"
word_text word.Limit = codes "LIMIT"
word_text word.Ids = codes "IDS"
word_text word.All = codes "*"
word_text word.Fleet = codes "fleet"
word_text word.EnterExit = codes "enter,exit"
word_text (word.Vehicle n) = codes "v" ++ decimal n
word_text (word.Zone n) = codes "f" ++ decimal n
word_text (word.Number n) = decimal n

-- the words of a request
unfoldable pub texts : List Word → List Bytes
texts words = map word_text words
