-- The areas that are searched.
use Rattle.std.specs.Prelude.{◌≡◌, ℕ, true, List, [], ◌∷◌, Option, Some, None, codes, decimal}
use Rattle.std.specs.Fmt.{signed_decimal}
use Rattle.byte_text.specs.Names.{Bytes}
use Rattle.planar_geom.specs.Points.{Point, Bounds}
use Rattle.planar_geom.specs.declared.shapes.Area.{Area}
use Rattle.planar_geom.specs.declared.shapes.Area.TheVariants.{Rect, Disc, Figure}
use Rattle.geo_text.specs.Texts.{Shape}
use Rattle.world_model.specs.Grammar.{Form, ◌>>=◌}
use Rattle.world_model.specs.Kinds.{name, meters, lat_lon, four, geojson}
use Rattle.world_model.specs.Commands.{AreaRead, given_area, area, nowhere}
use Rattle.world_model.specs.declared.search_commands.AreaWords.{AreaWords}
use Rattle.world_model.specs.declared.search_commands.AreaWords.TheVariants.{Given, Of}
use Rattle.world_model.specs.declared.commands.Command.{Command}
use Rattle.cmd_words.specs.Progress.{Place, Took, IsNot}
use Rattle.cmd_words.specs.declared.areas.AreaWord.{AreaWord}
use Rattle.cmd_words.specs.declared.areas.AreaWord.TheVariants as at

-- the normal words of an area that is given, with its text where it is given by one
abbrev pub text_words : Option Bytes → List Bytes
text_words (Some text) = codes "OBJECT" ∷ text ∷ []
text_words None = []

abbrev pub given_words : Area → Option Bytes → List Bytes
given_words (Rect b) text = codes "BOUNDS" ∷ signed_decimal b.min.y ∷ signed_decimal b.min.x ∷ signed_decimal b.max.y ∷ signed_decimal b.max.x ∷ []
given_words (Disc p r) text = codes "CIRCLE" ∷ signed_decimal p.y ∷ signed_decimal p.x ∷ decimal r ∷ []
given_words (Figure f) text = text_words text

-- the words of an area; an object's come when the command is done
abbrev pub area_words : AreaWords → Option Bytes → List Bytes
area_words (Given a) text = given_words a text
area_words (Of key id) text = []

-- the area of a box, of a shape, of a disc, and of an object
abbrev pub given : Area → Option Bytes → AreaRead
given a text = given_area a (given_words a text)

abbrev pub box_area : Bounds → AreaRead
box_area b = given (Rect b) None

abbrev pub figure_area : Bytes × Shape → AreaRead
figure_area t = given (Figure t.1) (Some t.0)

abbrev pub disc_area : Point → ℕ → AreaRead
disc_area p r = given (Disc p r) None

abbrev pub object_area : Bytes → Bytes → AreaRead
object_area key id = record { from = Of key id; area = nowhere; words = [] }

-- an area, and what is to follow it
abbrev pub an_area : (AreaRead → Form Command) → Form Command
an_area next = area >>= next

-- the word that an area begins with
abbrev pub area_name : AreaWord → Bytes
area_name at.Bounds = codes "BOUNDS"
area_name at.Object = codes "OBJECT"
area_name at.Circle = codes "CIRCLE"
area_name at.Get = codes "GET"

-- what stands behind that word
abbrev pub behind_area : AreaWord → (AreaRead → Form Command) → Form Command
behind_area at.Bounds next = four >>= λ b. next (box_area b)
behind_area at.Object next = geojson >>= λ t. next (figure_area t)
behind_area at.Circle next = lat_lon >>= λ p. meters >>= λ r. next (disc_area p r)
behind_area at.Get next = name >>= λ key. name >>= λ id. next (object_area key id)

-- no area is next
abbrev pub LacksArea : List Bytes → Type 0
LacksArea left = (kind : AreaWord) → IsNot (area_name kind) left

-- the word of an area was read; or none was, and none is next
abbrev pub TakesArea : Place → Place → Option AreaWord → Type 0
TakesArea old new (Some kind) = Took (area_name kind) old new true
TakesArea old new None = (new ≡ old) × LacksArea old.left
