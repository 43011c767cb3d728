-- Texts of objects: what is stored for a point and a box, and the shape of every text or why it has none.
use Rattle.std.specs.Prelude.{ℕ, ℤ, Bool, ◌&&◌, ◌||◌, ◌==◌, nat_le, nat_lt, List, [], ◌∷◌, ◌++◌, length, filter, map, codes, Option, Some, None}
use Rattle.std.specs.Prelude.{Result, Ok, Err, if◌then◌else◌}
use Rattle.std.specs.Fmt.{signed_decimal}
use Rattle.std.specs.Str.{is_utf8}
use Rattle.serde_json.specs.Data.{Data}
use Rattle.serde_json.specs.Read.{read}
use Rattle.byte_text.specs.Names.{Bytes, same}
use Rattle.byte_text.specs.Numbers.{signed_value}
use Rattle.planar_geom.specs.Points.{Point, Bounds, pt, bounds, is_coordinate, is_low_of}
use Rattle.planar_geom.specs.declared.shapes.Part.TheVariants.{Spot, Face}
use Rattle.geo_text.specs.declared.faults.GeoFault.{GeoFault}
use Rattle.geo_text.specs.declared.faults.GeoFault.TheVariants.{NotJson}
use Rattle.geo_text.specs.Geometries as geometries

-- the parts of a shape
abbrev pub Shape : Type 0
Shape = geometries.Shape

-- texts with commas between them
abbrev pub with_commas : List Bytes → Bytes
with_commas [] = []
with_commas (t ∷ []) = t
with_commas (t ∷ u ∷ ts) = t ++ 44 ∷ with_commas (u ∷ ts)

-- a position, x first
abbrev pub position_text : Point → Bytes
position_text p = codes "[" ++ signed_decimal p.x ++ codes "," ++ signed_decimal p.y ++ codes "]"

-- the text that is stored for a point
abbrev pub point_text : Point → Bytes
point_text p = codes "{\"type\":\"Point\",\"coordinates\":" ++ position_text p ++ codes "}"

-- the corners of a box, from its min round to its min
abbrev pub corners : Bounds → List Point
corners b = b.min ∷ pt b.max.x b.min.y ∷ b.max ∷ pt b.min.x b.max.y ∷ b.min ∷ []

-- the text that is stored for a box
abbrev pub bounds_text : Bounds → Bytes
bounds_text b = codes "{\"type\":\"Polygon\",\"coordinates\":[[" ++ with_commas (map position_text (corners b)) ++ codes "]]}"

-- reading a stored text back: its numbers say which point or box it could be of, and it is then compared with that one's text

-- a digit or a minus sign
abbrev pub is_of_number : ℕ → Bool
is_of_number b = b == 45 || (nat_le 48 b && nat_le b 57)

-- a byte more in front of the first of these runs
abbrev pub joins_first : ℕ → List Bytes → List Bytes
joins_first b [] = (b ∷ []) ∷ []
joins_first b (w ∷ ws) = (b ∷ w) ∷ ws

-- the runs of digits and minus signs between all other bytes
abbrev pub digit_runs : Bytes → List Bytes
digit_runs [] = [] ∷ []
digit_runs (b ∷ bs) = if is_of_number b then joins_first b (digit_runs bs) else [] ∷ digit_runs bs

-- the numbers that stand in a text, in order
abbrev pub numbers_in : Bytes → List ℤ
numbers_in text = map signed_value (filter (λ w. nat_lt 0 (length w)) (digit_runs text))

-- the corners stand on the plane, the least first
abbrev pub in_plane : Point → Bool
in_plane p = is_coordinate p.x && is_coordinate p.y

abbrev pub is_box : Bounds → Bool
is_box b = in_plane b.min && in_plane b.max && is_low_of b.min b.max

-- the point's shape, where the text is the one that is stored for it
abbrev pub if_point : Bytes → Point → Option Shape
if_point text p = if in_plane p && same (point_text p) text then Some (Spot p ∷ []) else None

-- the box's shape, where the text is the one that is stored for it
abbrev pub if_bounds : Bytes → Bounds → Option Shape
if_bounds text b = if is_box b && same (bounds_text b) text then Some (Face (corners b ∷ []) ∷ []) else None

-- the shape of a text of one of the two stored forms
abbrev pub stored_by : Bytes → List ℤ → Option Shape
stored_by text (x ∷ y ∷ []) = if_point text (pt x y)
stored_by text (a ∷ b ∷ c ∷ beside ∷ above ∷ d ∷ others) = if_bounds text (bounds (pt a b) (pt c d))
stored_by text numbers = None

abbrev pub stored_shape : Bytes → Option Shape
stored_shape text = stored_by text (numbers_in text)

-- the shape of any other text: it is read as JSON and its value is walked
abbrev pub shape_of_json : Option Data → Result Shape GeoFault
shape_of_json None = Err NotJson
shape_of_json (Some d) = geometries.shape d

abbrev pub walked : Bytes → Result Shape GeoFault
walked text = if is_utf8 text then shape_of_json (read text) else Err NotJson

abbrev pub stored_or : Option Shape → Result Shape GeoFault → Result Shape GeoFault
stored_or (Some shape) other = Ok shape
stored_or None other = other

-- the shape of a text, or why it has none
unfoldable pub shape_of : Bytes → Result Shape GeoFault
shape_of text = stored_or (stored_shape text) (walked text)
