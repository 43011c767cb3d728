-- RFC 7946, section 3.1: positions, lines and rings, read from left to right; the first fault met counts.
use Rattle.std.specs.Prelude.{ℕ, ◌+◌, ℤ, nat_lt, List, [], ◌∷◌, length, Option, Some, None, Result, Ok, Err, if◌then◌else◌}
use Rattle.serde_json.specs.Data.{Num, unsigned, negative, float, Data, null, boolean, number, string, array, object, Items, no_items, item}
use Rattle.serde_json.specs.Find.{as_i64}
use Rattle.planar_geom.specs.Points.{Point, pt, is_coordinate}
pub use Rattle.planar_geom.specs.Figures.{is_closed}
use Rattle.planar_geom.specs.declared.shapes.TheConstants.{MAX_POSITIONS}
use Rattle.geo_text.specs.declared.faults.GeoFault.{GeoFault}
use Rattle.geo_text.specs.declared.faults.GeoFault.TheVariants.{NotWhole, OutOfRange, BadRing, TooFew, TooMany, BadPosition}

-- the first fault met is the one that comes out
infixl 10 ◌>>=◌
abbrev pub ◌>>=◌ : {A B : Type 0} → Result A GeoFault → (A → Result B GeoFault) → Result B GeoFault
(Ok x) >>= f = f x
(Err e) >>= f = Err e

-- a number as a coordinate of the plane
abbrev pub within : Option ℤ → Result ℤ GeoFault
within None = Err OutOfRange
within (Some z) = if is_coordinate z then Ok z else Err OutOfRange

-- a coordinate: a number that JSON writes without fraction and exponent, within the range
abbrev pub coordinate : Num → Result ℤ GeoFault
coordinate (unsigned n) = within (as_i64 (unsigned n))
coordinate (negative z) = within (Some z)
coordinate (float x) = Err NotWhole

abbrev pub second_number : Num → Data → Result (Num × Num) GeoFault
second_number x null = Err BadPosition
second_number x (boolean b) = Err BadPosition
second_number x (number y) = Ok (x, y)
second_number x (string s) = Err BadPosition
second_number x (array ds) = Err BadPosition
second_number x (object ms) = Err BadPosition

abbrev pub pair : Data → Data → Result (Num × Num) GeoFault
pair null y = Err BadPosition
pair (boolean b) y = Err BadPosition
pair (number x) y = second_number x y
pair (string s) y = Err BadPosition
pair (array ds) y = Err BadPosition
pair (object ms) y = Err BadPosition

-- an altitude is a number too, and is not interpreted
abbrev pub free_third : Data → Result (Num × Num) GeoFault → Result (Num × Num) GeoFault
free_third null numbers = Err BadPosition
free_third (boolean b) numbers = Err BadPosition
free_third (number z) numbers = numbers
free_third (string s) numbers = Err BadPosition
free_third (array ds) numbers = Err BadPosition
free_third (object ms) numbers = Err BadPosition

-- section 3.1.1, Position: two or three numbers
abbrev pub numbers : Items → Result (Num × Num) GeoFault
numbers no_items = Err BadPosition
numbers (item x no_items) = Err BadPosition
numbers (item x (item y no_items)) = pair x y
numbers (item x (item y (item z no_items))) = free_third z (pair x y)
numbers (item x (item y (item z (item w ds)))) = Err BadPosition

-- the items of an array
abbrev pub array_of : Data → Result Items GeoFault
array_of null = Err BadPosition
array_of (boolean b) = Err BadPosition
array_of (number n) = Err BadPosition
array_of (string s) = Err BadPosition
array_of (array ds) = Ok ds
array_of (object ms) = Err BadPosition

-- a position: longitude (x) first, then latitude (y)
unfoldable pub point : Data → Result Point GeoFault
point d = do
  ds ← array_of d
  n ← numbers ds
  x ← coordinate n.0
  y ← coordinate n.1
  Ok (pt x y)

-- a position behind `count` others; what stands in the place of one too many is not looked at
unfoldable pub position : Data → ℕ → Result (Point × ℕ) GeoFault
position d count = do
  c ← (if nat_lt count MAX_POSITIONS then Ok (count + 1) else Err TooMany)
  p ← point d
  Ok (p, c)

-- the items one after another, with the number of positions so far
unfoldable pub each : {A : Type 0} → (Data → ℕ → Result (A × ℕ) GeoFault) → Items → ℕ → Result (List A × ℕ) GeoFault
each walk no_items count = Ok ([], count)
each walk (item d ds) count = do
  first ← walk d count
  others ← each walk ds first.1
  Ok (first.0 ∷ others.0, others.1)

abbrev pub positions : Items → ℕ → Result (List Point × ℕ) GeoFault
positions ds count = each position ds count

unfoldable pub positions_of : Data → ℕ → Result (List Point × ℕ) GeoFault
positions_of d count = do
  ds ← array_of d
  positions ds count

-- section 3.1.4, LineString: two or more positions
unfoldable pub line : Data → ℕ → Result (List Point × ℕ) GeoFault
line d count = do
  ps ← positions_of d count
  if nat_lt (length ps.0) 2 then Err TooFew else Ok ps

-- section 3.1.6, Polygon: a linear ring has four or more positions, and the first is the last
unfoldable pub ring : Data → ℕ → Result (List Point × ℕ) GeoFault
ring d count = do
  ps ← positions_of d count
  if nat_lt (length ps.0) 4 then Err TooFew else (if is_closed ps.0 then Ok ps else Err BadRing)

abbrev pub rings : Items → ℕ → Result (List (List Point) × ℕ) GeoFault
rings ds count = each ring ds count

-- a polygon has one or more rings
unfoldable pub polygon : Data → ℕ → Result (List (List Point) × ℕ) GeoFault
polygon d count = do
  ds ← array_of d
  rs ← rings ds count
  if nat_lt (length rs.0) 1 then Err TooFew else Ok rs
