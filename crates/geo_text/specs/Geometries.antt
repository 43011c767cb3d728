-- RFC 7946, sections 1.4 and 3: the nine types of objects and their members, walked in order.
use Rattle.std.specs.Prelude.{ℕ, ◌==◌, List, [], ◌∷◌, ◌++◌, Option, Some, None, Result, Ok, Err, if◌then◌else◌, codes, option_and_then, bytes_eq}
use Rattle.std.specs.Ordering.{match_ordering, nat_cmp}
use Rattle.std.specs.Cmp.Lexicographic.{slice_cmp}
use Rattle.serde_json.specs.Data.{Data, null, boolean, number, string, array, object, Items, no_items, item, Members, no_members, member}
use Rattle.serde_json.specs.Find.{get, as_str, as_array}
use Rattle.planar_geom.specs.declared.shapes.Part.{Part}
use Rattle.planar_geom.specs.declared.shapes.Part.TheVariants as parts
use Rattle.geo_text.specs.declared.faults.GeoFault.{GeoFault}
use Rattle.geo_text.specs.declared.faults.GeoFault.TheVariants.{NotSpatial, BadType}
use Rattle.geo_text.specs.declared.types.Base.{Base}
use Rattle.geo_text.specs.declared.types.Base.TheVariants.{Spot, Chain, Face}
use Rattle.geo_text.specs.declared.types.GeoType.{GeoType}
use Rattle.geo_text.specs.declared.types.GeoType.TheVariants.{Point, MultiPoint, LineString, MultiLineString, Polygon, MultiPolygon}
use Rattle.geo_text.specs.declared.types.GeoType.TheVariants.{GeometryCollection, Feature, FeatureCollection}
use Rattle.geo_text.specs.Walks.{◌>>=◌, array_of, each, position, line, polygon}

-- the parts of a shape, in the order of the walk
abbrev pub Shape : Type 0
Shape = List Part

-- section 1.4: the nine types by their names
abbrev pub type_named : List ℕ → Result GeoType GeoFault
type_named s =
    if bytes_eq s (codes "Point") then Ok Point else (
    if bytes_eq s (codes "MultiPoint") then Ok MultiPoint else (
    if bytes_eq s (codes "LineString") then Ok LineString else (
    if bytes_eq s (codes "MultiLineString") then Ok MultiLineString else (
    if bytes_eq s (codes "Polygon") then Ok Polygon else (
    if bytes_eq s (codes "MultiPolygon") then Ok MultiPolygon else (
    if bytes_eq s (codes "GeometryCollection") then Ok GeometryCollection else (
    if bytes_eq s (codes "Feature") then Ok Feature else (
    if bytes_eq s (codes "FeatureCollection") then Ok FeatureCollection else Err BadType))))))))

abbrev pub type_or : Option (List ℕ) → Result GeoType GeoFault
type_or None = Err NotSpatial
type_or (Some s) = type_named s

-- the type of an object
abbrev pub type_of : Data → Result GeoType GeoFault
type_of d = type_or (option_and_then as_str (get (codes "type") d))

abbrev pub items_or : Option Items → Result Items GeoFault
items_or None = Err NotSpatial
items_or (Some ds) = Ok ds

-- the items of the array at a member
abbrev pub array_at : List ℕ → Data → Result Items GeoFault
array_at name d = items_or (option_and_then as_array (get name d))

-- one part, from what stands in its place
unfoldable pub part : Base → Data → ℕ → Result (Part × ℕ) GeoFault
part Spot d count = do
  p ← position d count
  Ok (parts.Spot p.0, p.1)
part Chain d count = do
  ps ← line d count
  Ok (parts.Chain ps.0, ps.1)
part Face d count = do
  rs ← polygon d count
  Ok (parts.Face rs.0, rs.1)

-- a geometry of one part
unfoldable pub single : Base → Data → ℕ → Result (Shape × ℕ) GeoFault
single base d count = do
  f ← part base d count
  Ok (f.0 ∷ [], f.1)

-- a geometry of many parts (the types that begin with Multi)
unfoldable pub many : Base → Data → ℕ → Result (Shape × ℕ) GeoFault
many base d count = do
  ds ← array_of d
  each (part base) ds count

-- a walk over the array at a member, if there is one
abbrev pub Walk : Type 0
Walk = ℕ → Result (Shape × ℕ) GeoFault

abbrev pub go : Option Walk → ℕ → Result (Shape × ℕ) GeoFault
go None count = Err NotSpatial
go (Some walk) count = walk count

-- the value, where it is an array
abbrev pub array_only : Data → Result Data GeoFault
array_only null = Err NotSpatial
array_only (boolean b) = Err NotSpatial
array_only (number n) = Err NotSpatial
array_only (string s) = Err NotSpatial
array_only (array ds) = Ok (array ds)
array_only (object ms) = Err NotSpatial

-- the value, where it is an object
abbrev pub object_only : Data → Result Data GeoFault
object_only null = Err NotSpatial
object_only (boolean b) = Err NotSpatial
object_only (number n) = Err NotSpatial
object_only (string s) = Err NotSpatial
object_only (array ds) = Err NotSpatial
object_only (object ms) = Ok (object ms)

-- the value of a member that must be there
abbrev pub there : Option Data → Result Data GeoFault
there None = Err NotSpatial
there (Some d) = Ok d

-- the array at `coordinates`
unfoldable pub coordinates : Data → Result Data GeoFault
coordinates d = do
  found ← there (get (codes "coordinates") d)
  array_only found

-- the same, at `coordinates`
unfoldable pub single_at : Base → Data → ℕ → Result (Shape × ℕ) GeoFault
single_at base d count = do
  found ← coordinates d
  single base found count

unfoldable pub many_at : Base → Data → ℕ → Result (Shape × ℕ) GeoFault
many_at base d count = do
  found ← coordinates d
  many base found count

-- a geometry by its type; `inner` walks the array at `geometries`
abbrev pub of_type : GeoType → Data → Option Walk → ℕ → Result (Shape × ℕ) GeoFault
of_type Point d inner count = single_at Spot d count
of_type MultiPoint d inner count = many_at Spot d count
of_type LineString d inner count = single_at Chain d count
of_type MultiLineString d inner count = many_at Chain d count
of_type Polygon d inner count = single_at Face d count
of_type MultiPolygon d inner count = many_at Face d count
of_type GeometryCollection d inner count = go inner count
of_type Feature d inner count = Err BadType
of_type FeatureCollection d inner count = Err BadType

-- section 3.1, Geometry Object: the `geometries` of a collection (section 3.1.8) are geometries again, and no features
unfoldable mutual
  pub geometry : Data → ℕ → Result (Shape × ℕ) GeoFault
  geometry null count = Err NotSpatial
  geometry (boolean b) count = Err NotSpatial
  geometry (number n) count = Err NotSpatial
  geometry (string s) count = Err NotSpatial
  geometry (array ds) count = Err NotSpatial
  geometry (object ms) count = type_of (object ms) >>= λ type_. of_type type_ (object ms) (inner (codes "geometries") ms) count

  pub inner : List ℕ → Members → Option Walk
  inner name no_members = None
  inner name (member l e ms) = match_ordering (slice_cmp nat_cmp name l) (inner name ms) (walk_of e) (inner name ms)

  pub walk_of : Data → Option Walk
  walk_of null = None
  walk_of (boolean b) = None
  walk_of (number n) = None
  walk_of (string s) = None
  walk_of (array ds) = Some (geometries ds)
  walk_of (object ms) = None

  pub geometries : Items → ℕ → Result (Shape × ℕ) GeoFault
  geometries no_items count = Ok ([], count)
  geometries (item d ds) count = geometry d count >>= λ first. geometries ds first.1 >>= λ others. Ok (first.0 ++ others.0, others.1)

-- section 3.2, Feature Object: its `geometry` must be an object; null is refused
unfoldable pub feature : Data → ℕ → Result (Shape × ℕ) GeoFault
feature d count = do
  found ← there (get (codes "geometry") d)
  g ← object_only found
  geometry g count

-- the items of `features` must be features
unfoldable pub only_feature : GeoType → Data → ℕ → Result (Shape × ℕ) GeoFault
only_feature Feature d count = feature d count
only_feature Point d count = Err BadType
only_feature MultiPoint d count = Err BadType
only_feature LineString d count = Err BadType
only_feature MultiLineString d count = Err BadType
only_feature Polygon d count = Err BadType
only_feature MultiPolygon d count = Err BadType
only_feature GeometryCollection d count = Err BadType
only_feature FeatureCollection d count = Err BadType

unfoldable pub feature_item : Data → ℕ → Result (Shape × ℕ) GeoFault
feature_item d count = do
  type_ ← type_of d
  only_feature type_ d count

-- one item after another, their parts one behind another
unfoldable pub parts_of_each : (Data → ℕ → Result (Shape × ℕ) GeoFault) → Items → ℕ → Result (Shape × ℕ) GeoFault
parts_of_each walk no_items count = Ok ([], count)
parts_of_each walk (item d ds) count = do
  first ← walk d count
  others ← parts_of_each walk ds first.1
  Ok (first.0 ++ others.0, others.1)

-- section 3.3, FeatureCollection Object
unfoldable pub features : Data → ℕ → Result (Shape × ℕ) GeoFault
features d count = do
  ds ← array_at (codes "features") d
  parts_of_each feature_item ds count

abbrev pub top_of : GeoType → Data → Result (Shape × ℕ) GeoFault
top_of Point d = geometry d 0
top_of MultiPoint d = geometry d 0
top_of LineString d = geometry d 0
top_of MultiLineString d = geometry d 0
top_of Polygon d = geometry d 0
top_of MultiPolygon d = geometry d 0
top_of GeometryCollection d = geometry d 0
top_of Feature d = feature d 0
top_of FeatureCollection d = features d 0

-- the shape of a value: it has a position
unfoldable pub shape : Data → Result Shape GeoFault
shape d = do
  type_ ← type_of d
  fs ← top_of type_ d
  if fs.1 == 0 then Err NotSpatial else Ok fs.0
