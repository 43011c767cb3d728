-- Parts that a walk puts behind others.
use Rattle.std.specs.Prelude.{ℕ, Bool, true, false, List, ◌++◌, Result, Ok}
use Rattle.geo_text.specs.declared.faults.GeoFault.{GeoFault}
use Rattle.geo_text.specs.declared.types.GeoType.{GeoType}
use Rattle.geo_text.specs.declared.types.GeoType.TheVariants.{Point, MultiPoint, LineString, MultiLineString, Polygon, MultiPolygon}
use Rattle.geo_text.specs.declared.types.GeoType.TheVariants.{GeometryCollection, Feature, FeatureCollection}
use Rattle.geo_text.specs.Walks.{◌>>=◌}

-- what was found before, and behind it what a walk finds
abbrev pub behind : {A : Type 0} → List A → Result (List A × ℕ) GeoFault → Result (List A × ℕ) GeoFault
behind front found = found >>= λ x. Ok (front ++ x.0, x.1)

abbrev pub is_collection : GeoType → Bool
is_collection Point = false
is_collection MultiPoint = false
is_collection LineString = false
is_collection MultiLineString = false
is_collection Polygon = false
is_collection MultiPolygon = false
is_collection GeometryCollection = true
is_collection Feature = false
is_collection FeatureCollection = false
