-- GeoJSON texts: accepted with their shapes, and a refusal of each kind (RFC 7946).
use Rattle.std.specs.Prelude.{◌≡◌, pos, negsuc, [], ◌∷◌, codes, Ok, Err}
use Prim.Native.String.{String}
use Rattle.planar_geom.specs.Points.{pt}
use Rattle.planar_geom.specs.declared.shapes.Part.TheVariants.{Spot, Chain, Face}
use Rattle.geo_text.specs.Texts.{Shape, shape_of}
use Rattle.geo_text.specs.declared.faults.GeoFault.{GeoFault}
use Rattle.geo_text.specs.declared.faults.GeoFault.TheVariants.{NotJson, NotSpatial, BadType, NotWhole, OutOfRange, BadRing, TooFew, BadPosition}

abbrev Accepted : String → Shape → Type 0
Accepted text shape = shape_of (codes text) ≡ Ok shape

abbrev Refused : String → GeoFault → Type 0
Refused text fault = shape_of (codes text) ≡ Err fault

pub record HoldsTexts : Type 0 where
  pub stored_point : Accepted "{\"type\":\"Point\",\"coordinates\":[-2,1]}" (Spot (pt (negsuc 1) (pos 1)) ∷ [])
  pub stored_bounds : Accepted "{\"type\":\"Polygon\",\"coordinates\":[[[1,2],[3,2],[3,4],[1,4],[1,2]]]}"
      (Face ((pt (pos 1) (pos 2) ∷ pt (pos 3) (pos 2) ∷ pt (pos 3) (pos 4) ∷ pt (pos 1) (pos 4) ∷ pt (pos 1) (pos 2) ∷ []) ∷ []) ∷ [])
  pub other_order : Accepted "{\"coordinates\": [7, 8, 9], \"type\": \"Point\"}" (Spot (pt (pos 7) (pos 8)) ∷ [])
  pub collection : Accepted
      "{\"type\":\"GeometryCollection\",\"geometries\":[{\"type\":\"MultiPoint\",\"coordinates\":[]},{\"type\":\"LineString\",\"coordinates\":[[0,0],[1,1]]}]}"
      (Chain (pt (pos 0) (pos 0) ∷ pt (pos 1) (pos 1) ∷ []) ∷ [])
  pub feature : Accepted "{\"type\":\"Feature\",\"properties\":null,\"geometry\":{\"type\":\"Point\",\"coordinates\":[7,8]}}"
      (Spot (pt (pos 7) (pos 8)) ∷ [])
  pub not_json : Refused "{\"type\":\"Point\"," NotJson
  pub not_spatial : Refused "{\"kind\":\"Point\"}" NotSpatial
  pub null_geometry : Refused "{\"type\":\"Feature\",\"geometry\":null}" NotSpatial
  pub no_position : Refused "{\"type\":\"MultiPoint\",\"coordinates\":[]}" NotSpatial
  pub bad_type : Refused "{\"type\":\"Circle\"}" BadType
  pub bare_feature : Refused "{\"type\":\"FeatureCollection\",\"features\":[{\"type\":\"Point\",\"coordinates\":[1,2]}]}" BadType
  pub not_whole : Refused "{\"type\":\"Point\",\"coordinates\":[1.5,2]}" NotWhole
  pub out_of_range : Refused "{\"type\":\"Point\",\"coordinates\":[1,1000000001]}" OutOfRange
  pub stored_out_of_range : Refused "{\"type\":\"Point\",\"coordinates\":[1000000001,1]}" OutOfRange
  pub bad_ring : Refused "{\"type\":\"Polygon\",\"coordinates\":[[[0,0],[9,0],[9,9],[1,0]]]}" BadRing
  pub too_few : Refused "{\"type\":\"LineString\",\"coordinates\":[[0,0]]}" TooFew
  pub bad_position : Refused "{\"type\":\"Point\",\"coordinates\":[1]}" BadPosition
  pub x_before_y : Refused "{\"type\":\"Point\",\"coordinates\":[1.5,1000000001]}" NotWhole
