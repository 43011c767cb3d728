use Rattle.std.proofs.Common.{◌≡◌, drop}
use Rattle.serde_json.specs.Data.{depth}
use Rattle.serde_json.specs.View.{view, items_view}
use Rattle.geo_text.specs.Geometries.{geometry, parts_of_each}
use Rattle.geojson_model.specs.Behind.{behind}
use Rattle.geojson_model.proofs.geometries.+geometry.Given as goal

abbrev pub decreases-geometry : goal.decreases-geometry
decreases-geometry l = depth (view l.value.now)

abbrev pub invariant-loop-item : goal.invariant-loop-item
invariant-loop-item l = behind l.parts (parts_of_each geometry (items_view (drop l.item-index l.items)) l.count) ≡ behind l.initial.parts (geometry (view l.value) l.fn.count)
