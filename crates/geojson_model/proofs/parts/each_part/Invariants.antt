use Rattle.std.proofs.Common.{◌≡◌, drop}
use Rattle.serde_json.specs.View.{items_view}
use Rattle.geo_text.specs.Walks.{each}
use Rattle.geo_text.specs.Geometries.{part}
use Rattle.geojson_model.specs.Behind.{behind}
use Rattle.geojson_model.proofs.parts.each_part.Given as goal

abbrev pub invariant-loop-item : goal.invariant-loop-item
invariant-loop-item l = behind l.parts (each (part l.base) (items_view (drop l.item-index l.items)) l.count) ≡ behind l.initial.parts (each (part l.base) (items_view l.items) l.fn.count)
