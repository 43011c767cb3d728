use Rattle.std.proofs.Common.{◌≡◌, drop}
use Rattle.serde_json.specs.View.{items_view}
use Rattle.geo_text.specs.Geometries.{parts_of_each, feature_item}
use Rattle.geojson_model.specs.Behind.{behind}
use Rattle.geojson_model.proofs.shapes.feature_items.Given as goal

abbrev pub invariant-loop-item : goal.invariant-loop-item
invariant-loop-item l = behind l.parts (parts_of_each feature_item (items_view (drop l.item-index l.items)) l.count) ≡ behind l.initial.parts (parts_of_each feature_item (items_view l.items) l.fn.count)
