use Rattle.std.proofs.Common.{◌≡◌, drop}
use Rattle.serde_json.specs.View.{items_view}
use Rattle.geo_text.specs.Walks.{each, position}
use Rattle.geojson_model.specs.Behind.{behind}
use Rattle.geojson_model.proofs.positions.positions.Given as goal

abbrev pub invariant-loop-item : goal.invariant-loop-item
invariant-loop-item l = behind l.points (each position (items_view (drop l.item-index l.items)) l.count) ≡ each position (items_view l.items) l.fn.count
