use Rattle.std.proofs.Common.{◌≡◌, drop}
use Rattle.serde_json.specs.View.{items_view}
use Rattle.geo_text.specs.Walks.{each, ring}
use Rattle.geojson_model.specs.Behind.{behind}
use Rattle.geojson_model.proofs.positions.rings.Given as goal

abbrev pub invariant-loop-item : goal.invariant-loop-item
invariant-loop-item l = behind l.all (each ring (items_view (drop l.item-index l.items)) l.count) ≡ each ring (items_view l.items) l.fn.count
