use Rattle.serde_json.specs.View.{view, items_view}
use Rattle.geojson_model.proofs.Rings.{no_polygon}
use Rattle.geojson_model.proofs.positions.polygon.Goals as goal

pub returns : goal.returns
returns c = no_polygon (view c.args.value.now) (items_view c.in_ok-items.items.now) c.in_ok-rings.rings c.in-Err.field-0 c.args.count c.in_ok-rings.count c.in_ok-items.ensures c.in_ok-rings.ensures c.in-Err.ensures
