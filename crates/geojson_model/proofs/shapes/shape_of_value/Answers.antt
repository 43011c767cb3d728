use Rattle.serde_json.specs.View.{view}
use Rattle.geojson_model.proofs.Counts.{are_shape}
use Rattle.geojson_model.proofs.shapes.shape_of_value.Goals as goal

pub unreachable-requires : goal.unreachable-requires
unreachable-requires c =
    are_shape c.in_ok-type_.type_ (view c.args.value.now) c.new-parts.result c.object.new.parts c.in-Err.field-0 c.in_ok-count.count c.new-parts.ensures c.if-count-eq0.false c.in_ok-count.ensures c.in-Err.ensures
