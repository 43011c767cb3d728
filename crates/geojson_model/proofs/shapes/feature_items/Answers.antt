use Rattle.std.proofs.lemmas.Result.{err_from_is_err_and}
use Rattle.serde_json.specs.View.{items_view}
use Rattle.geo_text.specs.Geometries.{parts_of_each, feature_item}
use Rattle.geojson_model.specs.Behind.{behind}
use Rattle.geojson_model.proofs.Loops.{goes_on_joined, ends_joined, is_done_joined}
use Rattle.geojson_model.proofs.shapes.feature_items.Goals as goal

pub returns-in_err-count : goal.returns-in_err-count
returns-in_err-count c =
    let p = err_from_is_err_and c.from_residual.result c.from_residual.ensures.1 in
    rw (p.1, p.2) (ends_joined feature_item c.in_err-count.field-0.0 c.loop-item.parts c.args.items.now c.loop-item.item-index c.loop-item.count c.item-item.result (behind c.args.parts.now (parts_of_each feature_item (items_view c.args.items.now) c.args.count)) c.loop-item-test.true c.item-item.is c.in_err-count.ensures c.loop-item.invariant)

pub loop-item-preserved : goal.loop-item-preserved
loop-item-preserved c =
    goes_on_joined feature_item c.loop-item.parts c.feature_item.new.parts c.args.items.now c.loop-item.item-index c.loop-item.count c.item-item.result c.in_ok-count.count (behind c.args.parts.now (parts_of_each feature_item (items_view c.args.items.now) c.args.count)) c.loop-item-test.true c.item-item.is c.in_ok-count.ensures c.loop-item.invariant

pub returns : goal.returns
returns c = is_done_joined feature_item c.loop-item.parts c.args.items.now c.loop-item.item-index c.loop-item.count (behind c.args.parts.now (parts_of_each feature_item (items_view c.args.items.now) c.args.count)) c.loop-item-test.false c.loop-item.invariant
