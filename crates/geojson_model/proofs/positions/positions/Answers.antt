use Rattle.std.proofs.Common.{rules, ◌≡◌, ◌++◌, ◌∷◌, []}
use Rattle.std.proofs.lemmas.Result.{err_from_is_err_and}
use Rattle.serde_json.specs.View.{items_view}
use Rattle.geo_text.specs.Walks.{each, position}
use Rattle.geojson_model.proofs.Loops.{goes_on, ends, is_done}
use Rattle.geojson_model.proofs.positions.positions.Goals as goal

pub returns-in_err-point : goal.returns-in_err-point
returns-in_err-point c =
    let p = err_from_is_err_and c.from_residual.result c.from_residual.ensures.1 in
    rw (p.1, p.2) (ends position c.in_err-point.field-0.0 c.loop-item.points c.args.items.now c.loop-item.item-index c.loop-item.count c.item-item.result (each position (items_view c.args.items.now) c.args.count) c.loop-item-test.true c.item-item.is c.in_err-point.ensures c.loop-item.invariant)

pub loop-item-preserved : goal.loop-item-preserved
loop-item-preserved c =
    let pushed : c.push.new.self ≡ c.loop-item.points ++ c.in_ok-point.point ∷ [] = search rules in
    rw pushed (goes_on position c.loop-item.points c.args.items.now c.loop-item.item-index c.loop-item.count c.item-item.result c.in_ok-point.point c.in_ok-point.after (each position (items_view c.args.items.now) c.args.count) c.loop-item-test.true c.item-item.is c.in_ok-point.ensures c.loop-item.invariant)

pub returns : goal.returns
returns c = is_done position c.loop-item.points c.args.items.now c.loop-item.item-index c.loop-item.count (each position (items_view c.args.items.now) c.args.count) c.loop-item-test.false c.loop-item.invariant
