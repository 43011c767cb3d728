use Rattle.std.proofs.Common.{rules, ◌≡◌, ◌++◌, ◌∷◌, []}
use Rattle.std.proofs.lemmas.Result.{err_from_is_err_and}
use Rattle.serde_json.specs.View.{items_view}
use Rattle.geo_text.specs.Walks.{each, ring}
use Rattle.geojson_model.proofs.Loops.{goes_on, ends, is_done}
use Rattle.geojson_model.proofs.positions.rings.Goals as goal

pub returns-in_err-points : goal.returns-in_err-points
returns-in_err-points c =
    let p = err_from_is_err_and c.from_residual.result c.from_residual.ensures.1 in
    rw (p.1, p.2) (ends ring c.in_err-points.field-0.0 c.loop-item.all c.args.items.now c.loop-item.item-index c.loop-item.count c.item-item.result (each ring (items_view c.args.items.now) c.args.count) c.loop-item-test.true c.item-item.is c.in_err-points.ensures c.loop-item.invariant)

pub loop-item-preserved : goal.loop-item-preserved
loop-item-preserved c =
    let pushed : c.push.new.self ≡ c.loop-item.all ++ c.in_ok-points.points ∷ [] = search rules in
    rw pushed (goes_on ring c.loop-item.all c.args.items.now c.loop-item.item-index c.loop-item.count c.item-item.result c.in_ok-points.points c.in_ok-points.after (each ring (items_view c.args.items.now) c.args.count) c.loop-item-test.true c.item-item.is c.in_ok-points.ensures c.loop-item.invariant)

pub returns : goal.returns
returns c = is_done ring c.loop-item.all c.args.items.now c.loop-item.item-index c.loop-item.count (each ring (items_view c.args.items.now) c.args.count) c.loop-item-test.false c.loop-item.invariant
