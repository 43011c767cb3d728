use Rattle.std.proofs.Common.{rules, ◌≡◌, ◌++◌, ◌∷◌, []}
use Rattle.std.proofs.lemmas.Result.{err_from_is_err_and}
use Rattle.serde_json.specs.View.{items_view}
use Rattle.geo_text.specs.Walks.{each}
use Rattle.geo_text.specs.Geometries.{part}
use Rattle.geojson_model.specs.Behind.{behind}
use Rattle.geojson_model.proofs.Loops.{goes_on, ends, is_done}
use Rattle.geojson_model.proofs.parts.each_part.Goals as goal

pub returns-in_err-part : goal.returns-in_err-part
returns-in_err-part c =
    let p = err_from_is_err_and c.from_residual.result c.from_residual.ensures.1 in
    rw (p.1, p.2) (ends (part c.args.base) c.in_err-part.field-0.0 c.loop-item.parts c.args.items.now c.loop-item.item-index c.loop-item.count c.item-item.result (behind c.args.parts.now (each (part c.args.base) (items_view c.args.items.now) c.args.count)) c.loop-item-test.true c.item-item.is c.in_err-part.ensures c.loop-item.invariant)

pub loop-item-preserved : goal.loop-item-preserved
loop-item-preserved c =
    let pushed : c.push.new.self ≡ c.loop-item.parts ++ c.in_ok-part.part ∷ [] = search rules in
    rw pushed (goes_on (part c.args.base) c.loop-item.parts c.args.items.now c.loop-item.item-index c.loop-item.count c.item-item.result c.in_ok-part.part c.in_ok-part.after (behind c.args.parts.now (each (part c.args.base) (items_view c.args.items.now) c.args.count)) c.loop-item-test.true c.item-item.is c.in_ok-part.ensures c.loop-item.invariant)

pub returns : goal.returns
returns c = is_done (part c.args.base) c.loop-item.parts c.args.items.now c.loop-item.item-index c.loop-item.count (behind c.args.parts.now (each (part c.args.base) (items_view c.args.items.now) c.args.count)) c.loop-item-test.false c.loop-item.invariant
