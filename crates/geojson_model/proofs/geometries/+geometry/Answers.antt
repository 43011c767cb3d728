use Rattle.std.proofs.Common.{rules, ◌≡◌, ◌<◌, true, false, codes}
use Rattle.std.proofs.lemmas.Result.{err_from_is_err_and}
use Rattle.serde_json.specs.Data.{depth}
use Rattle.serde_json.specs.View.{view, items_view}
use Rattle.geo_text.specs.Geometries.{geometry}
use Rattle.geojson_model.specs.Behind.{behind, is_collection}
use Rattle.geojson_model.proofs.Loops.{goes_on_joined, ends_joined, is_done_joined}
use Rattle.geojson_model.proofs.Nested.{plain_is, no_type, no_array, shallower, starts}
use Rattle.geojson_model.proofs.geometries.+geometry.Goals as goal

pub returns-in_err-type_ : goal.returns-in_err-type_
returns-in_err-type_ t c =
    let p = err_from_is_err_and c.from_residual.result c.from_residual.ensures.1 in
    rw (p.1, p.2) (no_type c.in_err-type_.field-0.0 c.args.parts.now (view c.args.value.now) c.args.count c.in_err-type_.ensures)

pub returns-then-not-is_collection : goal.returns-then-not-is_collection
returns-then-not-is_collection t c =
    let other : is_collection c.in_ok-type_.type_ ≡ false = search rules in
    rw (← plain_is (view c.args.value.now) c.in_ok-type_.type_ c.args.count c.in_ok-type_.ensures other) c.plain.ensures

pub returns-in_err-items : goal.returns-in_err-items
returns-in_err-items t c =
    let p = err_from_is_err_and c.from_residual-in_err-items.result c.from_residual-in_err-items.ensures.1 in
    let one : is_collection c.in_ok-type_.type_ ≡ true = search rules in
    rw (p.1, p.2) (no_array c.in_err-items.field-0.0 c.args.parts.now (view c.args.value.now) c.in_ok-type_.type_ c.args.count c.in_ok-type_.ensures one c.in_err-items.ensures)

pub loop-item-init : goal.loop-item-init
loop-item-init t c =
    let one : is_collection c.in_ok-type_.type_ ≡ true = search rules in
    starts c.args.parts.now (view c.args.value.now) c.in_ok-type_.type_ (items_view c.in_ok-items.items.now) c.args.count c.in_ok-type_.ensures one c.in_ok-items.ensures

pub geometry-requires : goal.geometry-requires
geometry-requires t c =
    let less : depth (view c.item-item.result) < depth (view c.args.value.now) = shallower (codes "geometries") (view c.args.value.now) c.in_ok-items.items.now c.loop-item.item-index c.item-item.result c.in_ok-items.ensures c.loop-item-test.true c.item-item.is in
    (search (rules, less, c.decreases), tt)

pub returns-in_err-count : goal.returns-in_err-count
returns-in_err-count t c =
    let p = err_from_is_err_and c.from_residual-in_err-count.result c.from_residual-in_err-count.ensures.1 in
    rw (p.1, p.2) (ends_joined geometry c.in_err-count.field-0.0 c.loop-item.parts c.in_ok-items.items.now c.loop-item.item-index c.loop-item.count c.item-item.result (behind c.args.parts.now (geometry (view c.args.value.now) c.args.count)) c.loop-item-test.true c.item-item.is c.in_err-count.ensures c.loop-item.invariant)

pub loop-item-preserved : goal.loop-item-preserved
loop-item-preserved t c =
    goes_on_joined geometry c.loop-item.parts c.geometry.new.parts c.in_ok-items.items.now c.loop-item.item-index c.loop-item.count c.item-item.result c.in_ok-count.count (behind c.args.parts.now (geometry (view c.args.value.now) c.args.count)) c.loop-item-test.true c.item-item.is c.in_ok-count.ensures c.loop-item.invariant

pub returns : goal.returns
returns t c = is_done_joined geometry c.loop-item.parts c.in_ok-items.items.now c.loop-item.item-index c.loop-item.count (behind c.args.parts.now (geometry (view c.args.value.now) c.args.count)) c.loop-item-test.false c.loop-item.invariant
