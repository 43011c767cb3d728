use Rattle.std.proofs.Common.{◌≡◌, true, false, sym, ◌∙◌}
use Rattle.std.specs.List.{list_any}
use Rattle.world_data.specs.Filters.{same_value}
use Rattle.object_match.proofs.Places.{any_holds, any_goes}
use Rattle.object_match.proofs.fields.is_among.Goals as goal

pub returns-then-is_same : goal.returns-then-is_same
returns-then-is_same c =
    let values = c.args.values.now in
    let value = c.args.value.now in
    let here : same_value value c.at.result.now ≡ true = sym c.is_same.ensures ∙ c.if-is_same.true in
    any_holds (same_value value) values c.loop-i.i c.at.result.now c.at.ensures (list_any (same_value value) values) here c.loop-i.invariant

pub loop-i-preserved : goal.loop-i-preserved
loop-i-preserved c =
    let values = c.args.values.now in
    let value = c.args.value.now in
    let fails : same_value value c.at.result.now ≡ false = sym c.is_same.ensures ∙ c.if-is_same.false in
    any_goes (same_value value) values c.loop-i.i c.at.result.now c.at.ensures (list_any (same_value value) values) fails c.loop-i.invariant
