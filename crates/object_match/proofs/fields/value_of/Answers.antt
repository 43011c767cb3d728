use Rattle.std.proofs.Common.{◌≡◌, ◌<◌, true, false, length, arith, sym, ◌∙◌}
use Rattle.byte_text.specs.Names.{same}
use Rattle.world_data.specs.Filters.{value_of}
use Rattle.object_match.proofs.FoundValues.{found, passed}
use Rattle.object_match.proofs.fields.value_of.Goals as goal

pub returns-then-is_same : goal.returns-then-is_same
returns-then-is_same c =
    let fields = c.args.fields.now in
    let name = c.args.name.now in
    let within : c.loop-i.i < length fields = omega arith in
    let holds : same c.name.result.now name ≡ true = sym c.is_same.ensures ∙ c.if-is_same.true in
    found fields c.loop-i.i c.name.result.now name within c.name.ensures c.value.result.now (value_of fields name) c.value.ensures holds c.loop-i.invariant

pub loop-i-preserved : goal.loop-i-preserved
loop-i-preserved c =
    let fields = c.args.fields.now in
    let name = c.args.name.now in
    let within : c.loop-i.i < length fields = omega arith in
    let fails : same c.name.result.now name ≡ false = sym c.is_same.ensures ∙ c.if-is_same.false in
    passed fields c.loop-i.i c.name.result.now name within c.name.ensures (value_of fields name) fails c.loop-i.invariant
