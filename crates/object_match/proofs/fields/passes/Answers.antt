use Rattle.std.proofs.Common.{◌≡◌, true, false, sym, ◌∙◌}
use Rattle.world_data.specs.Filters.{passes, passes_one}
use Rattle.object_match.proofs.Places.{all_fails, all_goes}
use Rattle.object_match.proofs.fields.passes.Goals as goal

pub returns-then-not-passes_one : goal.returns-then-not-passes_one
returns-then-not-passes_one c =
    let tests = c.args.tests.now in
    let fields = c.args.fields.now in
    let fails : passes_one fields c.at.result.now ≡ false = sym c.passes_one.ensures ∙ c.if-not-passes_one.true in
    all_fails (passes_one fields) tests c.loop-i.i c.at.result.now c.at.ensures (passes tests fields) fails c.loop-i.invariant

pub loop-i-preserved : goal.loop-i-preserved
loop-i-preserved c =
    let tests = c.args.tests.now in
    let fields = c.args.fields.now in
    let holds : passes_one fields c.at.result.now ≡ true = sym c.passes_one.ensures ∙ c.if-not-passes_one.false in
    all_goes (passes_one fields) tests c.loop-i.i c.at.result.now c.at.ensures (passes tests fields) holds c.loop-i.invariant
