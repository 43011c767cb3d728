use Rattle.std.proofs.Common.{ap, ◌∙◌, [], ◌∷◌, List, arith}
use Rattle.world_data.specs.declared.values.Value.{Value}
use Rattle.world_data.specs.Filters.{Field, with_values}
use Rattle.object_plans.proofs.FieldOrder.{none_given, given_at}
use Rattle.object_plans.proofs.fields.with_given.Goals as goal

pub loop-i-init : goal.loop-i-init
loop-i-init c = none_given c.args.fields c.len-count.ensures.fields

pub loop-i-preserved : goal.loop-i-preserved
loop-i-preserved c =
    let name = c.name.result.now in
    let copied = c.in_ok-copy-2.field-0 in
    c.in_ok-set.ensures.ok
    ∙ ap (λ n. with_values c.loop-i.fields ((n, copied) ∷ [])) c.in_ok-copy.ensures
    ∙ ap (λ (v : Value). with_values c.loop-i.fields ((name, v) ∷ [])) c.in_ok-copy-2.ensures
    ∙ ap (λ (fs : List Field). with_values fs ((name, c.value.result.now) ∷ [])) c.loop-i.invariant
    ∙ given_at c.args.fields c.args.given.now c.loop-i.i name c.value.result.now c.len-count.ensures.fields (omega (arith, c.loop-i-test.true, c.len-i-end.ensures.count)) c.name.ensures c.value.ensures
