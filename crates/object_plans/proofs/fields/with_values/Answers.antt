use Rattle.std.proofs.Common.{◌≡◌, ap, ◌∙◌, [], ◌∷◌, List}
use Rattle.world_data.specs.Filters.{Field, with_values, zero_value}
use Rattle.object_plans.proofs.FieldOrder.{cleared_at}
use Rattle.object_plans.proofs.fields.with_values.Goals as goal

pub loop-i-preserved : goal.loop-i-preserved
loop-i-preserved c =
    let set : c.set.new.self ≡ with_values c.loop-i.fields ((c.in_ok-copy.field-0, zero_value) ∷ []) = c.in_ok-set.ensures.ok in
    set ∙ ap (λ n. with_values c.loop-i.fields ((n, zero_value) ∷ [])) c.in_ok-copy.ensures ∙ ap (λ (fs : List Field). with_values fs ((c.at-name.result.now, zero_value) ∷ [])) c.loop-i.invariant
    ∙ cleared_at c.args.fields c.args.given.now c.args.cleared.now c.loop-i.i c.at-name.result.now c.len-count.ensures.fields c.at-name.ensures
