use Rattle.std.proofs.Common.{not, arith}
use Rattle.world_data.specs.Filters.{value_of, same_value}
use Rattle.object_plans.proofs.Changing.{next_given, one_at_most}
use Rattle.object_plans.proofs.changes.changed_given.Goals as goal

pub loop-i-preserved : goal.loop-i-preserved
loop-i-preserved c =
    let name = c.name.result.now in
    let value = c.value.result.now in
    record {
      counted = next_given c.args.fields.now c.args.given.now c.loop-i.i name value c.loop-i.count c.difference-count.result (omega (arith, c.loop-i-test.true, c.len-i-end.ensures.count)) c.name.ensures c.value.ensures c.loop-i.invariant.counted c.difference-count.ensures;
      few = omega (arith, c.loop-i.invariant.few, c.difference-count.ensures, one_at_most (not (same_value (value_of c.args.fields.now name) value)));
    }
