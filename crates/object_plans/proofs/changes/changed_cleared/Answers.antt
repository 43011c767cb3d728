use Rattle.std.proofs.Common.{not, arith}
use Rattle.world_data.specs.Filters.{value_of, same_value, zero_value}
use Rattle.object_plans.proofs.Changing.{next_cleared, one_at_most}
use Rattle.object_plans.proofs.changes.changed_cleared.Goals as goal

pub loop-i-preserved : goal.loop-i-preserved
loop-i-preserved c =
    let name = c.at.result.now in
    record {
      counted = next_cleared c.args.fields.now c.args.cleared.now c.loop-i.i name c.loop-i.count c.difference-count.result c.at.ensures c.loop-i.invariant.counted c.difference-count.ensures;
      few = omega (arith, c.loop-i.invariant.few, c.difference-count.ensures, one_at_most (not (same_value (value_of c.args.fields.now name) zero_value)));
    }
