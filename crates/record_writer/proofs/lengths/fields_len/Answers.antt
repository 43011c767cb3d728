use Rattle.std.proofs.Common.{arith}
use Rattle.record_writer.specs.LengthLaws.{field_step}
use Rattle.record_writer.proofs.lengths.fields_len.Goals as goal

pub loop-i-preserved : goal.loop-i-preserved
loop-i-preserved c = record {
  counted = field_step c.args.fields.now c.loop-i.i c.loop-i.sum c.field_len-sum.result c.name.result.now c.value.result.now (omega (arith, c.loop-i-test.true, c.len-i-end.ensures.count)) c.name.ensures c.value.ensures c.loop-i.invariant.counted c.field_len-sum.ensures.value;
  short = omega (arith, c.loop-i.invariant.short, c.field_len-sum.ensures.short);
}
