use Rattle.std.proofs.Common.{arith}
use Rattle.record_writer.specs.LengthLaws.{put_count}
use Rattle.record_writer.proofs.writing.put_count.Goals as goal

pub returns : goal.returns
returns c = omega (arith, put_count c.args.object.now, c.len.ensures.count, c.deadline_count.ensures.value)
