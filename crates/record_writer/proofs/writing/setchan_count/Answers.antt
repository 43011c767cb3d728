use Rattle.std.proofs.Common.{arith}
use Rattle.record_writer.specs.LengthLaws.{setchan_count}
use Rattle.record_writer.proofs.writing.setchan_count.Goals as goal

pub returns : goal.returns
returns c = omega (arith, setchan_count c.args.channel.now, c.words.ensures.count, c.deadline_count.ensures.value)
