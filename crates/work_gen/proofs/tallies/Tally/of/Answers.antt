use Rattle.work_gen.proofs.Sums.{messages_on, bytes_on}
use Rattle.work_gen.proofs.tallies.Tally.of.Goals as goal

pub loop-i-preserved : goal.loop-i-preserved
loop-i-preserved c = record {
  heard = messages_on c.args.frames.now.list c.loop-i.i c.at.result.now c.loop-i.tally.messages c.of_one.result.messages c.plus-tally.result.messages c.at.ensures c.of_one.ensures.messages c.plus-tally.ensures.messages c.loop-i.invariant.heard;
  given = bytes_on c.args.frames.now.list c.loop-i.i c.at.result.now c.loop-i.tally.bytes c.of_one.result.bytes c.plus-tally.result.bytes c.at.ensures c.of_one.ensures.bytes c.plus-tally.ensures.bytes c.loop-i.invariant.given;
}
