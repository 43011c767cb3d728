use Rattle.std.proofs.Common.{arith}
use Rattle.record_writer.specs.ChannelSums.{new_weight, changed_weight}
use Rattle.channel_plans.proofs.setchans.weight_after.Goals as goal

pub overflow_sub-result : goal.overflow_sub-result
overflow_sub-result c =
    let sum = changed_weight c.args.channel.now c.args.hub.now.channels c.in-Some.old.now c.requires.by_name c.in-Some.ensures.some in
    omega (arith, sum, c.channel_len.ensures.value, c.requires.weighed, c.requires.length)

pub returns-in-Some-clause-value : goal.returns-in-Some-clause-value
returns-in-Some-clause-value c =
    let sum = changed_weight c.args.channel.now c.args.hub.now.channels c.in-Some.old.now c.requires.by_name c.in-Some.ensures.some in
    omega (arith, sum, c.channel_len.ensures.value, c.requires.weighed, c.requires.length)

pub returns-in-None-clause-value : goal.returns-in-None-clause-value
returns-in-None-clause-value c =
    let sum = new_weight c.args.channel.now c.args.hub.now.channels c.in-None.ensures.none in
    omega (arith, sum, c.requires.weighed, c.requires.length)
