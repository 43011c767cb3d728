use Rattle.std.proofs.Common.{ap, sym, ◌∙◌, arith}
use Rattle.std.specs.Prelude.{sum_by}
use Rattle.record_writer.specs.Lengths.{len_of_channel}
use Rattle.record_writer.specs.ChannelSums.{changed_weight, new_weight}
use Rattle.world_store.proofs.stored_channels.exchange.Goals as goal

pub overflow_sub-result : goal.overflow_sub-result
overflow_sub-result c =
    let sum = changed_weight c.args.channel c.args.hub.now.channels c.in-Some.old c.len-count.ensures.by_name (sym c.put.ensures.replaced ∙ c.in-Some.is) in
    omega (arith, sum, c.channel_len.ensures.value, c.requires.weighed)

pub returns-in-Some-clause-weighed : goal.returns-in-Some-clause-weighed
returns-in-Some-clause-weighed c =
    let sum = changed_weight c.args.channel c.args.hub.now.channels c.in-Some.old c.len-count.ensures.by_name (sym c.put.ensures.replaced ∙ c.in-Some.is) in
    let same = ap (sum_by len_of_channel) c.put.ensures.channels in
    omega (arith, sum, same, c.channel_len.ensures.value, c.requires.weighed)

pub returns-in-None-clause-weighed : goal.returns-in-None-clause-weighed
returns-in-None-clause-weighed c =
    let sum = new_weight c.args.channel c.args.hub.now.channels (sym c.put.ensures.replaced ∙ c.in-None.is) in
    let same = ap (sum_by len_of_channel) c.put.ensures.channels in
    omega (arith, sum, same, c.requires.weighed)
