use Rattle.std.proofs.Common.{ap, sym, ◌∙◌, arith}
use Rattle.std.specs.Prelude.{sum_by}
use Rattle.world_data.specs.Worlds.{is_named}
use Rattle.record_writer.specs.Lengths.{len_of_channel}
use Rattle.record_writer.specs.ChannelSums.{taken_weight}
use Rattle.world_store.specs.ListLaws.{none_found}
use Rattle.world_store.proofs.stored_channels.take_one.Goals as goal

pub overflow_sub-result : goal.overflow_sub-result
overflow_sub-result c =
    let sum = taken_weight c.args.name.now c.args.hub.now.channels c.in-Some.taken c.len-count.ensures.by_name (sym c.take_out.ensures.taken ∙ c.in-Some.is) in
    omega (arith, sum, c.channel_len.ensures.value, c.requires)

pub returns-in-Some-clause-weighed : goal.returns-in-Some-clause-weighed
returns-in-Some-clause-weighed c =
    let sum = taken_weight c.args.name.now c.args.hub.now.channels c.in-Some.taken c.len-count.ensures.by_name (sym c.take_out.ensures.taken ∙ c.in-Some.is) in
    let same = ap (sum_by len_of_channel) c.take_out.ensures.channels in
    omega (arith, sum, same, c.channel_len.ensures.value, c.requires)

pub returns-in-None-clause-weighed : goal.returns-in-None-clause-weighed
returns-in-None-clause-weighed c =
    let none = ap (sum_by len_of_channel) (none_found (is_named c.args.name.now) c.args.hub.now.channels (sym c.take_out.ensures.taken ∙ c.in-None.is)) in
    let same = ap (sum_by len_of_channel) c.take_out.ensures.channels in
    omega (arith, none, same, c.requires)
