use Rattle.std.proofs.Common.{ap, length, arith}
use Rattle.channel_hub.proofs.Left.{left_ascends}
use Rattle.channel_hub.proofs.Places.{left_count}
use Rattle.channel_hub.proofs.hubs.Hub.len.Goals as goal

pub overflow_sub-result : goal.overflow_sub-result
overflow_sub-result c =
    let many = left_count c.self.inside.out c.self.inside.all.channels in
    let gone = ap length c.self.invariant.listed in
    omega (arith, many, gone, c.len.ensures.count, c.len-2.ensures.count)

pub returns-clause-count : goal.returns-clause-count
returns-clause-count c =
    let many = left_count c.self.inside.out c.self.inside.all.channels in
    let gone = ap length c.self.invariant.listed in
    rw (← c.self.view_is) (omega (arith, many, gone, c.len.ensures.count, c.len-2.ensures.count))

pub returns-clause-by_name : goal.returns-clause-by_name
returns-clause-by_name c = rw (← c.self.view_is) (left_ascends c.self.inside.out c.self.inside.all.channels c.len.ensures.by_name)
