use Rattle.std.proofs.Common.{◌≡◌, take, subst, List, arith}
use Rattle.std.proofs.lemmas.List.{take_all}
use Rattle.byte_text.specs.Globs.{glob_meets}
use Rattle.world_data.specs.declared.channels.Channel.{Channel}
use Rattle.channel_plans.specs.Dropping.{IsDroppedOf}
use Rattle.channel_plans.proofs.ChannelSums.{next_dropped, next_weighs, some_weigh}
use Rattle.channel_plans.proofs.channels.drop_each.Goals as goal

pub drop_one-requires-clause-small : goal.drop_one-requires-clause-small
drop_one-requires-clause-small c = omega (arith, c.loop-i.invariant.small, c.requires.light)

pub drop_one-requires-clause-weighed : goal.drop_one-requires-clause-weighed
drop_one-requires-clause-weighed c =
    let front = take c.loop-i.i c.args.hub.now.channels in
    let part = some_weigh (λ d. glob_meets c.args.pattern.now d.name) front in
    let next = next_weighs c.args.hub.now.channels c.loop-i.i c.at.result.now c.at.ensures in
    omega (arith, part, next, c.loop-i.invariant.weight_is, c.requires.weighed)

pub loop-i-preserved : goal.loop-i-preserved
loop-i-preserved c = next_dropped c.args.pattern.now c.args.hub.now.channels c.loop-i.i c.at.result.now c.args.channels c.loop-i.dropped c.drop_one.new.dropped c.at.ensures c.loop-i.invariant c.in_ok-drop_one.ensures

pub returns : goal.returns
returns c =
    let cs = c.args.hub.now.channels in
    let all : take c.loop-i.i cs ≡ cs = take_all c.loop-i.i cs (omega (arith, c.loop-i-test.false, c.len-i-end.ensures.count)) in
    subst (λ (ds : List Channel). IsDroppedOf c.args.pattern.now ds c.args.channels c.loop-i.dropped) all c.loop-i.invariant
