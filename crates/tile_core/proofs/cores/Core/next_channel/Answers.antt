use Rattle.channel_plans.specs.Planned.{IsRecordedChannel}
use Rattle.tile_core.proofs.Nexts.{found_if}
use Rattle.tile_core.proofs.cores.Core.next_channel.Goals as goal

pub returns-clause-recorded : goal.returns-clause-recorded
returns-clause-recorded c =
    let k = c.self.inside in
    found_if IsRecordedChannel _ k.store.hub.channels c.next_channel.result c.next_channel.ensures c.self.invariant.kept.recorded
