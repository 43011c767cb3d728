use Rattle.std.proofs.Common.{sym, subst}
use Rattle.std.specs.Prelude.{Option, None}
use Rattle.world_data.specs.declared.channels.Raised.{Raised}
use Rattle.fence_table.specs.Pairs.{items}
use Rattle.session_table.specs.Fans.{AreBrought}
use Rattle.session_table.specs.FanLaws.{brought_none}
use Rattle.message_fanout.specs.Raises.{sent, payloads_of}
use Rattle.message_fanout.proofs.raises.stage_item.Goals as goal

pub returns-in-None-clause-staged : goal.returns-in-None-clause-staged
returns-in-None-clause-staged c =
    let ch = c.args.channel.now in
    let a = c.args.sessions.now.items in
    subst (λ (r : Option Raised). AreBrought (sent ch (payloads_of ch c.args.object.now (items r None))) a a) (sym c.in-None.is) (brought_none a)
