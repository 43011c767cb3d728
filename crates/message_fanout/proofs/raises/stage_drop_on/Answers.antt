use Rattle.std.proofs.Common.{sym, subst, [], ◌∷◌}
use Rattle.std.specs.Prelude.{Bool, if◌then◌else◌}
use Rattle.fence_model.specs.Messages.{drop_payload}
use Rattle.session_table.specs.Fans.{AreBrought}
use Rattle.session_table.specs.FanLaws.{brought_none}
use Rattle.message_fanout.specs.Raises.{sent}
use Rattle.message_fanout.proofs.raises.stage_drop_on.Goals as goal

pub returns-then-not-channel-clause-staged : goal.returns-then-not-channel-clause-staged
returns-then-not-channel-clause-staged c =
    let ch = c.args.channel.now in
    let a = c.args.sessions.now.items in
    λ w. subst (λ (b : Bool). AreBrought (sent ch (if b then drop_payload ch.name ch.fence.key ∷ [] else [])) a a) (sym c.if-not-channel.true) (brought_none a)
