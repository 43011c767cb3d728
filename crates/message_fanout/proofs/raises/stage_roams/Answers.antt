use Rattle.std.proofs.Common.{◌∙◌, sym, ap, subst, ◌++◌, [], map}
use Rattle.std.specs.Prelude.{Bool, option_map, if◌then◌else◌}
use Rattle.std.proofs.lemmas.Result.{on_ok_weaker}
use Rattle.fence_model.specs.Fences.{near_pairs}
use Rattle.fence_model.specs.Messages.{roam_payload}
use Rattle.roam_fence.specs.Pairs.{shown}
use Rattle.session_table.specs.Fans.{AreBrought}
use Rattle.session_table.specs.FanLaws.{brought_none}
use Rattle.message_fanout.specs.Raises.{sent}
use Rattle.message_fanout.proofs.Payloads.{near_found}
use Rattle.message_fanout.proofs.raises.stage_roams.Goals as goal

pub returns-then-not-channel-clause-staged : goal.returns-then-not-channel-clause-staged
returns-then-not-channel-clause-staged g c =
    let ch = c.args.channel.now in
    let pairs = near_pairs ch.fence (option_map (λ o. o.now) c.args.old) c.args.new.now c.args.targets.now.objects in
    subst (λ (b : Bool). AreBrought (sent ch (if b then map (roam_payload ch.name c.args.new.now) pairs else [])) c.args.sessions.now.items c.args.sessions.now.items) (sym c.if-not-channel.true)
    (brought_none c.args.sessions.now.items)

pub returns-clause-staged : goal.returns-clause-staged
returns-clause-staged g c =
    let ch = c.args.channel.now in
    let old = option_map (λ o. o.now) c.args.old in
    let pairs = near_pairs ch.fence old c.args.new.now c.args.targets.now.objects in
    on_ok_weaker c.stage_pairs.result
    (λ staged. subst (λ (b : Bool). AreBrought (sent ch (if b then map (roam_payload ch.name c.args.new.now) pairs else [])) c.args.sessions.now.items c.stage_pairs.new.sessions.items) (sym c.if-not-channel.false)
    (staged pairs (near_found ch.fence old c.args.new.now c.args.targets.now.objects c.len-by_id.ensures.by_id) (c.in_ok-near_pairs.ensures ∙ ap (λ before. before ++ map shown pairs) c.new-pairs.ensures)))
    c.stage_pairs.ensures.staged
