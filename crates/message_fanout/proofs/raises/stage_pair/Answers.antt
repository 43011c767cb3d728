use Rattle.std.proofs.Common.{◌≡◌, ◌∙◌, sym, subst, List, true}
use Rattle.std.specs.Prelude.{None, Some}
use Rattle.fence_model.specs.Messages.{Message}
use Rattle.fence_table.specs.Pairs.{items}
use Rattle.message_text.specs.Payloads.{has_objects}
use Rattle.session_table.specs.Fans.{AreBrought}
use Rattle.session_table.specs.FanLaws.{brought_both}
use Rattle.message_fanout.specs.Raises.{sent, payloads_of}
use Rattle.message_fanout.proofs.Going.{neither}
use Rattle.message_fanout.proofs.Payloads.{first_holds, second_holds, pair_sent}
use Rattle.message_fanout.proofs.raises.stage_pair.Goals as goal

pub stage_item-requires : goal.stage_item-requires
stage_item-requires c = first_holds (λ r. has_objects r (Some c.args.object.now) None ≡ true) c.args.pair.first c.args.pair.second c.requires

pub stage_item-requires-2 : goal.stage_item-requires-2
stage_item-requires-2 c = second_holds (λ r. has_objects r (Some c.args.object.now) None ≡ true) c.args.pair.first c.args.pair.second c.requires

pub returns-clause-staged : goal.returns-clause-staged
returns-clause-staged c =
    let ch = c.args.channel.now in
    let o = c.args.object.now in
    let first = c.args.pair.first in
    let second = c.args.pair.second in
    let a = c.args.sessions.now.items in
    let d = c.stage_item-2.new.sessions.items in
    subst (λ (ms : List Message). AreBrought ms a d) (sym (pair_sent ch o first second))
    (brought_both (sent ch (payloads_of ch o (items first None))) (sent ch (payloads_of ch o (items second None))) a c.stage_item.new.sessions.items d c.in_ok-first.ensures.staged c.in_ok-second.ensures.staged)

pub returns-clause-quiet : goal.returns-clause-quiet
returns-clause-quiet c = λ is. let none = neither c.in_ok-first.first c.in_ok-second.second (sym c.either.ensures ∙ is) in c.in_ok-second.ensures.quiet none.1 ∙ c.in_ok-first.ensures.quiet none.0
