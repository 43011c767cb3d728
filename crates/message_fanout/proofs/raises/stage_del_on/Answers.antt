use Rattle.std.proofs.Common.{◌≡◌, ◌∙◌, sym, ap, subst, List, true}
use Rattle.std.specs.Prelude.{None, Some}
use Rattle.std.specs.List.{AllByRecursion}
use Rattle.byte_text.specs.Names.{Bytes}
use Rattle.world_data.specs.declared.channels.Raised.{Raised}
use Rattle.message_text.specs.Payloads.{has_objects}
use Rattle.session_table.specs.Fans.{AreBrought}
use Rattle.message_fanout.specs.Raises.{sent, payloads_of}
use Rattle.message_fanout.proofs.Payloads.{del_payloads_are, del_speaks}
use Rattle.message_fanout.proofs.raises.stage_del_on.Goals as goal

pub stage_pair-requires : goal.stage_pair-requires
stage_pair-requires c =
    subst (λ (rs : List Raised). AllByRecursion (λ r. has_objects r (Some c.args.old.now) None ≡ true) rs) (sym c.raised.ensures) (del_speaks c.args.channel.now (Some c.args.old.now) c.args.old.now)

pub returns-clause-staged : goal.returns-clause-staged
returns-clause-staged c =
    let ch = c.args.channel.now in
    let old = c.args.old.now in
    λ w found. subst (λ (ps : List Bytes). AreBrought (sent ch ps) c.args.sessions.now.items c.stage_pair.new.sessions.items)
    (ap (payloads_of ch old) c.raised.ensures ∙ sym (del_payloads_are w old ch found)) c.in_ok-stage_pair.ensures.staged
