use Rattle.std.proofs.Common.{◌≡◌, ◌∙◌, sym, ap, subst, List, true}
use Rattle.std.specs.Prelude.{None, Some, option_map}
use Rattle.std.specs.List.{AllByRecursion}
use Rattle.std.proofs.lemmas.Result.{on_ok_weaker}
use Rattle.byte_text.specs.Names.{Bytes}
use Rattle.world_data.specs.declared.channels.Raised.{Raised}
use Rattle.message_text.specs.Payloads.{has_objects}
use Rattle.session_table.specs.Fans.{AreBrought}
use Rattle.message_fanout.specs.Raises.{sent, payloads_of}
use Rattle.message_fanout.proofs.Payloads.{put_payloads_are, put_speaks}
use Rattle.message_fanout.proofs.raises.stage_area.Goals as goal

pub stage_pair-requires : goal.stage_pair-requires
stage_pair-requires c =
    subst (λ (rs : List Raised). AllByRecursion (λ r. has_objects r (Some c.args.new.now) None ≡ true) rs) (sym c.raised.ensures) (put_speaks c.args.channel.now (option_map (λ o. o.now) c.args.old) c.args.new.now)

pub returns-clause-staged : goal.returns-clause-staged
returns-clause-staged c =
    on_ok_weaker c.stage_pair.result
    (subst (λ (ps : List Bytes). AreBrought (sent c.args.channel.now ps) c.args.sessions.now.items c.stage_pair.new.sessions.items)
    (ap (payloads_of c.args.channel.now c.args.new.now) c.raised.ensures ∙ put_payloads_are c.args.channel.now (option_map (λ o. o.now) c.args.old) c.args.new.now))
    c.stage_pair.ensures.staged
