use Rattle.std.proofs.Common.{◌≡◌, ◌∙◌, sym, ap, subst, [], ◌∷◌, true}
use Rattle.std.specs.Prelude.{Some}
use Rattle.std.proofs.lemmas.Result.{on_ok_weaker}
use Rattle.byte_text.specs.Names.{Bytes}
use Rattle.fence_model.specs.Messages.{roam_payload}
use Rattle.message_text.specs.Payloads.{has_objects, payload_of}
use Rattle.world_data.specs.declared.objects.Object.{Object}
use Rattle.world_data.specs.declared.channels.Detect.{Detect}
use Rattle.world_data.specs.declared.channels.Raised.TheVariants as raised
use Rattle.session_table.specs.Fans.{AreBrought}
use Rattle.message_fanout.specs.Raises.{sent, detect_of}
use Rattle.message_fanout.proofs.Payloads.{pair_payload, speaks_of_both}
use Rattle.message_fanout.proofs.raises.stage_near.Goals as goal

pub stage_raised-requires : goal.stage_raised-requires
stage_raised-requires c =
    subst (λ (d : Detect). has_objects (raised.Set d) (Some c.args.new.now) (Some c.in-Some.other.now) ≡ true) (sym c.roamed.ensures) (speaks_of_both c.args.near c.args.new.now c.in-Some.other.now)

pub returns-clause-staged : goal.returns-clause-staged
returns-clause-staged c =
    let ch = c.args.channel.now in
    let new = c.args.new.now in
    let other = c.in-Some.other.now in
    let a = c.args.sessions.now.items in
    let b = c.stage_raised.new.sessions.items in
    let told = ap (λ (d : Detect). payload_of ch (raised.Set d) (Some new) (Some other)) c.roamed.ensures ∙ pair_payload ch c.args.near new other in
    on_ok_weaker c.stage_raised.result
    (λ staged o found.
    let both : Some other ≡ Some o = sym c.in-Some.ensures.some ∙ found in
    let is : other ≡ o = cc in
    subst (λ (p : Object). AreBrought (sent ch (roam_payload ch.name new (p, detect_of c.args.near) ∷ [])) a b) is (subst (λ (t : Bytes). AreBrought (sent ch (t ∷ [])) a b) told staged))
    c.stage_raised.ensures.staged
