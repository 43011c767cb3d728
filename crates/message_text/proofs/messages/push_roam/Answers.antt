use Rattle.std.proofs.Common.{◌≡◌, ◌++◌, OnOk, codes, sym, subst}
use Rattle.byte_text.specs.Names.{Bytes}
use Rattle.message_text.specs.Parts.{set_part, fields_part, other_part, roam_head}
use Rattle.message_text.proofs.Pieces.{two, three}
use Rattle.message_text.proofs.Wholes.{roam_whole}
use Rattle.message_text.proofs.messages.push_roam.Goals as goal

pub returns-clause-ok : goal.returns-clause-ok
returns-clause-ok c =
    let headed : c.push.new.self ≡ c.push_fields.new.into ++ roam_head c.args.detect = subst (λ (t : Bytes). c.push.new.self ≡ c.push_fields.new.into ++ t) c.roam_head.ensures c.in_ok-push.ensures.ok in
    let last = three c.push-2.result c.push_fields.new.into (roam_head c.args.detect) (other_part c.args.object.now c.args.other.now) (codes "}") c.push.new.self c.push_other.new.into c.push-2.new.self headed c.in_ok-push_other.ensures.ok c.push-2.ensures.ok in
    subst (λ (t : Bytes). OnOk c.push-2.result (c.push-2.new.self ≡ c.args.into.now ++ t)) (sym (roam_whole c.args.hook.now c.args.object.now c.args.other.now c.args.detect))
    (two c.push-2.result c.args.into.now (set_part c.args.hook.now c.args.detect c.args.object.now) (fields_part c.args.object.now.fields ++ (roam_head c.args.detect ++ (other_part c.args.object.now c.args.other.now ++ codes "}"))) c.push_set.new.into c.push-2.new.self c.in_ok-push_set.ensures.ok
    (two c.push-2.result c.push_set.new.into (fields_part c.args.object.now.fields) (roam_head c.args.detect ++ (other_part c.args.object.now c.args.other.now ++ codes "}")) c.push_fields.new.into c.push-2.new.self c.in_ok-push_fields.ensures.ok last))
