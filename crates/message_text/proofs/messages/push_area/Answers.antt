use Rattle.std.proofs.Common.{◌≡◌, ◌++◌, OnOk, codes, sym, subst}
use Rattle.byte_text.specs.Names.{Bytes}
use Rattle.message_text.specs.Parts.{set_part, fields_part}
use Rattle.message_text.proofs.Pieces.{three}
use Rattle.message_text.proofs.Wholes.{set_whole}
use Rattle.message_text.proofs.messages.push_area.Goals as goal

pub returns-clause-ok : goal.returns-clause-ok
returns-clause-ok c = subst (λ (t : Bytes). OnOk c.push.result (c.push.new.self ≡ c.args.into.now ++ t)) (sym (set_whole c.args.hook.now c.args.detect c.args.object.now))
    (three c.push.result c.args.into.now (set_part c.args.hook.now c.args.detect c.args.object.now) (fields_part c.args.object.now.fields) (codes "}") c.push_set.new.into c.push_fields.new.into c.push.new.self c.in_ok-push_set.ensures.ok c.in_ok-push_fields.ensures.ok c.push.ensures.ok)
