use Rattle.std.proofs.Common.{◌≡◌, ◌++◌, subst, codes}
use Rattle.fence_model.specs.Messages.{detect_name}
use Rattle.byte_text.specs.Names.{Bytes}
use Rattle.message_text.proofs.Pieces.{three}
use Rattle.message_text.proofs.parts.push_detect.Goals as goal

pub returns-clause-ok : goal.returns-clause-ok
returns-clause-ok c =
    let named : c.push-2.new.self ≡ c.push.new.self ++ detect_name c.args.detect = subst (λ (t : Bytes). c.push-2.new.self ≡ c.push.new.self ++ t) c.detect_name.ensures c.in_ok-push-2.ensures.ok in
    three c.push-3.result c.args.into.now (codes "{\"command\":\"set\",\"detect\":\"") (detect_name c.args.detect) (codes "\",\"hook\":") c.push.new.self c.push-2.new.self c.push-3.new.self c.in_ok-push.ensures.ok named c.push-3.ensures.ok
