use Rattle.std.proofs.Common.{◌≡◌, ◌≤◌, length, take, true, subst, arith}
use Rattle.std.specs.Prelude.{is_some, IfSome}
use Rattle.std.proofs.lemmas.Grind.{common_steps}
use Rattle.byte_text.specs.Requests.{IsRequest, request_text}
use Rattle.resp_frames.proofs.ReaderLaws.{fed_short}
use Rattle.resp_frames.proofs.request_reader.Requests.feed.Goals as goal

pub returns-in-Ok-Some-clause-fed : goal.returns-in-Ok-Some-clause-fed
returns-in-Ok-Some-clause-fed c =
    let piece = c.args.piece.now in
    let some : is_some c.self.inside.place ≡ true = grind (arith, common_steps) in
    let empty : length c.self.inside.held.items ≡ 0 = grind (arith, common_steps) in
    let w = subst (λ r. IfSome r (λ f. IsRequest f.0 × (f.1 ≤ length piece) × (take f.1 piece ≡ request_text f.0))) c.in-Ok-Some.field-0-is c.in-Ok-Some.ensures in
    fed_short c.requests_are_read.ensures.text c.self.inside.place c.self.inside.held.items piece c.args.self.now c.in-Ok-Some.taken c.in-Ok-Some.request some empty c.self.view_is w
