use Rattle.std.proofs.Common.{◌≡◌, ◌≤◌, ◌<◌, ◌-◌, length, take, flat_map, subst, refl, arith}
use Rattle.std.specs.Prelude.{IfSome}
use Rattle.byte_text.specs.Lines.{bulk_text}
use Rattle.resp_frames.specs.ShortRequests.{AreShortWords}
use Rattle.resp_frames.proofs.ShortLaws.{request_is}
use Rattle.resp_frames.proofs.short_requests.short_request.Goals as goal

pub returns-in-Some-2 : goal.returns-in-Some-2
returns-in-Some-2 c =
    let bytes = c.args.bytes.now in
    let behind = c.in-Some.behind.now in
    let count = c.in-Some.count in
    let ne = c.if-count-eq0.false in
    let some : 0 < count = omega (arith, ne) in
    let w = subst (λ r. IfSome r (λ f. AreShortWords f.0 count × (f.1 ≤ length behind) × (take f.1 behind ≡ flat_map bulk_text f.0))) c.in-Some-2.is c.in_ok-request.ensures in
    request_is bytes behind c.in-Some-2.request count (length bytes - length behind) c.in-Some-2.taken c.in-Some.ensures.line refl some c.in-Some.ensures.short w
