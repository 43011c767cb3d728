use Rattle.std.proofs.Common.{sym, ap, ◌∙◌}
use Rattle.std.specs.Prelude.{Option}
use Rattle.byte_text.specs.Names.{Bytes}
use Rattle.live_fence.specs.Parts.{payload_or}
use Rattle.live_fence.proofs.Fronts.{shown_last, payload_shorter}
use Rattle.live_fence.proofs.parts.live_part.Goals as goal

pub overflow_sub-result : goal.overflow_sub-result
overflow_sub-result c = payload_shorter c.args.session c.args.frame.now c.in-Some.payload.now c.in-Some.ensures

pub returns-in-Some-clause-shown : goal.returns-in-Some-clause-shown
returns-in-Some-clause-shown c = shown_last c.args.session c.args.frame.now c.in-Some.payload.now c.in-Some.ensures
    ∙ sym (ap (λ (o : Option Bytes). payload_or c.args.frame.now o) c.in-Some.ensures)
