use Rattle.std.proofs.Common.{List, [], ◌∷◌, ◌++◌, ap, ◌∙◌, subst}
use Rattle.std.specs.Prelude.{Option}
use Rattle.byte_text.specs.Names.{Bytes}
use Rattle.resp_frames.specs.RequestReader.{IsFed, IsNotFed}
use Rattle.byte_text.specs.declared.faults.RespFault.{RespFault}
use Rattle.resp_frames.specs.declared.faults.FeedFault.{FeedFault}
use Rattle.world_model.specs.declared.events.Asked.TheVariants.{Broken}
use Rattle.session_run.proofs.Feeding.{reads_next, reads_fault}
use Rattle.session_run.proofs.filling.feed_next.Goals as goal

pub returns-then-push_request-clause-step : goal.returns-then-push_request-clause-step
returns-then-push_request-clause-step c =
    let fed = subst (λ (o : Option (List Bytes)). IsFed c.args.reader.now c.feed.new.reader c.args.bytes.now c.in-Ok.fed.taken o) c.in-Some.is c.in-Ok.ensures.fed in
    reads_next c.args.number c.args.reader.now c.feed.new.reader c.args.bytes.now c.in-Ok.fed.taken c.in-Some.request c.args.asked.now c.push_request.new.asked fed (c.push_request.ensures c.if-push_request.true)

pub returns-then-push-clause-step : goal.returns-then-push-clause-step
returns-then-push-clause-step c =
    reads_fault c.args.number c.args.reader.now c.feed.new.reader c.args.bytes.now c.in-Err-Broken.fault c.args.asked.now c.push.new.asked (subst (λ (f : FeedFault). IsNotFed c.args.reader.now c.feed.new.reader c.args.bytes.now f) c.in-Err-Broken.field-0-is c.in-Err-Broken.ensures.fault) (c.push.ensures c.if-push.true ∙ ap (λ (f : RespFault). c.args.asked.now ++ Broken f ∷ []) c.in-Err-Broken.fault-is)
