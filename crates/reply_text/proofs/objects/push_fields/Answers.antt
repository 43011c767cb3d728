use Rattle.std.proofs.Common.{◌≡◌, ◌++◌, ◌<◌, ◌*◌, length, refl, arith, ap, ◌∙◌, ℕ}
use Rattle.byte_text.specs.Replies.{bulk}
use Rattle.world_model.specs.Replies.{fields_reply}
use Rattle.reply_text.proofs.FieldParts.{written, begun}
use Rattle.reply_text.proofs.objects.push_fields.Goals as goal

pub loop-i-init : goal.loop-i-init
loop-i-init c =
    let a = c.in-Ok.ensures in
    let b = c.in-Some.ensures in
    let n : c.in-Some.words ≡ length c.args.fields.now * 2 = b.1 ∙ ap (λ (k : ℕ). k * 2) (a.1 ∙ c.len.ensures.count) in
    begun c.args.fields.now c.in-Some.words c.args.draft.now c.head.new.self n c.in_ok-head.ensures

pub loop-i-preserved : goal.loop-i-preserved
loop-i-preserved c =
    let between : c.bulk.new.self ≡ c.loop-i.draft ++ bulk c.name.result.now = rw (c.in_ok-bulk.ensures, c.bytes.ensures.same) refl in
    let within : c.loop-i.i < length c.args.fields.now = omega arith in
    written c.args.fields.now c.loop-i.i c.name.result.now c.value.result.now c.loop-i.draft c.bulk.new.self c.value-in-loop-i.new.self (c.args.draft.now ++ fields_reply c.args.fields.now) within c.name.ensures between c.value.ensures c.in_ok-value.ensures c.loop-i.invariant
