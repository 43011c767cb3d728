use Rattle.std.proofs.Common.{◌≡◌, ◌++◌, ◌<◌, length, take, arith, codes, subst, sym}
use Rattle.byte_text.specs.Names.{Bytes}
use Rattle.byte_text.specs.TextLaws.{kept_append, kept_through}
use Rattle.message_text.specs.Parts.{fields_part}
use Rattle.message_text.proofs.FieldTexts.{begun, written}
use Rattle.message_text.proofs.parts.push_fields.Goals as goal

pub loop-i-init : goal.loop-i-init
loop-i-init c =
    let some : 0 < length c.args.fields.now = omega arith in
    let opened : take (length c.args.into.now) c.push.new.self ≡ c.args.into.now = subst (λ (t : Bytes). take (length c.args.into.now) t ≡ c.args.into.now) (sym c.in_ok-push.ensures.ok) (kept_append c.args.into.now (codes ",\"fields\":{")) in
    (begun c.args.fields.now c.args.into.now c.push.new.self c.push_field.new.into some c.in_ok-push.ensures.ok c.in_ok-push_field.ensures.ok, kept_through c.args.into.now c.push.new.self c.push_field.new.into opened c.push_field.ensures.kept)

pub returns-in_err-push_next-clause-kept : goal.returns-in_err-push_next-clause-kept
returns-in_err-push_next-clause-kept c = kept_through c.args.into.now c.loop-i.into c.push_next.new.into c.loop-i.invariant.1 c.push_next.ensures.kept

pub loop-i-preserved : goal.loop-i-preserved
loop-i-preserved c =
    let within : c.loop-i.i < length c.args.fields.now = omega arith in
    (written c.args.fields.now c.loop-i.i c.loop-i.into c.push_next.new.into (c.args.into.now ++ fields_part c.args.fields.now) within c.in_ok-push_next.ensures.ok c.loop-i.invariant.0, kept_through c.args.into.now c.loop-i.into c.push_next.new.into c.loop-i.invariant.1 c.push_next.ensures.kept)
