use Rattle.std.proofs.Common.{◌≡◌, ◌<◌, true, false, length, arith, sym, ap, subst, ◌∙◌}
use Rattle.std.specs.Prelude.{IfSome}
use Rattle.std.specs.List.{list_any}
use Rattle.byte_text.specs.ListLaws.{item_at}
use Rattle.world_data.specs.Filters.{Field}
use Rattle.log_record.specs.Versions.{is_text}
use Rattle.record_reader.proofs.LeftTests.{any_holds, any_goes}
use Rattle.record_reader.proofs.versions.has_text.Goals as goal

pub returns-then-is_text : goal.returns-then-is_text
returns-then-is_text c =
    let fields = c.args.fields.now in
    let within : c.loop-i.i < length fields = omega arith in
    let item = item_at fields c.loop-i.i within in
    let value = subst (λ o. IfSome o (λ f. c.value.result.now ≡ f.1)) item.1 c.value.ensures in
    let here : is_text item.0.1 ≡ true = ap is_text (sym value) ∙ sym c.is_text.ensures ∙ c.if-is_text.true in
    any_holds (λ (f : Field). is_text f.1) fields c.loop-i.i item.0 item.1 (list_any (λ (f : Field). is_text f.1) fields) here c.loop-i.invariant

pub loop-i-preserved : goal.loop-i-preserved
loop-i-preserved c =
    let fields = c.args.fields.now in
    let within : c.loop-i.i < length fields = omega arith in
    let item = item_at fields c.loop-i.i within in
    let value = subst (λ o. IfSome o (λ f. c.value.result.now ≡ f.1)) item.1 c.value.ensures in
    let fails : is_text item.0.1 ≡ false = ap is_text (sym value) ∙ sym c.is_text.ensures ∙ c.if-is_text.false in
    any_goes (λ (f : Field). is_text f.1) fields c.loop-i.i item.0 item.1 (list_any (λ (f : Field). is_text f.1) fields) fails c.loop-i.invariant
