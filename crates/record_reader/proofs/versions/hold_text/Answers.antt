use Rattle.std.proofs.Common.{◌≡◌, true, false, sym, ◌∙◌}
use Rattle.std.specs.List.{list_any}
use Rattle.log_record.specs.Versions.{is_text}
use Rattle.record_reader.proofs.LeftTests.{any_holds, any_goes}
use Rattle.record_reader.proofs.versions.hold_text.Goals as goal

pub returns-then-is_text : goal.returns-then-is_text
returns-then-is_text c =
    let values = c.args.values.now in
    let here : is_text c.at.result.now ≡ true = sym c.is_text.ensures ∙ c.if-is_text.true in
    any_holds is_text values c.loop-i.i c.at.result.now c.at.ensures (list_any is_text values) here c.loop-i.invariant

pub loop-i-preserved : goal.loop-i-preserved
loop-i-preserved c =
    let values = c.args.values.now in
    let fails : is_text c.at.result.now ≡ false = sym c.is_text.ensures ∙ c.if-is_text.false in
    any_goes is_text values c.loop-i.i c.at.result.now c.at.ensures (list_any is_text values) fails c.loop-i.invariant
