use Rattle.std.proofs.Common.{◌≡◌, true, false, sym, ◌∙◌}
use Rattle.std.specs.List.{list_any}
use Rattle.log_record.specs.Versions.{names_text}
use Rattle.record_reader.proofs.LeftTests.{any_holds, any_goes}
use Rattle.record_reader.proofs.versions.name_text.Goals as goal

pub returns-then-names_text : goal.returns-then-names_text
returns-then-names_text c =
    let tests = c.args.tests.now in
    let here : names_text c.at.result.now ≡ true = sym c.names_text.ensures ∙ c.if-names_text.true in
    any_holds names_text tests c.loop-i.i c.at.result.now c.at.ensures (list_any names_text tests) here c.loop-i.invariant

pub loop-i-preserved : goal.loop-i-preserved
loop-i-preserved c =
    let tests = c.args.tests.now in
    let fails : names_text c.at.result.now ≡ false = sym c.names_text.ensures ∙ c.if-names_text.false in
    any_goes names_text tests c.loop-i.i c.at.result.now c.at.ensures (list_any names_text tests) fails c.loop-i.invariant
