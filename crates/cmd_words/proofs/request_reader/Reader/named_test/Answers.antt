use Rattle.std.proofs.lemmas.Result.{err_from_is_err_and}
use Rattle.cmd_words.specs.declared.conditions.FirstValue.TheVariants.{Least, Text}
use Rattle.cmd_words.proofs.ValueTests.{first_fails, first_then}
use Rattle.cmd_words.proofs.request_reader.Reader.named_test.Goals as goal

pub returns-in_err-first : goal.returns-in_err-first
returns-in_err-first c =
    let p = err_from_is_err_and c.from_residual.result c.from_residual.ensures.1 in
    rw (p.1, p.2) (first_fails c.args.name c.args.self.now c.first_value.new.self c.first_value.new.self _ c.in_err-first.ensures)

pub returns-in-Least : goal.returns-in-Least
returns-in-Least c =
    let first = rw c.in-Least.is at c.in_ok-first.ensures in
    first_then c.args.name c.args.self.now c.first_value.new.self c.range_test.new.self (Least c.in-Least.low) c.range_test.result first c.range_test.ensures

pub returns-in-Text : goal.returns-in-Text
returns-in-Text c =
    let first = rw c.in-Text.is at c.in_ok-first.ensures in
    first_then c.args.name c.args.self.now c.first_value.new.self c.text_test.new.self (Text c.in-Text.text) c.text_test.result first c.text_test.ensures
