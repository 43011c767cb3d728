use Rattle.std.proofs.Common.{sym, ◌∙◌}
use Rattle.cmd_words.proofs.ValueTests.{same_read, other_read, none_read}
use Rattle.cmd_words.proofs.request_reader.Reader.text_test.Goals as goal

pub returns-then-is_text : goal.returns-then-is_text
returns-then-is_text c = same_read c.args.name c.args.text c.args.self.now c.next.new.self c.in-Some.word.now c.in-Some.ensures (sym c.is_text.ensures ∙ c.if-is_text.true)

pub returns-else-is_text : goal.returns-else-is_text
returns-else-is_text c = other_read c.args.name c.args.text c.args.self.now c.next.new.self c.in-Some.word.now c.invalid.result c.in-Some.ensures (sym c.is_text.ensures ∙ c.if-is_text.false) c.invalid.ensures

pub returns-in-None : goal.returns-in-None
returns-in-None c = none_read c.args.name c.args.text c.args.self.now c.next.new.self c.wrong_count.result c.in-None.ensures c.wrong_count.ensures
