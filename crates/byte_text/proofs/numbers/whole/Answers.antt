use Rattle.byte_text.proofs.DigitsRead.{some_byte}
use Rattle.byte_text.proofs.numbers.whole.Goals as goal

pub returns-in-empty-clause-only : goal.returns-in-empty-clause-only
returns-in-empty-clause-only c = λ z fits e. absurd (some_byte z c.args.bytes.now fits c.in-empty.len_below e)
