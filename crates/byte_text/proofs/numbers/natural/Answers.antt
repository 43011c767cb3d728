use Rattle.byte_text.proofs.DigitsRead.{some_digit}
use Rattle.byte_text.proofs.numbers.natural.Goals as goal

pub returns-in-empty-clause-only : goal.returns-in-empty-clause-only
returns-in-empty-clause-only c = λ n small e. absurd (some_digit n c.args.bytes.now small c.in-empty.len_below e)
