use Rattle.std.proofs.Common.{ap, Some, arith}
use Rattle.byte_text.proofs.DigitsRead.{read_so_far, all_read}
use Rattle.byte_text.proofs.numbers.with_digits.Goals as goal

pub returns-in-None-clause-only : goal.returns-in-None-clause-only
returns-in-None-clause-only c = λ m small e.
    absurd (cc (c.in-None.ensures.only m _ small (read_so_far m c.args.n c.loop-at.longer c.loop-at.at c.args.digits.now c.loop-at-test.true c.loop-at.invariant.2 e)))

pub returns-clause-only : goal.returns-clause-only
returns-clause-only c = λ m small e.
    ap Some (all_read m c.args.n c.loop-at.longer c.loop-at.at c.args.digits.now small c.loop-at.invariant.1 (omega (arith, c.loop-at-test.false)) c.loop-at.invariant.2 e)
