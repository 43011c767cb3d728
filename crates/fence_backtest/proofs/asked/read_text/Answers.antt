use Rattle.std.proofs.Common.{arith}
use Rattle.fence_backtest.proofs.Lengths.{too_long}
use Rattle.fence_backtest.proofs.asked.read_text.Goals as goal

pub returns-clause-read : goal.returns-clause-read
returns-clause-read g c = (c.loop-source.text, c.loop-source.invariant.consumed, too_long c.loop-source.text (omega (arith, c.loop-source-test.false, c.len.ensures)))
