use Rattle.std.proofs.Common.{arith}
use Rattle.tile_core.proofs.Pushing.{goes_as, none_goes_on}
use Rattle.tile_core.proofs.records.goes_next.Goals as goal

pub returns-then-at-len-clause-value : goal.returns-then-at-len-clause-value
returns-then-at-len-clause-value c = none_goes_on c.args.object.now c.args.out.now c.args.at (omega (arith, c.if-at-len.true, c.len.ensures))

pub returns-clause-value : goal.returns-clause-value
returns-clause-value c = goes_as c.args.object.now c.args.out.now c.args.at c.at.result.now c.unwrap_or.result c.unwrap_or-2.result c.at.ensures c.unwrap_or.ensures c.unwrap_or-2.ensures
