use Rattle.std.proofs.Common.{arith}
use Rattle.fence_backtest.proofs.Cutting.{is_cut}
use Rattle.fence_backtest.proofs.cuts.cuts_of.Goals as goal

pub returns : goal.returns
returns g c = is_cut c.args.len c.div_ceil-2.result c.max-size.result (omega (arith, c.max-size.ensures)) c.div_ceil-2.ensures
