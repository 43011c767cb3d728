use Rattle.std.proofs.Common.{arith}
use Rattle.run_list.proofs.Flats.{end-gap}
use Rattle.run_list.proofs.walks.gap.Goals as goal

pub returns : goal.returns
returns c = end-gap c.args.runs.now c.args.i c.len.result c.index-runs-last.result c.requires.some c.index-runs-last.is c.len.ensures.count (omega arith)
