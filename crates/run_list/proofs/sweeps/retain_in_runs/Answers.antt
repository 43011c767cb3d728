use Rattle.std.proofs.Common.{◌<◌, length, rules}
use Rattle.std.specs.List.{filter}
use Rattle.run_list.proofs.Filters.{mapped-more}
use Rattle.run_list.proofs.sweeps.retain_in_runs.Goals as goal

pub loop-run-preserved : goal.loop-run-preserved
loop-run-preserved g c =
    let rs = c.args.runs.now.items in
    let lt : c.loop-run.run-index < length rs = search rules in
    mapped-more (λ run. filter (g.B.Before.before c.args.test.now) run) rs c.loop-run.run-items c.loop-run.run-index c.run-item.result c.retain.new.self lt c.loop-run.invariant c.retain.ensures
