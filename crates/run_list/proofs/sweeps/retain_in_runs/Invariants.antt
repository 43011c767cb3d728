use Rattle.std.proofs.Common.{◌≡◌, ◌++◌, map, take, drop}
use Rattle.std.specs.List.{filter}
use Rattle.run_list.proofs.sweeps.retain_in_runs.Given as goal

abbrev pub invariant-loop-run : goal.invariant-loop-run
invariant-loop-run g l = l.run-items ≡ map (λ run. filter (g.B.Before.before l.test) run) (take l.run-index l.fn.runs.items) ++ drop l.run-index l.fn.runs.items
