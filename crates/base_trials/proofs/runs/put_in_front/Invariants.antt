use Rattle.std.proofs.Common.{◌≡◌, ◌+◌}
use Rattle.base_trials.proofs.runs.put_in_front.Given as goal

abbrev pub invariant-loop-x : goal.invariant-loop-x
invariant-loop-x l = l.list.spare + l.x ≡ l.fn.list.spare
