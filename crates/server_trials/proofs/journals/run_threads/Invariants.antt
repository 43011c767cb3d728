use Rattle.std.proofs.Common.{length}
use Rattle.turn_lock.specs.Lock.{IsSeatOf}
use Rattle.server_trials.proofs.journals.run_threads.Given as goal

abbrev pub invariant-loop-caller : goal.invariant-loop-caller
invariant-loop-caller g l = IsSeatOf (λ _. tt) l.lock.value l.seat

abbrev pub invariant-loop-child : goal.invariant-loop-child
invariant-loop-child g l = IsSeatOf (λ _. tt) l.lock.value l.seat

abbrev pub decreases-loop-child : goal.decreases-loop-child
decreases-loop-child g l = length l.children.items
