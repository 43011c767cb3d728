use Rattle.turn_lock.specs.Lock.{IsSeatOf}
use Rattle.server_trials.proofs.journals.write_lines.Given as goal

abbrev pub invariant-loop-turn : goal.invariant-loop-turn
invariant-loop-turn g l = IsSeatOf (λ _. tt) l.lock l.seat
