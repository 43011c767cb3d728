use Rattle.std.proofs.Common.{refl}
use Rattle.serve_run.proofs.Stepping.{steps_none, steps_dismissed}
use Rattle.serve_run.proofs.early_ends.dismiss_if.Goals as goal

pub returns-then-may_be_dismissed : goal.returns-then-may_be_dismissed
returns-then-may_be_dismissed g c = λ told k.
    steps_dismissed told k c.args.session.now c.dismiss.new.self (c.if-may_be_dismissed.ensures.0 refl) c.dismiss.ensures

pub returns-else-is_due : goal.returns-else-is_due
returns-else-is_due g c = λ told k. steps_none told (Unit {0}) k c.args.session.now
