use Rattle.serve_run.proofs.Stepping.{steps_more}
use Rattle.serve_run.proofs.early_ends.end_session.Goals as goal

pub returns : goal.returns
returns g c = λ told k.
    steps_more told (Unit {0}) k k k c.args.session.now c.dismiss_if.new.session c.cut_if.new.session (c.dismiss_if.ensures told k) (c.cut_if.ensures told k)
