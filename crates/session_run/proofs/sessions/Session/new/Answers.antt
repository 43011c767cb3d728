use Rattle.session_run.proofs.Filled.{fit_at_first}
use Rattle.session_run.proofs.sessions.Session.new.Goals as goal

pub invariant_of-result : goal.invariant_of-result
invariant_of-result g c = rw (c.new.ensures, c.new-3.ensures) fit_at_first
