use Rattle.std.proofs.Common.{◌++◌, ◌∷◌, [], false, subst, sym}
use Rattle.std.specs.Prelude.{Option}
use Rattle.outside.specs.Links.{LinkState}
use Rattle.session_run.specs.Sessions.{SessionState}
use Rattle.serve_run.specs.LoopEnds.{ShutBy}
use Rattle.serve_run.specs.LoopStates.{Keeps, loop_state}
use Rattle.serve_run.proofs.Keeping.{pop_none}
use Rattle.serve_run.proofs.Shutting.{shut_last}
use Rattle.serve_run.proofs.tables.shut_popped.Goals as goal

pub returns-in-Some-clause-keeps : goal.returns-in-Some-clause-keeps
returns-in-Some-clause-keeps g c = λ told terms k d places joined starved is_over goes_on.
    subst (λ (p : Option SessionState). Keeps told terms (loop_state k d (g.W.WaitForLinks.shows c.args.wait.now) (places ++ p ∷ []) joined starved is_over goes_on)
    (loop_state k d (g.W.WaitForLinks.shows c.shut.new.wait) places joined starved is_over false)) (sym c.in-Some.is)
    (shut_last told terms k d (g.W.WaitForLinks.shows c.args.wait.now) (g.W.WaitForLinks.shows c.shut.new.wait) places c.in-Some.session c.shut.result joined starved is_over goes_on
    (subst (λ (l : LinkState). ShutBy (g.W.WaitForLinks.shows c.args.wait.now) (g.W.WaitForLinks.shows c.shut.new.wait) c.shut.result l) c.into_link.ensures c.shut.ensures))

pub returns-in_default-clause-keeps : goal.returns-in_default-clause-keeps
returns-in_default-clause-keeps g c = λ told terms k d places joined starved is_over goes_on.
    subst (λ (p : Option SessionState). Keeps told terms (loop_state k d (g.W.WaitForLinks.shows c.args.wait.now) (places ++ p ∷ []) joined starved is_over goes_on)
    (loop_state k d (g.W.WaitForLinks.shows c.args.wait.now) places joined starved is_over false)) (sym c.in_default.is)
    (pop_none told terms k d (g.W.WaitForLinks.shows c.args.wait.now) places joined starved is_over goes_on)
