use Rattle.serve_run.proofs.Stepping.{steps_more}
use Rattle.serve_run.proofs.session_steps.step_out.Goals as goal

pub returns-then-is_busy-clause-steps : goal.returns-then-is_busy-clause-steps
returns-then-is_busy-clause-steps g c = λ told.
    steps_more told ⊥ _ _ _ _ _ _ (c.close_once.ensures.steps told) (c.give_all.ensures.steps told)

pub returns-else-is_busy-clause-steps : goal.returns-else-is_busy-clause-steps
returns-else-is_busy-clause-steps g c = λ told.
    steps_more told ⊥ _ _ _ _ _ _ (c.close_once.ensures.steps told) (c.give_all.ensures.steps told)
