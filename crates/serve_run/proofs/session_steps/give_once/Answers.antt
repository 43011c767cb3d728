use Rattle.serve_run.proofs.Stepping.{steps_more}
use Rattle.serve_run.proofs.session_steps.give_once.Goals as goal

pub returns-clause-steps : goal.returns-clause-steps
returns-clause-steps g c = λ told.
    steps_more told ⊥ _ _ _ _ _ _ (c.take_once.ensures.steps told) (c.write_once.ensures.steps told (g.H.HallApi.knows c.take_once.new.seat))
