use Rattle.replay_run.proofs.OneOutput.{same_runs, first_runs, not_done}
use Rattle.replay_run.proofs.laws.scripts_have_one_output.Goals as goal

pub returns-clause-one : goal.returns-clause-one
returns-clause-one c = same_runs c.step_laws.ensures.determined

pub returns-clause-first : goal.returns-clause-first
returns-clause-first c = first_runs c.step_laws.ensures.determined

pub returns-clause-spent : goal.returns-clause-spent
returns-clause-spent c = not_done c.step_laws.ensures.determined
