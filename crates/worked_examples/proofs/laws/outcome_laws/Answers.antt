use Rattle.std.specs.Prelude.{false}
use Rattle.world_model.specs.Histories.{opening_hall}
use Rattle.worked_examples.proofs.Histories.{outcomes_follow}
use Rattle.worked_examples.proofs.laws.outcome_laws.Goals as goal

pub returns : goal.returns
returns c = λ o entries others last other same clean pure first second.
    outcomes_follow c.step_laws.ensures.determined (opening_hall o.world o.logged) o.moment o.count o.moment o.count false false entries others last other same clean pure first second
