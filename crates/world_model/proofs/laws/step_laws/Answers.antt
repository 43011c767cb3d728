use Rattle.world_model.proofs.Steps.{stopped_stays, leads_to_one, determined}
use Rattle.world_model.proofs.Others.{others_placed_on}
use Rattle.world_model.proofs.laws.step_laws.Goals as goal

pub returns : goal.returns
returns c = record { stays = stopped_stays; one = leads_to_one; determined = determined; others = others_placed_on }
