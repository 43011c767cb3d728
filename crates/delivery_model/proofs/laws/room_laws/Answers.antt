use Rattle.delivery_model.specs.Serving.{lives_on, takes_all}
use Rattle.delivery_model.proofs.laws.room_laws.Goals as goal

pub returns : goal.returns
returns c = record { counts = lives_on; all = takes_all }
