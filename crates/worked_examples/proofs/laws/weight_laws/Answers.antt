use Rattle.worked_examples.proofs.Counted.{weight_is_counted}
use Rattle.worked_examples.proofs.laws.weight_laws.Goals as goal

pub returns : goal.returns
returns c = weight_is_counted
