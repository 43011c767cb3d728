use Rattle.fence_index.proofs.Silent.{silent}
use Rattle.fence_index.proofs.laws.unconcerned_are_silent.Goals as goal

pub returns : goal.returns
returns c = silent c.met_is_near.ensures
