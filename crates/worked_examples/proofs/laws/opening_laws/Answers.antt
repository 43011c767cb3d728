use Rattle.worked_examples.proofs.Completions.{open_is_begun}
use Rattle.worked_examples.proofs.laws.opening_laws.Goals as goal

pub returns : goal.returns
returns c = open_is_begun
