use Rattle.record_reader.proofs.Sizes.{changes_are_recorded}
use Rattle.record_reader.proofs.laws.changes_are_recorded.Goals as goal

pub returns : goal.returns
returns c = changes_are_recorded
