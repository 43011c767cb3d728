use Rattle.world_data.specs.WorldLaws.{keeps_order}
use Rattle.world_data.proofs.Soundness.{keeps_soundness}
use Rattle.world_data.proofs.laws.world_laws.Goals as goal

pub returns : goal.returns
returns c = record { sorted = keeps_order; sound = keeps_soundness }
