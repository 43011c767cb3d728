use Rattle.world_recovery.specs.BatchesBroken.{damaged_reads}
use Rattle.world_recovery.proofs.laws.damage_is_damage.Goals as goal

pub returns : goal.returns
returns c = damaged_reads
