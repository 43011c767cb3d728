use Rattle.log_record.specs.SafetyLaws.{fewer_stay_safe, frames_stay_safe}
use Rattle.log_record.proofs.laws.fewer_stay_safe.Goals as goal

pub returns : goal.returns
returns g c = record { fewer = fewer_stay_safe g.D.Disk.left_since; frames = frames_stay_safe g.D.Disk.left_since }
