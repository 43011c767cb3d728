use Rattle.log_record.specs.OlderRecords.{older_records_are_newer}
use Rattle.log_record.specs.VersionLaws.{least_known}
use Rattle.log_record.proofs.laws.older_records_are_newer.Goals as goal

pub returns : goal.returns
returns c = record { records = older_records_are_newer; known = least_known }
