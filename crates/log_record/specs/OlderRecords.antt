-- What is whole in a version is whole in each later one, and says the same.
use Rattle.std.proofs.Common.{◌≡◌, ◌≤◌, ◌∙◌, ℕ, List, Ok, ap}
use Rattle.byte_text.specs.Names.{Bytes}
use Rattle.world_data.specs.declared.worlds.Change.{Change}
use Rattle.log_record.specs.Batches.{records_in}
use Rattle.log_record.specs.BatchesRead.{records_read}
use Rattle.log_record.specs.RecordsFound.{records_found}
use Rattle.log_record.specs.VersionLaws.{recorded_later}

pub older_records_are_newer : (v w at : ℕ) (bytes : Bytes) (changes : List Change) → v ≤ w → records_in v at bytes ≡ Ok changes
    → records_in w at bytes ≡ Ok changes
older_records_are_newer v w at bytes changes later read =
    let found = records_found v at bytes changes read in
    ap (records_in w at) found.1 ∙ records_read w at changes (recorded_later v w changes later found.0)
