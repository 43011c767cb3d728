-- A change that was read, by the version of its side.
use Rattle.std.proofs.Common.{◌≡◌, ◌∙◌, ℕ, List, Some, None, Result, Ok, Err, sym, ap, arith}
use Rattle.std.specs.Prelude.{IfOk, IfErr}
use Rattle.byte_text.specs.Names.{Bytes}
use Rattle.byte_text.specs.Requests.{request_text}
use Rattle.world_data.specs.Records.{record_writer}
use Rattle.world_data.specs.declared.worlds.Change.{Change}
use Rattle.log_record.specs.Words.{change_of_words}
use Rattle.log_record.specs.Versions.{least_version, change_of_version}
use Rattle.log_record.specs.VersionLaws.{least_known, version_says, version_lacks, no_version}
use Rattle.log_record.specs.RecordsRead.{record_read}
use Rattle.record_reader.specs.declared.faults.RecordFault.{RecordFault}
use Rattle.record_reader.specs.declared.faults.RecordFault.TheVariants.{NotRecord, Version, Memory}
use Rattle.record_reader.specs.Versions.{IsSaid, IsOfLater}

-- words that are read as a change
module _ (v : ℕ) (words : List Bytes) (change : Change) (read : change_of_words words ≡ Some change) where
  pub said_is : (r : Result Change RecordFault) → IsSaid v change r → IfOk r (λ c. change_of_version v words ≡ Some c)
  said_is (Ok c) said = version_says v words change read said.1 ∙ ap Some (sym said.0)
  said_is (Err why) said = tt

  pub said_again : (r : Result Change RecordFault) → IsSaid v change r → IfOk r (λ c. record_writer c ≡ request_text words)
  said_again (Ok c) said = ap record_writer said.0 ∙ ap request_text (record_read words change read).0
  said_again (Err why) said = tt

  pub said_some : (r : Result Change RecordFault) → IsSaid v change r → IfErr r (λ why. why ≡ NotRecord → (w : ℕ) → change_of_version w words ≡ None)
  said_some (Ok c) said = tt
  said_some (Err NotRecord) said = absurd said
  said_some (Err Version) said = λ is. absurd (cc is)
  said_some (Err Memory) said = absurd said

  pub said_later : (r : Result Change RecordFault) → IsSaid v change r → IfErr r (λ why. why ≡ Version → IsOfLater v words)
  said_later (Ok c) said = tt
  said_later (Err NotRecord) said = absurd said
  said_later (Err Version) said = λ is. record {
    none = version_lacks v words change read said;
    later = least_version change;
    behind = said;
    known = (least_known change).1;
    change = change;
    is = version_says (least_version change) words change read (omega arith);
  }
  said_later (Err Memory) said = absurd said

-- words that are read as none
pub said_never : (words : List Bytes) → change_of_words words ≡ None → (w : ℕ) → change_of_version w words ≡ None
said_never words none w = no_version w words none
