use Rattle.std.proofs.Common.{◌≡◌, drop}
use Rattle.log_record.specs.Words.{same_words}
use Rattle.record_reader.proofs.record_reader.RecordReader.ends_with.Given as goal

abbrev pub invariant-loop-at : goal.invariant-loop-at
invariant-loop-at l = same_words l.words l.fn.self ≡ same_words (drop l.at l.words) l.self
