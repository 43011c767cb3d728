use Rattle.std.proofs.Common.{◌≡◌, ◌++◌, drop}
use Rattle.record_reader.specs.Reading.{undated}
use Rattle.record_reader.proofs.channels.without_deadline.Given as goal

abbrev pub invariant-loop-at : goal.invariant-loop-at
invariant-loop-at l = l.normal ++ drop l.at l.words ≡ undated l.words
