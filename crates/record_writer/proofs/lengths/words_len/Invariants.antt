use Rattle.std.proofs.Common.{◌≡◌, ◌≤◌, ◌*◌, take}
use Rattle.record_writer.specs.Lengths.{words_len}
use Rattle.record_writer.proofs.lengths.words_len.Given as goal

abbrev pub invariant-loop-at : goal.invariant-loop-at
invariant-loop-at l = record {
  counted : l.sum ≡ words_len (take l.at l.words);
  short : l.sum ≤ 1048601 * l.at;
}
