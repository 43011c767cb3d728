use Rattle.std.proofs.Common.{◌≡◌, ◌≤◌, ◌*◌, take}
use Rattle.std.specs.Prelude.{flat_map}
use Rattle.world_data.specs.Records.{field_words}
use Rattle.record_writer.specs.Lengths.{words_len}
use Rattle.record_writer.proofs.lengths.fields_len.Given as goal

abbrev pub invariant-loop-i : goal.invariant-loop-i
invariant-loop-i l = record {
  counted : l.sum ≡ words_len (flat_map field_words (take l.i l.fields));
  short : l.sum ≤ 600 * l.i;
}
