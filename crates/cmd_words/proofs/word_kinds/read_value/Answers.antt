use Rattle.std.proofs.Common.{rules}
use Rattle.std.proofs.Math.Facts.{to_z-of_z}
use mir.Syntax.{w64}
use mir.Val.{SFits}
use Rattle.world_data.specs.Filters.{number_in}
use Rattle.cmd_words.proofs.NumberWords.{number_value, not_read}
use Rattle.cmd_words.proofs.word_kinds.read_value.Goals as goal

pub returns-in-Ok : goal.returns-in-Ok
returns-in-Ok c =
    let fits : SFits w64 c.in-Ok.number = search rules in
    rw (to_z-of_z fits) (number_value c.args.word.now c.in-Ok.number fits c.in-Ok.ensures.text c.in-Ok.ensures.reads)

pub read_text-requires : goal.read_text-requires
read_text-requires c = not_read (number_in c.args.word.now) _ c.in-Err.ensures.reads
