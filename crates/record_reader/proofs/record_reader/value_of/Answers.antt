use Rattle.std.proofs.Common.{rules}
use Rattle.std.proofs.Math.Facts.{to_z-of_z}
use mir.Syntax.{w64}
use mir.Val.{SFits}
use Rattle.world_data.specs.Filters.{number_in}
use Rattle.record_reader.proofs.Parts.{number_found, not_read}
use Rattle.record_reader.proofs.record_reader.value_of.Goals as goal

pub returns-in-Ok : goal.returns-in-Ok
returns-in-Ok c =
    let fits : SFits w64 c.in-Ok.number = search rules in
    rw (to_z-of_z fits) (number_found c.args.word.now c.in-Ok.number fits c.in-Ok.ensures.text)

pub text_of-requires : goal.text_of-requires
text_of-requires c = not_read (number_in c.args.word.now) _ c.in-Err.ensures.reads
