use Rattle.std.proofs.Common.{ap, ◌∙◌}
use Rattle.std.specs.Result.{result_ok}
use Rattle.byte_text.specs.Numbers.{read_whole}
use Rattle.world_data.specs.Filters.{number_in}
use Rattle.world_data.proofs.NumbersRead.{read_back}
use Rattle.world_data.proofs.values.number_in.Goals as goal

pub returns : goal.returns
returns c = c.ok.ensures.value ∙ ap result_ok (c.read_i64.ensures.reads ∙ ap read_whole c.bytes.ensures.same) ∙ read_back (number_in c.args.word.now)
