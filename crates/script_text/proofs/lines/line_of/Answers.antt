use Rattle.script_text.proofs.Moments.{answer_kept}
use Rattle.script_text.proofs.lines.line_of.Goals as goal

pub returns-clause-moment : goal.returns-clause-moment
returns-clause-moment c = answer_kept c.args.bytes.now c.read_line.result c.read_line.ensures
