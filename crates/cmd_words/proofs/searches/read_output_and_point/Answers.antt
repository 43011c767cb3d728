use Rattle.std.proofs.lemmas.Result.{err_from_is_err_and}
use Rattle.cmd_words.proofs.SearchCommands.{no_point_next, point_found, point_refused}
use Rattle.cmd_words.proofs.searches.read_output_and_point.Goals as goal

pub returns-else-takes : goal.returns-else-takes
returns-else-takes c = no_point_next c.args.reader.now c.output.new.self c.takes.new.self c.takes.new.self c.output.result c.output.ensures (rw c.if-takes.false at c.takes.ensures) c.refusal.result c.refusal.ensures

pub returns-in_err-at : goal.returns-in_err-at
returns-in_err-at c =
    let p = err_from_is_err_and c.from_residual.result c.from_residual.ensures.1 in
    rw (p.1, p.2) (point_refused c.args.reader.now c.output.new.self c.point.new.self c.takes.new.self c.output.result c.output.ensures (rw c.if-takes.true at c.takes.ensures) _ c.in_err-at.ensures)

pub returns-in_ok-at : goal.returns-in_ok-at
returns-in_ok-at c = rw c.unwrap_or-shown.ensures (point_found c.args.reader.now c.output.new.self c.point.new.self c.takes.new.self c.output.result c.output.ensures (rw c.if-takes.true at c.takes.ensures) c.in_ok-at.at c.in_ok-at.ensures)
