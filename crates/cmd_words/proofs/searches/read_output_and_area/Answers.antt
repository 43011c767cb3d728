use Rattle.std.proofs.lemmas.Result.{err_from_is_err_and}
use Rattle.cmd_words.proofs.SearchCommands.{bounds_read, area_found, area_refused}
use Rattle.cmd_words.proofs.searches.read_output_and_area.Goals as goal

pub returns-then-takes : goal.returns-then-takes
returns-then-takes c = bounds_read c.args.reader.now c.takes.new.self c.read_box_or_area.new.reader (rw c.if-takes.true at c.takes.ensures) c.read_box_or_area.result c.read_box_or_area.ensures

pub returns-in_err-area : goal.returns-in_err-area
returns-in_err-area c =
    let p = err_from_is_err_and c.from_residual.result c.from_residual.ensures.1 in
    rw (p.1, p.2) (area_refused c.args.reader.now c.takes.new.self c.output.new.self c.read_area.new.reader (rw c.if-takes.false at c.takes.ensures) c.output.result c.output.ensures _ c.in_err-area.ensures)

pub returns : goal.returns
returns c = rw c.unwrap_or-shown.ensures (area_found c.args.reader.now c.takes.new.self c.output.new.self c.read_area.new.reader (rw c.if-takes.false at c.takes.ensures) c.output.result c.output.ensures c.in_ok-area.area c.in_ok-area.ensures)
