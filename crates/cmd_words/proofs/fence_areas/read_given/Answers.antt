use Rattle.std.proofs.lemmas.Result.{err_from_is_err_and}
use Rattle.cmd_words.proofs.FenceAreas.{given_found, given_refused}
use Rattle.cmd_words.proofs.fence_areas.read_given.Goals as goal

pub returns-in_err-area : goal.returns-in_err-area
returns-in_err-area c =
    let p = err_from_is_err_and c.from_residual.result c.from_residual.ensures.1 in
    rw (p.1, p.2) (given_refused c.args.reader.now c.read_area.new.reader _ c.in_err-area.ensures)

pub returns : goal.returns
returns c = given_found c.args.reader.now c.read_area.new.reader c.in_ok-area.area c.in_ok-area.ensures
