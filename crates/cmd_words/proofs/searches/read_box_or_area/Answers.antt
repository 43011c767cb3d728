use Rattle.std.proofs.lemmas.Result.{err_from_is_err_and}
use Rattle.cmd_words.proofs.SearchCommands.{second_found, second_refused, box_found, box_faults}
use Rattle.cmd_words.proofs.searches.read_box_or_area.Goals as goal

pub returns-in_err-area-in-Some : goal.returns-in_err-area-in-Some
returns-in_err-area-in-Some c =
    let p = err_from_is_err_and c.from_residual.result c.from_residual.ensures.1 in
    rw (p.1, p.2) (second_refused c.args.reader.now c.area_word.new.reader c.read_behind.new.reader c.in-Some.word c.in-Some.ensures _ c.in_err-area-in-Some.ensures)

pub returns-in_ok-area-in-Some : goal.returns-in_ok-area-in-Some
returns-in_ok-area-in-Some c = second_found c.args.reader.now c.area_word.new.reader c.read_behind.new.reader c.in-Some.word c.in-Some.ensures c.in_ok-area-in-Some.area c.in_ok-area-in-Some.ensures

pub returns-in_err-rect-in-None : goal.returns-in_err-rect-in-None
returns-in_err-rect-in-None c =
    let p = err_from_is_err_and c.from_residual-in_err-rect-in-None.result c.from_residual-in_err-rect-in-None.ensures.1 in
    rw (p.1, p.2) (box_faults c.args.reader.now c.area_word.new.reader c.bounds.new.self c.in-None.ensures _ c.in_err-rect-in-None.ensures.beside)

pub returns-in_ok-rect-in-None : goal.returns-in_ok-rect-in-None
returns-in_ok-rect-in-None c = rw c.rect_area.ensures (box_found c.args.reader.now c.area_word.new.reader c.bounds.new.self c.in-None.ensures c.in_ok-rect-in-None.rect c.in_ok-rect-in-None.ensures.beside)
