use Rattle.std.proofs.lemmas.Result.{err_from_is_err_and}
use Rattle.cmd_words.proofs.AreaWords.{figure_read, figure_refused}
use Rattle.cmd_words.proofs.areas.read_figure.Goals as goal

pub returns-in_err-text : goal.returns-in_err-text
returns-in_err-text c =
    let p = err_from_is_err_and c.from_residual.result c.from_residual.ensures.1 in
    rw (p.1, p.2) (figure_refused c.args.reader.now c.geojson.new.self _ c.in_err-text.ensures)

pub returns : goal.returns
returns c = figure_read c.args.reader.now c.geojson.new.self _ c.figure_area.result c.in_ok-text.ensures c.figure_area.ensures.ok c.figure_area.ensures.err
