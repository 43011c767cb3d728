use Rattle.std.proofs.lemmas.Result.{err_from_is_err_and}
use Rattle.record_reader.proofs.Parts.{text_found, text_refused}
use Rattle.record_reader.proofs.record_reader.text_of.Goals as goal

pub returns-in_err-text : goal.returns-in_err-text
returns-in_err-text c =
    let p = err_from_is_err_and c.from_residual.result c.from_residual.ensures.1 in
    rw (p.1, p.2) (text_refused c.args.word.now c.requires _ c.in_err-text.ensures)

pub returns : goal.returns
returns c = text_found c.args.word.now c.requires c.in_ok-text.text c.in_ok-text.ensures
