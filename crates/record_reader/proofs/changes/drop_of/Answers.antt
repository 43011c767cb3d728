use Rattle.std.proofs.lemmas.Result.{err_from_is_err_and}
use Rattle.record_reader.proofs.OtherRecords.{drop_refused, drop_longer, drop_found}
use Rattle.record_reader.proofs.changes.drop_of.Goals as goal

pub returns-in_err-key : goal.returns-in_err-key
returns-in_err-key c =
    let p = err_from_is_err_and c.from_residual.result c.from_residual.ensures.1 in
    rw (p.1, p.2) (drop_refused c.args.reader.now c.name.new.self _ c.in_err-key.ensures)

pub returns-in_err-end : goal.returns-in_err-end
returns-in_err-end c =
    let p = err_from_is_err_and c.from_residual-in_err-end.result c.from_residual-in_err-end.ensures.1 in
    rw (p.1, p.2) (drop_longer c.args.reader.now c.in_ok-key.key c.name.new.self c.in_ok-key.ensures _ c.in_err-end.ensures)

pub returns : goal.returns
returns c = drop_found c.args.reader.now c.in_ok-key.key c.name.new.self c.in_ok-key.ensures c.in_ok-end.ensures
