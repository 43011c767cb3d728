use Rattle.std.proofs.lemmas.Result.{err_from_is_err_and}
use Rattle.record_reader.proofs.OtherRecords.{delchan_refused, delchan_longer, delchan_found}
use Rattle.record_reader.proofs.changes.delchan_of.Goals as goal

pub returns-in_err-name : goal.returns-in_err-name
returns-in_err-name c =
    let p = err_from_is_err_and c.from_residual.result c.from_residual.ensures.1 in
    rw (p.1, p.2) (delchan_refused c.args.reader.now c.name.new.self _ c.in_err-name.ensures)

pub returns-in_err-end : goal.returns-in_err-end
returns-in_err-end c =
    let p = err_from_is_err_and c.from_residual-in_err-end.result c.from_residual-in_err-end.ensures.1 in
    rw (p.1, p.2) (delchan_longer c.args.reader.now c.in_ok-name.name c.name.new.self c.in_ok-name.ensures _ c.in_err-end.ensures)

pub returns : goal.returns
returns c = delchan_found c.args.reader.now c.in_ok-name.name c.name.new.self c.in_ok-name.ensures c.in_ok-end.ensures
