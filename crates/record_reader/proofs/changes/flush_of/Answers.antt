use Rattle.std.proofs.lemmas.Result.{err_from_is_err_and}
use Rattle.record_reader.proofs.OtherRecords.{flush_longer, flush_found}
use Rattle.record_reader.proofs.changes.flush_of.Goals as goal

pub returns-in_err-end : goal.returns-in_err-end
returns-in_err-end c =
    let p = err_from_is_err_and c.from_residual.result c.from_residual.ensures.1 in
    rw (p.1, p.2) (flush_longer c.args.reader.now _ c.in_err-end.ensures)

pub returns : goal.returns
returns c = flush_found c.args.reader.now c.in_ok-end.ensures
