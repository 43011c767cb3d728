use Rattle.std.proofs.lemmas.Result.{err_from_is_err_and}
use Rattle.record_reader.proofs.OtherRecords.{del_key_refused, del_id_refused, del_longer, del_found}
use Rattle.record_reader.proofs.changes.del_of.Goals as goal

pub returns-in_err-key : goal.returns-in_err-key
returns-in_err-key c =
    let p = err_from_is_err_and c.from_residual.result c.from_residual.ensures.1 in
    rw (p.1, p.2) (del_key_refused c.args.reader.now c.name.new.self _ c.in_err-key.ensures)

pub returns-in_err-id : goal.returns-in_err-id
returns-in_err-id c =
    let p = err_from_is_err_and c.from_residual-in_err-id.result c.from_residual-in_err-id.ensures.1 in
    rw (p.1, p.2) (del_id_refused c.args.reader.now c.in_ok-key.key c.name.new.self c.in_ok-key.ensures c.name-2.new.self _ c.in_err-id.ensures)

pub returns-in_err-end : goal.returns-in_err-end
returns-in_err-end c =
    let p = err_from_is_err_and c.from_residual-in_err-end.result c.from_residual-in_err-end.ensures.1 in
    rw (p.1, p.2) (del_longer c.args.reader.now c.in_ok-key.key c.name.new.self c.in_ok-key.ensures c.in_ok-id.id c.name-2.new.self c.in_ok-id.ensures _ c.in_err-end.ensures)

pub returns : goal.returns
returns c = del_found c.args.reader.now c.in_ok-key.key c.name.new.self c.in_ok-key.ensures c.in_ok-id.id c.name-2.new.self c.in_ok-id.ensures c.in_ok-end.ensures
