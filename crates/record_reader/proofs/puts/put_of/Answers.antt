use Rattle.std.proofs.lemmas.Result.{err_from_is_err_and}
use Rattle.record_reader.proofs.PutParts.{key_refused, id_refused, fields_refused, deadline_refused, text_refused, put_found}
use Rattle.record_reader.proofs.puts.put_of.Goals as goal

pub returns-in_err-key : goal.returns-in_err-key
returns-in_err-key c =
    let p = err_from_is_err_and c.from_residual.result c.from_residual.ensures.1 in
    rw (p.1, p.2) (key_refused c.args.reader.now c.name.new.self _ c.in_err-key.ensures)

pub returns-in_err-id : goal.returns-in_err-id
returns-in_err-id c =
    let p = err_from_is_err_and c.from_residual-in_err-id.result c.from_residual-in_err-id.ensures.1 in
    rw (p.1, p.2) (id_refused c.args.reader.now c.in_ok-key.key c.name.new.self c.in_ok-key.ensures c.name-2.new.self _ c.in_err-id.ensures)

pub returns-in_err-fields : goal.returns-in_err-fields
returns-in_err-fields c =
    let p = err_from_is_err_and c.from_residual-in_err-fields.result c.from_residual-in_err-fields.ensures.1 in
    rw (p.1, p.2) (fields_refused c.args.reader.now c.in_ok-key.key c.name.new.self c.in_ok-key.ensures c.in_ok-id.id c.name-2.new.self c.in_ok-id.ensures
    c.read_fields.new.reader _ c.in_err-fields.ensures)

pub returns-in_err-deadline : goal.returns-in_err-deadline
returns-in_err-deadline c =
    let p = err_from_is_err_and c.from_residual-in_err-deadline.result c.from_residual-in_err-deadline.ensures.1 in
    rw (p.1, p.2) (deadline_refused c.args.reader.now c.in_ok-key.key c.name.new.self c.in_ok-key.ensures c.in_ok-id.id c.name-2.new.self c.in_ok-id.ensures
    c.in_ok-fields.fields c.read_fields.new.reader c.in_ok-fields.ensures c.deadline.new.self _ c.in_err-deadline.ensures)

pub returns-in_err-text : goal.returns-in_err-text
returns-in_err-text c =
    let p = err_from_is_err_and c.from_residual-in_err-text.result c.from_residual-in_err-text.ensures.1 in
    rw (p.1, p.2) (text_refused c.args.reader.now c.in_ok-key.key c.name.new.self c.in_ok-key.ensures c.in_ok-id.id c.name-2.new.self c.in_ok-id.ensures
    c.in_ok-fields.fields c.read_fields.new.reader c.in_ok-fields.ensures c.in_ok-deadline.deadline c.deadline.new.self c.in_ok-deadline.ensures _ c.in_err-text.ensures)

pub returns : goal.returns
returns c =
    put_found c.args.reader.now c.in_ok-key.key c.name.new.self c.in_ok-key.ensures c.in_ok-id.id c.name-2.new.self c.in_ok-id.ensures
    c.in_ok-fields.fields c.read_fields.new.reader c.in_ok-fields.ensures c.in_ok-deadline.deadline c.deadline.new.self c.in_ok-deadline.ensures
    (c.in_ok-text.text, c.in_ok-text.shape) c.in_ok-text.ensures
