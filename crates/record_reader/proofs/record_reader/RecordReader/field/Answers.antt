use Rattle.std.proofs.lemmas.Result.{err_from_is_err_and}
use Rattle.record_reader.proofs.Parts.{name_refused, value_refused, field_found}
use Rattle.record_reader.proofs.record_reader.RecordReader.field.Goals as goal

pub returns-in_err-name : goal.returns-in_err-name
returns-in_err-name c =
    let p = err_from_is_err_and c.from_residual.result c.from_residual.ensures.1 in
    rw (p.1, p.2) (name_refused c.args.self.now c.name.new.self c.name.new.self _ c.in_err-name.ensures)

pub returns-in_err-value : goal.returns-in_err-value
returns-in_err-value c =
    let p = err_from_is_err_and c.from_residual-in_err-value.result c.from_residual-in_err-value.ensures.1 in
    rw (p.1, p.2) (value_refused c.args.self.now c.value.new.self c.in_ok-name.name c.name.new.self _ c.in_ok-name.ensures c.in_err-value.ensures)

pub returns : goal.returns
returns c = field_found c.args.self.now c.value.new.self c.in_ok-name.name c.in_ok-value.value c.name.new.self c.in_ok-name.ensures c.in_ok-value.ensures
