use Rattle.std.proofs.Common.{◌≡◌, true, false, rules}
use Rattle.std.proofs.lemmas.Result.{err_from_is_err_and}
use Rattle.record_reader.proofs.FieldLists.{none_yet, all_read, field_refused, order_refused, goes_on, shorter}
use Rattle.record_reader.proofs.puts.read_fields.Goals as goal

pub each-init : goal.each-init
each-init c = rw c.new-fields.ensures (none_yet c.args.reader.now)

pub returns-in_err-field : goal.returns-in_err-field
returns-in_err-field c =
    let p = err_from_is_err_and c.from_residual.result c.from_residual.ensures.1 in
    let took : c.takes.result ≡ true = search rules in
    rw (p.1, p.2) (field_refused c.args.reader.now c.each.fields c.each.reader c.each.invariant c.takes.new.self (c.takes.ensures.taken took)
    c.field.new.self c.field.new.self _ c.in_err-field.ensures)

pub returns-in_err-push_last : goal.returns-in_err-push_last
returns-in_err-push_last c =
    let p = err_from_is_err_and c.from_residual-in_err-push_last.result c.from_residual-in_err-push_last.ensures.1 in
    let took : c.takes.result ≡ true = search rules in
    rw (p.1, p.2) (order_refused c.args.reader.now c.each.fields c.each.reader c.each.invariant c.takes.new.self (c.takes.ensures.taken took)
    c.in_ok-field.field c.field.new.self c.in_ok-field.ensures c.field.new.self _ c.in_err-push_last.ensures.refused)

pub each-preserved : goal.each-preserved
each-preserved c =
    let took : c.takes.result ≡ true = search rules in
    goes_on c.args.reader.now c.each.fields c.each.reader c.each.invariant c.takes.new.self (c.takes.ensures.taken took)
    c.in_ok-field.field c.field.new.self c.in_ok-field.ensures c.push_last.new.fields c.in_ok-push_last.ensures.ok c.in_ok-push_last.ensures.ordered

pub each-smaller : goal.each-smaller
each-smaller c =
    let took : c.takes.result ≡ true = search rules in
    shorter c.each.reader c.takes.new.self c.field.new.self c.in_ok-field.field (c.takes.ensures.taken took) c.in_ok-field.ensures

pub returns : goal.returns
returns c =
    let others : c.takes.result ≡ false = search rules in
    let left = c.takes.ensures.left others in
    all_read c.args.reader.now c.each.fields c.each.reader c.each.invariant left.1 c.takes.new.self left.0
