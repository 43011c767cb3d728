use Rattle.std.proofs.lemmas.Result.{err_from_is_err_and}
use Rattle.cmd_words.specs.Progress.{key_and_id, get_options}
use Rattle.cmd_words.proofs.Ends.{begun_fails, get_faults, get_objects, get_refused, get_read}
use Rattle.cmd_words.proofs.objects.get_command.Goals as goal

pub returns-in_err-key : goal.returns-in_err-key
returns-in_err-key c =
    let p = err_from_is_err_and c.from_residual.result c.from_residual.ensures.1 in
    rw (p.1, p.2) (λ h. begun_fails key_and_id get_options c.args.reader.now c.key_and_id.new.self _ c.in_err-key.ensures h)

pub returns-in_err-stop : goal.returns-in_err-stop
returns-in_err-stop c =
    let p = err_from_is_err_and c.from_residual-in_err-stop.result c.from_residual-in_err-stop.ensures.1 in
    rw (p.1, p.2) (λ h. get_faults c.args.reader.now c.key_and_id.new.self c.takes-with_fields.new.self c.shown.new.self _ _ _ c.in_ok-key.ensures c.takes-with_fields.ensures h _ c.in_default.ensures c.in_err-stop.ensures)

pub returns-in_default : goal.returns-in_default
returns-in_default c = λ h. get_objects c.args.reader.now c.key_and_id.new.self c.takes-with_fields.new.self c.shown.new.self _ _ _ c.in_ok-key.ensures c.takes-with_fields.ensures h c.in_default.ensures c.in_ok-stop.ensures

pub returns-in_err-end : goal.returns-in_err-end
returns-in_err-end c =
    let p = err_from_is_err_and c.from_residual-in_err-end.result c.from_residual-in_err-end.ensures.1 in
    rw (p.1, p.2) (λ h. get_refused c.args.reader.now c.key_and_id.new.self c.takes-with_fields.new.self c.shown.new.self _ _ _ c.in_ok-key.ensures c.takes-with_fields.ensures h _ _ c.in-Some.ensures c.in_err-end.ensures)

pub returns : goal.returns
returns c = λ h. get_read c.args.reader.now c.key_and_id.new.self c.takes-with_fields.new.self c.shown.new.self _ _ _ c.in_ok-key.ensures c.takes-with_fields.ensures h _ c.in-Some.ensures c.in_ok-end.ensures
