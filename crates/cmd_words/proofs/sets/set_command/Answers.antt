use Rattle.std.proofs.lemmas.Result.{err_from_is_err_and}
use Rattle.cmd_words.specs.Progress.{key_and_id}
use Rattle.cmd_words.specs.Sets.{behind_set}
use Rattle.cmd_words.proofs.Ends.{begun_fails}
use Rattle.cmd_words.proofs.SetWords.{options_refused, place_refused, more_refused, put_asked}
use Rattle.cmd_words.proofs.sets.set_command.Goals as goal

pub returns-in_err-key : goal.returns-in_err-key
returns-in_err-key c =
    let p = err_from_is_err_and c.from_residual.result c.from_residual.ensures.1 in
    rw (p.1, p.2) (λ h. begun_fails key_and_id behind_set c.args.reader.now c.key_and_id.new.self _ c.in_err-key.ensures h)

pub returns-in_err-options : goal.returns-in_err-options
returns-in_err-options c =
    let p = err_from_is_err_and c.from_residual-in_err-options.result c.from_residual-in_err-options.ensures.1 in
    rw (p.1, p.2) (λ h. options_refused c.args.reader.now c.key_and_id.new.self _ c.in_ok-key.ensures h _ c.in_err-options.ensures)

pub returns-in_err-text : goal.returns-in_err-text
returns-in_err-text c =
    let p = err_from_is_err_and c.from_residual-in_err-text.result c.from_residual-in_err-text.ensures.1 in
    rw (p.1, p.2) (λ h. place_refused c.args.reader.now c.key_and_id.new.self _ c.in_ok-key.ensures h c.read_options.new.reader c.in_ok-options.options c.in_ok-options.ensures _ (c.in_err-text.ensures c.in_ok-options.options c.in_ok-options.ensures.1))

pub returns-in_err-end : goal.returns-in_err-end
returns-in_err-end c =
    let p = err_from_is_err_and c.from_residual-in_err-end.result c.from_residual-in_err-end.ensures.1 in
    rw (p.1, p.2) (λ h. more_refused c.args.reader.now c.key_and_id.new.self _ c.in_ok-key.ensures h c.read_options.new.reader c.in_ok-options.options c.in_ok-options.ensures
    c.read_place.new.reader _ (c.in_ok-text.ensures c.in_ok-options.options c.in_ok-options.ensures.1) _ c.in_err-end.ensures)

pub returns : goal.returns
returns c = λ h. put_asked c.args.reader.now c.key_and_id.new.self _ c.in_ok-key.ensures h c.read_options.new.reader c.in_ok-options.options c.in_ok-options.ensures
    c.read_place.new.reader _ (c.in_ok-text.ensures c.in_ok-options.options c.in_ok-options.ensures.1) c.put_command.result c.in_ok-end.ensures c.put_command.ensures.ok c.put_command.ensures.err
