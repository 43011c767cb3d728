use Rattle.std.proofs.lemmas.Result.{err_from_is_err_and}
use Rattle.cmd_words.specs.Progress.{key_and_id}
use Rattle.cmd_words.specs.Sets.{fields_first, fset_of}
use Rattle.cmd_words.proofs.Ends.{begun_fails}
use Rattle.cmd_words.proofs.FieldLists.{fields_refused, fields_set}
use Rattle.cmd_words.proofs.objects.fset_command.Goals as goal

pub returns-in_err-key : goal.returns-in_err-key
returns-in_err-key c =
    let p = err_from_is_err_and c.from_residual.result c.from_residual.ensures.1 in
    rw (p.1, p.2) (λ h. begun_fails key_and_id (λ k. fields_first (fset_of k)) c.args.reader.now c.key_and_id.new.self _ c.in_err-key.ensures h)

pub returns-in_err-given : goal.returns-in_err-given
returns-in_err-given c =
    let p = err_from_is_err_and c.from_residual-in_err-given.result c.from_residual-in_err-given.ensures.1 in
    rw (p.1, p.2) (λ h. fields_refused c.args.reader.now c.key_and_id.new.self _ c.in_ok-key.ensures h _ c.in_err-given.ensures.err)

pub returns : goal.returns
returns c = λ h.
    let values = c.in_ok-fields.ensures.ok in
    rw (values.0, values.1) (fields_set c.args.reader.now c.key_and_id.new.self _ c.in_ok-key.ensures h c.in_ok-given.given.items c.in_ok-given.ensures.ok)
