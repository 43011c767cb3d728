use Rattle.std.proofs.lemmas.Result.{err_from_is_err_and}
use Rattle.cmd_words.proofs.Ends.{key_fails, id_fails, both_read}
use Rattle.cmd_words.proofs.request_reader.Reader.key_and_id.Goals as goal

pub returns-in_err-key : goal.returns-in_err-key
returns-in_err-key c =
    let p = err_from_is_err_and c.from_residual.result c.from_residual.ensures.1 in
    rw (p.1, p.2) (key_fails c.args.self.now c.name.new.self _ c.in_err-key.ensures)

pub returns-in_err-id : goal.returns-in_err-id
returns-in_err-id c =
    let p = err_from_is_err_and c.from_residual-in_err-id.result c.from_residual-in_err-id.ensures.1 in
    rw (p.1, p.2) (id_fails c.args.self.now c.name.new.self c.name-2.new.self _ _ c.in_ok-key.ensures c.in_err-id.ensures)

pub returns : goal.returns
returns c = both_read c.args.self.now c.name.new.self c.name-2.new.self _ _ c.in_ok-key.ensures c.in_ok-id.ensures
