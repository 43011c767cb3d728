use Rattle.std.proofs.lemmas.Result.{err_from_is_err_and}
use Rattle.world_model.specs.Kinds.{name}
use Rattle.cmd_words.specs.SearchWords.{behind_name}
use Rattle.cmd_words.proofs.Binds.{bind_fails, bind_then}
use Rattle.cmd_words.proofs.request_reader.Reader.value_test.Goals as goal

pub returns-in_err-name : goal.returns-in_err-name
returns-in_err-name c =
    let p = err_from_is_err_and c.from_residual.result c.from_residual.ensures.1 in
    rw (p.1, p.2) (bind_fails name behind_name c.args.self.now c.name.new.self c.name.new.self _ c.in_err-name.ensures)

pub returns : goal.returns
returns c = bind_then name behind_name c.args.self.now c.name.new.self c.named_test.new.self c.in_ok-name.name c.named_test.result c.in_ok-name.ensures c.named_test.ensures
