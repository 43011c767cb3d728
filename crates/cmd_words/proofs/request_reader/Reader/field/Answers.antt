use Rattle.std.proofs.Common.{refl}
use Rattle.std.specs.Prelude.{Ok, Err}
use Rattle.std.proofs.lemmas.Result.{err_from_is_err_and}
use Rattle.world_model.specs.Grammar.{◌>>=◌, done}
use Rattle.world_model.specs.Kinds.{name, value}
use Rattle.cmd_words.proofs.Binds.{bind_fails, bind_then, bind_done}
use Rattle.cmd_words.proofs.request_reader.Reader.field.Goals as goal

pub returns-in_err-name : goal.returns-in_err-name
returns-in_err-name c =
    let p = err_from_is_err_and c.from_residual.result c.from_residual.ensures.1 in
    rw (p.1, p.2) (bind_fails name (λ n. value >>= λ v. done (n, v)) c.args.self.now c.name.new.self c.name.new.self _ c.in_err-name.ensures)

pub returns-in_err-value : goal.returns-in_err-value
returns-in_err-value c =
    let p = err_from_is_err_and c.from_residual-in_err-value.result c.from_residual-in_err-value.ensures.1 in
    rw (p.1, p.2) (bind_then name (λ n. value >>= λ v. done (n, v)) c.args.self.now c.name.new.self c.value.new.self c.in_ok-name.name (Err _) c.in_ok-name.ensures
    (bind_fails value (λ v. done (c.in_ok-name.name, v)) c.name.new.self c.value.new.self c.value.new.self _ c.in_err-value.ensures))

pub returns : goal.returns
returns c =
    bind_then name (λ n. value >>= λ v. done (n, v)) c.args.self.now c.name.new.self c.value.new.self c.in_ok-name.name (Ok (c.in_ok-name.name, c.in_ok-value.value)) c.in_ok-name.ensures
    (bind_done value (λ v. done (c.in_ok-name.name, v)) c.name.new.self c.value.new.self c.in_ok-value.value (c.in_ok-name.name, c.in_ok-value.value) refl c.in_ok-value.ensures)
