use Rattle.std.proofs.Common.{refl}
use Rattle.std.specs.Prelude.{ℕ, Ok, Err}
use Rattle.std.proofs.lemmas.Result.{err_from_is_err_and}
use Rattle.byte_text.specs.Names.{Bytes}
use Rattle.world_data.specs.Limits.{max_values}
use Rattle.world_model.specs.Grammar.{Form, ◌>>=◌, done, times}
use Rattle.world_model.specs.Kinds.{name, between, value}
use Rattle.world_data.specs.declared.filters.Test.{Test}
use Rattle.world_data.specs.declared.filters.Test.TheVariants.{Among}
use Rattle.cmd_words.proofs.Binds.{bind_fails, bind_then, bind_done}
use Rattle.cmd_words.proofs.request_reader.Reader.among_test.Goals as goal

-- what is due behind the name, and behind the number of values
abbrev behind_count : Bytes → ℕ → Form Test
behind_count n count = times count value >>= λ values. done (Among n values)

abbrev behind_name : Bytes → Form Test
behind_name n = between 1 max_values >>= behind_count n

pub returns-in_err-name : goal.returns-in_err-name
returns-in_err-name c =
    let p = err_from_is_err_and c.from_residual.result c.from_residual.ensures.1 in
    rw (p.1, p.2) (bind_fails name behind_name c.args.self.now c.name.new.self c.name.new.self _ c.in_err-name.ensures)

pub returns-in_err-count : goal.returns-in_err-count
returns-in_err-count c =
    let p = err_from_is_err_and c.from_residual-in_err-count.result c.from_residual-in_err-count.ensures.1 in
    rw (p.1, p.2) (bind_then name behind_name c.args.self.now c.name.new.self c.between.new.self c.in_ok-name.name (Err _) c.in_ok-name.ensures
    (bind_fails (between 1 max_values) (behind_count c.in_ok-name.name) c.name.new.self c.between.new.self c.between.new.self _ c.in_err-count.ensures))

pub returns-in_err-values : goal.returns-in_err-values
returns-in_err-values c =
    let p = err_from_is_err_and c.from_residual-in_err-values.result c.from_residual-in_err-values.ensures.1 in
    rw (p.1, p.2) (bind_then name behind_name c.args.self.now c.name.new.self c.values.new.self c.in_ok-name.name (Err _) c.in_ok-name.ensures
    (bind_then (between 1 max_values) (behind_count c.in_ok-name.name) c.name.new.self c.between.new.self c.values.new.self c.in_ok-count.count (Err _) c.in_ok-count.ensures
    (bind_fails (times c.in_ok-count.count value) (λ values. done (Among c.in_ok-name.name values)) c.between.new.self c.values.new.self c.values.new.self _ c.in_err-values.ensures)))

pub returns : goal.returns
returns c =
    bind_then name behind_name c.args.self.now c.name.new.self c.values.new.self c.in_ok-name.name (Ok (Among c.in_ok-name.name c.in_ok-values.values)) c.in_ok-name.ensures
    (bind_then (between 1 max_values) (behind_count c.in_ok-name.name) c.name.new.self c.between.new.self c.values.new.self c.in_ok-count.count (Ok (Among c.in_ok-name.name c.in_ok-values.values)) c.in_ok-count.ensures
    (bind_done (times c.in_ok-count.count value) (λ values. done (Among c.in_ok-name.name values)) c.between.new.self c.values.new.self c.in_ok-values.values (Among c.in_ok-name.name c.in_ok-values.values) refl c.in_ok-values.ensures))
