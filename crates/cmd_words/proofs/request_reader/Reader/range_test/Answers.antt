use Rattle.std.proofs.Common.{refl}
use Rattle.std.proofs.lemmas.Result.{err_from_is_err_and}
use Rattle.world_model.specs.Grammar.{done}
use Rattle.world_model.specs.Kinds.{bound}
use Rattle.world_data.specs.declared.filters.Test.TheVariants.{Range}
use Rattle.cmd_words.proofs.Binds.{bind_fails, bind_done}
use Rattle.cmd_words.proofs.request_reader.Reader.range_test.Goals as goal

pub returns-in_err-high : goal.returns-in_err-high
returns-in_err-high c =
    let p = err_from_is_err_and c.from_residual.result c.from_residual.ensures.1 in
    rw (p.1, p.2) (bind_fails bound (λ high. done (Range c.args.name c.args.low high)) c.args.self.now c.bound.new.self c.bound.new.self _ c.in_err-high.ensures)

pub returns : goal.returns
returns c = bind_done bound (λ high. done (Range c.args.name c.args.low high)) c.args.self.now c.bound.new.self c.in_ok-high.high (Range c.args.name c.args.low c.in_ok-high.high) refl c.in_ok-high.ensures
