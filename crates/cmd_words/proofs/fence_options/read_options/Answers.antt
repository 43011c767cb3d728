use Rattle.std.proofs.lemmas.Result.{err_from_is_err_and}
use Rattle.world_model.specs.Commands.{no_fence_options}
use Rattle.cmd_words.specs.FenceWords.{fence_table}
use Rattle.cmd_words.proofs.Options.{options_read, goes_further, refused_further}
use Rattle.cmd_words.proofs.FenceWords.{fence_laws}
use Rattle.cmd_words.proofs.fence_options.read_options.Goals as goal

pub returns-in_err-options-clause-reads : goal.returns-in_err-options-clause-reads
returns-in_err-options-clause-reads c =
    let p = err_from_is_err_and c.from_residual.result c.from_residual.ensures.1 in
    let t = c.in-Some.ensures in
    rw (p.1, p.2) (refused_further (fence_table c.args.near) (fence_laws c.args.near) no_fence_options c.options.options c.args.reader.now c.options.reader c.option_word.new.reader c.with_option.new.reader c.options.invariant.0 c.in-Some.option t.1 t.0 t.2 t.3 _ c.in_err-options.ensures.reads)

pub options-preserved : goal.options-preserved
options-preserved c =
    let t = c.in-Some.ensures in (
      goes_further (fence_table c.args.near) (fence_laws c.args.near) no_fence_options c.options.options c.args.reader.now c.options.reader c.option_word.new.reader c.with_option.new.reader c.options.invariant.0 c.in-Some.option t.1 t.0 t.2 t.3 _ c.in_ok-options.ensures.reads,
      c.in_ok-options.ensures.apart c.args.near t.0 c.options.invariant.1,
    )

pub returns-clause-reads : goal.returns-clause-reads
returns-clause-reads c = options_read (fence_table c.args.near) (fence_laws c.args.near) no_fence_options c.options.options c.args.reader.now c.options.reader c.option_word.new.reader c.options.invariant.0 c.in_default.ensures
