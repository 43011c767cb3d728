use Rattle.std.proofs.lemmas.Result.{err_from_is_err_and}
use Rattle.world_model.specs.Commands.{no_search_options}
use Rattle.cmd_words.specs.SearchWords.{search_table}
use Rattle.cmd_words.proofs.Options.{options_read, goes_further, refused_further}
use Rattle.cmd_words.proofs.SearchWords.{search_laws}
use Rattle.cmd_words.proofs.search_options.read_options.Goals as goal

pub returns-in_err-options : goal.returns-in_err-options
returns-in_err-options c =
    let p = err_from_is_err_and c.from_residual.result c.from_residual.ensures.1 in
    let t = c.in-Some.ensures in
    rw (p.1, p.2) (refused_further (search_table c.args.ordered) (search_laws c.args.ordered) no_search_options c.options.options c.args.reader.now c.options.reader c.option_word.new.reader c.with_option.new.reader c.options.invariant c.in-Some.option t.1 t.0 t.2 t.3 _ c.in_err-options.ensures)

pub options-preserved : goal.options-preserved
options-preserved c =
    let t = c.in-Some.ensures in
    goes_further (search_table c.args.ordered) (search_laws c.args.ordered) no_search_options c.options.options c.args.reader.now c.options.reader c.option_word.new.reader c.with_option.new.reader c.options.invariant c.in-Some.option t.1 t.0 t.2 t.3 _ c.in_ok-options.ensures

pub returns : goal.returns
returns c = options_read (search_table c.args.ordered) (search_laws c.args.ordered) no_search_options c.options.options c.args.reader.now c.options.reader c.option_word.new.reader c.options.invariant c.in_default.ensures
