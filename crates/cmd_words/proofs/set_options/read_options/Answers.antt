use Rattle.std.proofs.lemmas.Result.{err_from_is_err_and}
use Rattle.cmd_words.specs.Sets.{no_options}
use Rattle.cmd_words.proofs.OptionWords.{goes_further, refused_further, options_done}
use Rattle.cmd_words.proofs.set_options.read_options.Goals as goal

pub returns-in_err-read_option : goal.returns-in_err-read_option
returns-in_err-read_option c =
    let p = err_from_is_err_and c.from_residual.result c.from_residual.ensures.1 in
    rw (p.1, p.2) (refused_further no_options c.options.options c.args.reader.now c.options.reader _ c.options.invariant c.in_err-read_option.ensures)

pub options-preserved : goal.options-preserved
options-preserved c =
    let read = rw c.if-branch.true at c.in_ok-read_option.ensures in
    goes_further no_options c.options.options c.read_option.new.options c.args.reader.now c.options.reader c.read_option.new.reader c.options.invariant read.0

pub returns : goal.returns
returns c =
    let read = rw c.if-branch.false at c.in_ok-read_option.ensures in
    options_done no_options c.options.options c.read_option.new.options c.args.reader.now c.options.reader c.read_option.new.reader c.options.invariant read
