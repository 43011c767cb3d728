use Rattle.std.specs.Prelude.{false}
use Rattle.std.proofs.lemmas.Result.{err_from_is_err_and}
use Rattle.cmd_words.specs.Progress.{a_name}
use Rattle.cmd_words.specs.Searches.{nearby_point, behind_nearby}
use Rattle.cmd_words.proofs.Ends.{begun_fails}
use Rattle.world_model.specs.Commands.{no_search_options}
use Rattle.cmd_words.specs.SearchWords.{search_table}
use Rattle.cmd_words.proofs.Options.{options_refused}
use Rattle.cmd_words.proofs.SearchWords.{search_laws}
use Rattle.cmd_words.proofs.SearchCommands.{no_option_point, nearby_refused, nearby_not_ended, nearby_read}
use Rattle.cmd_words.proofs.searches.nearby_command.Goals as goal

pub returns-in_err-key : goal.returns-in_err-key
returns-in_err-key c =
    let p = err_from_is_err_and c.from_residual.result c.from_residual.ensures.1 in
    rw (p.1, p.2) (λ h. begun_fails a_name behind_nearby c.args.reader.now c.name.new.self _ c.in_err-key.ensures h)

pub returns-in_err-options : goal.returns-in_err-options
returns-in_err-options c =
    let p = err_from_is_err_and c.from_residual-in_err-options.result c.from_residual-in_err-options.ensures.1 in
    rw (p.1, p.2) (λ h. options_refused (search_table false) (search_laws false) no_search_options nearby_point no_option_point c.args.reader.now c.name.new.self _ c.in_ok-key.ensures h _ c.in_err-options.ensures)

pub returns-in_err-shown : goal.returns-in_err-shown
returns-in_err-shown c =
    let p = err_from_is_err_and c.from_residual-in_err-shown.result c.from_residual-in_err-shown.ensures.1 in
    rw (p.1, p.2) (λ h. nearby_refused c.args.reader.now c.name.new.self _ c.in_ok-key.ensures h c.read_options.new.reader c.read_output_and_point.new.reader c.in_ok-options.options c.in_ok-options.ensures _ c.in_err-shown.ensures)

pub returns-in_err-reach : goal.returns-in_err-reach
returns-in_err-reach c =
    let p = err_from_is_err_and c.from_residual-in_err-reach.result c.from_residual-in_err-reach.ensures.1 in
    rw (p.1, p.2) (λ h. nearby_not_ended c.args.reader.now c.name.new.self _ c.in_ok-key.ensures h c.read_options.new.reader c.read_output_and_point.new.reader c.in_ok-options.options c.in_ok-options.ensures _ c.in_ok-shown.ensures _ c.in_err-reach.ensures)

pub returns : goal.returns
returns c = λ h. rw c.query.ensures (nearby_read c.args.reader.now c.name.new.self _ c.in_ok-key.ensures h c.read_options.new.reader c.read_output_and_point.new.reader c.in_ok-options.options c.in_ok-options.ensures _ c.in_ok-shown.ensures c.in_ok-reach.reach c.in_ok-reach.ensures)
