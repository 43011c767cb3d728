use Rattle.std.specs.Prelude.{false}
use Rattle.std.proofs.lemmas.Result.{err_from_is_err_and}
use Rattle.cmd_words.specs.Progress.{a_name}
use Rattle.cmd_words.specs.Searches.{search_area, behind_search}
use Rattle.cmd_words.proofs.Ends.{begun_fails}
use Rattle.world_model.specs.Commands.{no_search_options}
use Rattle.cmd_words.specs.SearchWords.{search_table}
use Rattle.cmd_words.proofs.Options.{options_refused}
use Rattle.cmd_words.proofs.SearchWords.{search_laws}
use Rattle.cmd_words.proofs.SearchCommands.{no_option_word, search_refused, search_not_ended, search_read}
use Rattle.cmd_words.proofs.searches.area_command.Goals as goal

pub returns-in_err-key : goal.returns-in_err-key
returns-in_err-key c =
    let p = err_from_is_err_and c.from_residual.result c.from_residual.ensures.1 in
    rw (p.1, p.2) (λ h. begun_fails a_name (behind_search c.args.kind) c.args.reader.now c.name.new.self _ c.in_err-key.ensures h)

pub returns-in_err-options : goal.returns-in_err-options
returns-in_err-options c =
    let p = err_from_is_err_and c.from_residual-in_err-options.result c.from_residual-in_err-options.ensures.1 in
    rw (p.1, p.2) (λ h. options_refused (search_table false) (search_laws false) no_search_options (search_area c.args.kind) (no_option_word c.args.kind) c.args.reader.now c.name.new.self _ c.in_ok-key.ensures h _ c.in_err-options.ensures)

pub returns-in_err-shown : goal.returns-in_err-shown
returns-in_err-shown c =
    let p = err_from_is_err_and c.from_residual-in_err-shown.result c.from_residual-in_err-shown.ensures.1 in
    rw (p.1, p.2) (λ h. search_refused c.args.kind c.args.reader.now c.name.new.self _ c.in_ok-key.ensures h c.read_options.new.reader c.read_output_and_area.new.reader c.in_ok-options.options c.in_ok-options.ensures _ c.in_err-shown.ensures)

pub returns-in_err-end : goal.returns-in_err-end
returns-in_err-end c =
    let p = err_from_is_err_and c.from_residual-in_err-end.result c.from_residual-in_err-end.ensures.1 in
    rw (p.1, p.2) (λ h. search_not_ended c.args.kind c.args.reader.now c.name.new.self _ c.in_ok-key.ensures h c.read_options.new.reader c.read_output_and_area.new.reader c.in_ok-options.options c.in_ok-options.ensures _ c.in_ok-shown.ensures _ c.in_err-end.ensures)

pub returns : goal.returns
returns c = λ h. rw (c.query.ensures, c.parts-area.ensures) (search_read c.args.kind c.args.reader.now c.name.new.self _ c.in_ok-key.ensures h c.read_options.new.reader c.read_output_and_area.new.reader c.in_ok-options.options c.in_ok-options.ensures _ c.in_ok-shown.ensures c.in_ok-end.ensures)
