use Rattle.std.proofs.Common.{◌∙◌, ap, sym}
use Rattle.std.specs.Prelude.{Ok, true}
use Rattle.std.proofs.lemmas.Result.{err_from_is_err_and}
use Rattle.cmd_words.specs.Progress.{a_name}
use Rattle.cmd_words.specs.Scans.{scan_output, behind_scan}
use Rattle.cmd_words.proofs.Ends.{begun_fails}
use Rattle.world_model.specs.Commands.{no_search_options}
use Rattle.cmd_words.specs.SearchWords.{search_table}
use Rattle.cmd_words.proofs.Options.{options_refused}
use Rattle.cmd_words.proofs.SearchWords.{search_laws}
use Rattle.cmd_words.proofs.ScanWords.{no_option_word, bare_read, more_refused, output_refused, output_read}
use Rattle.cmd_words.proofs.scans.scan_command.Goals as goal

pub returns-in_err-key : goal.returns-in_err-key
returns-in_err-key c =
    let p = err_from_is_err_and c.from_residual.result c.from_residual.ensures.1 in
    rw (p.1, p.2) (λ h. begun_fails a_name behind_scan c.args.reader.now c.name.new.self _ c.in_err-key.ensures h)

pub returns-in_err-options : goal.returns-in_err-options
returns-in_err-options c =
    let p = err_from_is_err_and c.from_residual-in_err-options.result c.from_residual-in_err-options.ensures.1 in
    rw (p.1, p.2) (λ h. options_refused (search_table true) (search_laws true) no_search_options scan_output no_option_word c.args.reader.now c.name.new.self _ c.in_ok-key.ensures h _ c.in_err-options.ensures)

pub returns-in_err-stop : goal.returns-in_err-stop
returns-in_err-stop c =
    let p = err_from_is_err_and c.from_residual-in_err-stop.result c.from_residual-in_err-stop.ensures.1 in
    rw (p.1, p.2) (λ h. more_refused c.args.reader.now c.name.new.self _ c.in_ok-key.ensures h c.read_options.new.reader c.output.new.self c.in_ok-options.options c.in_ok-options.ensures _ c.in_default.ensures c.in_err-stop.ensures)

pub returns-in_default : goal.returns-in_default
returns-in_default c = λ h. bare_read c.args.reader.now c.name.new.self _ c.in_ok-key.ensures h c.read_options.new.reader c.output.new.self c.in_ok-options.options c.in_ok-options.ensures c.in_default.ensures c.in_ok-stop.ensures ∙ ap Ok (sym c.scan_of.ensures)

pub returns-in_err-end : goal.returns-in_err-end
returns-in_err-end c =
    let p = err_from_is_err_and c.from_residual-in_err-end.result c.from_residual-in_err-end.ensures.1 in
    rw (p.1, p.2) (λ h. output_refused c.args.reader.now c.name.new.self _ c.in_ok-key.ensures h c.read_options.new.reader c.output.new.self c.in_ok-options.options c.in_ok-options.ensures c.in-Some.shown c.in-Some.ensures _ c.in_err-end.ensures)

pub returns : goal.returns
returns c = λ h. output_read c.args.reader.now c.name.new.self _ c.in_ok-key.ensures h c.read_options.new.reader c.output.new.self c.in_ok-options.options c.in_ok-options.ensures c.in-Some.shown c.in-Some.ensures c.in_ok-end.ensures ∙ ap Ok (sym c.scan_of-2.ensures)
