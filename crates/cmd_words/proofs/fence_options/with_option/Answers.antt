use Rattle.std.specs.Prelude.{Some}
use Rattle.std.proofs.lemmas.Result.{err_from_is_err_and}
use Rattle.world_model.specs.Grammar.{done}
use Rattle.world_model.specs.Kinds.{glob, list_of}
use Rattle.world_model.specs.Commands.{detect_names, command_names}
use Rattle.cmd_words.specs.SearchWords.{value_test, among_test}
use Rattle.cmd_words.specs.FenceWords.{with_test}
use Rattle.cmd_words.proofs.Binds.{bind_fails}
use Rattle.cmd_words.proofs.Options.{value_read}
use Rattle.cmd_words.proofs.fence_options.with_option.Goals as goal

pub returns-in_err-glob-in-Match-clause-reads : goal.returns-in_err-glob-in-Match-clause-reads
returns-in_err-glob-in-Match-clause-reads c =
    let p = err_from_is_err_and c.from_residual.result c.from_residual.ensures.1 in
    rw (p.1, p.2, c.in-Match.is) (bind_fails glob (λ x. done (record c.args.options { glob = Some x })) c.args.reader.now c.glob.new.self c.glob.new.self _ c.in_err-glob-in-Match.ensures)

pub returns-in_ok-glob-in-Match-clause-reads : goal.returns-in_ok-glob-in-Match-clause-reads
returns-in_ok-glob-in-Match-clause-reads c = rw c.in-Match.is (value_read glob (λ o x. record o { glob = Some x }) c.args.options _ c.options.view_is c.args.reader.now c.glob.new.self c.in_ok-glob-in-Match.glob c.in_ok-glob-in-Match.ensures)

pub returns-in_err-test-in-Where-clause-reads : goal.returns-in_err-test-in-Where-clause-reads
returns-in_err-test-in-Where-clause-reads c =
    let p = err_from_is_err_and c.from_residual-in_err-test-in-Where.result c.from_residual-in_err-test-in-Where.ensures.1 in
    rw (p.1, p.2, c.in-Where.is) (bind_fails value_test (λ x. done (with_test c.args.options x)) c.args.reader.now c.value_test.new.self c.value_test.new.self _ c.in_err-test-in-Where.ensures)

pub returns-in_ok-push_test-in-Where-clause-reads : goal.returns-in_ok-push_test-in-Where-clause-reads
returns-in_ok-push_test-in-Where-clause-reads c = rw (c.in-Where.is, c.in_ok-push_test-in-Where.ensures.ok) (value_read value_test with_test c.args.options _ c.options-in-Where.view_is c.args.reader.now c.value_test.new.self c.in_ok-test-in-Where.test c.in_ok-test-in-Where.ensures)

pub returns-in_err-test-in-WhereIn-clause-reads : goal.returns-in_err-test-in-WhereIn-clause-reads
returns-in_err-test-in-WhereIn-clause-reads c =
    let p = err_from_is_err_and c.from_residual-in_err-test-in-WhereIn.result c.from_residual-in_err-test-in-WhereIn.ensures.1 in
    rw (p.1, p.2, c.in-WhereIn.is) (bind_fails among_test (λ x. done (with_test c.args.options x)) c.args.reader.now c.among_test.new.self c.among_test.new.self _ c.in_err-test-in-WhereIn.ensures)

pub returns-in_ok-push_test-in-WhereIn-clause-reads : goal.returns-in_ok-push_test-in-WhereIn-clause-reads
returns-in_ok-push_test-in-WhereIn-clause-reads c = rw (c.in-WhereIn.is, c.in_ok-push_test-in-WhereIn.ensures.ok) (value_read among_test with_test c.args.options _ c.options-in-WhereIn.view_is c.args.reader.now c.among_test.new.self c.in_ok-test-in-WhereIn.test c.in_ok-test-in-WhereIn.ensures)

pub returns-in_err-list-in-Detect-clause-reads : goal.returns-in_err-list-in-Detect-clause-reads
returns-in_err-list-in-Detect-clause-reads c =
    let p = err_from_is_err_and c.from_residual-in_err-list-in-Detect.result c.from_residual-in_err-list-in-Detect.ensures.1 in
    rw (p.1, p.2, c.in-Detect.is) (bind_fails (list_of detect_names) (λ x. done (record c.args.options { detect = Some x })) c.args.reader.now c.list_of.new.self c.list_of.new.self _ c.in_err-list-in-Detect.ensures)

pub returns-in_ok-list-in-Detect-clause-reads : goal.returns-in_ok-list-in-Detect-clause-reads
returns-in_ok-list-in-Detect-clause-reads c = rw c.in-Detect.is (value_read (list_of detect_names) (λ o x. record o { detect = Some x }) c.args.options _ c.options-in-Detect.view_is c.args.reader.now c.list_of.new.self c.in_ok-list-in-Detect.list c.in_ok-list-in-Detect.ensures)

pub returns-in_err-list-in-Commands-clause-reads : goal.returns-in_err-list-in-Commands-clause-reads
returns-in_err-list-in-Commands-clause-reads c =
    let p = err_from_is_err_and c.from_residual-in_err-list-in-Commands.result c.from_residual-in_err-list-in-Commands.ensures.1 in
    rw (p.1, p.2, c.in-Commands.is) (bind_fails (list_of command_names) (λ x. done (record c.args.options { commands = Some x })) c.args.reader.now c.list_of-in-Commands.new.self c.list_of-in-Commands.new.self _ c.in_err-list-in-Commands.ensures)

pub returns-in_ok-list-in-Commands-clause-reads : goal.returns-in_ok-list-in-Commands-clause-reads
returns-in_ok-list-in-Commands-clause-reads c = rw c.in-Commands.is (value_read (list_of command_names) (λ o x. record o { commands = Some x }) c.args.options _ c.options-in-Commands.view_is c.args.reader.now c.list_of-in-Commands.new.self c.in_ok-list-in-Commands.list c.in_ok-list-in-Commands.ensures)
