use Rattle.std.specs.Prelude.{Some}
use Rattle.std.proofs.lemmas.Result.{err_from_is_err_and}
use Rattle.world_data.specs.Limits.{max_limit}
use Rattle.world_model.specs.Grammar.{done}
use Rattle.world_model.specs.Kinds.{glob, between}
use Rattle.cmd_words.specs.SearchWords.{value_test, among_test, with_test}
use Rattle.cmd_words.proofs.Binds.{bind_fails}
use Rattle.cmd_words.proofs.Options.{value_read}
use Rattle.cmd_words.proofs.search_options.with_option.Goals as goal

pub returns-in_err-glob-in-Match : goal.returns-in_err-glob-in-Match
returns-in_err-glob-in-Match c =
    let p = err_from_is_err_and c.from_residual.result c.from_residual.ensures.1 in
    rw (p.1, p.2, c.in-Match.is) (bind_fails glob (λ x. done (record c.args.options { glob = Some x })) c.args.reader.now c.glob.new.self c.glob.new.self _ c.in_err-glob-in-Match.ensures)

pub returns-in_ok-glob-in-Match : goal.returns-in_ok-glob-in-Match
returns-in_ok-glob-in-Match c = rw c.in-Match.is (value_read glob (λ o x. record o { glob = Some x }) c.args.options _ c.options.view_is c.args.reader.now c.glob.new.self c.in_ok-glob-in-Match.glob c.in_ok-glob-in-Match.ensures)

pub returns-in_err-cursor-in-Cursor : goal.returns-in_err-cursor-in-Cursor
returns-in_err-cursor-in-Cursor c =
    let p = err_from_is_err_and c.from_residual-in_err-cursor-in-Cursor.result c.from_residual-in_err-cursor-in-Cursor.ensures.1 in
    rw (p.1, p.2, c.in-Cursor.is) (bind_fails (between 0 4294967295) (λ x. done (record c.args.options { cursor = Some x })) c.args.reader.now c.between.new.self c.between.new.self _ c.in_err-cursor-in-Cursor.ensures)

pub returns-in_ok-cursor-in-Cursor : goal.returns-in_ok-cursor-in-Cursor
returns-in_ok-cursor-in-Cursor c = rw c.in-Cursor.is (value_read (between 0 4294967295) (λ o x. record o { cursor = Some x }) c.args.options _ c.options-in-Cursor.view_is c.args.reader.now c.between.new.self c.in_ok-cursor-in-Cursor.cursor c.in_ok-cursor-in-Cursor.ensures)

pub returns-in_err-limit-in-Limit : goal.returns-in_err-limit-in-Limit
returns-in_err-limit-in-Limit c =
    let p = err_from_is_err_and c.from_residual-in_err-limit-in-Limit.result c.from_residual-in_err-limit-in-Limit.ensures.1 in
    rw (p.1, p.2, c.in-Limit.is) (bind_fails (between 1 max_limit) (λ x. done (record c.args.options { limit = Some x })) c.args.reader.now c.between-in-Limit.new.self c.between-in-Limit.new.self _ c.in_err-limit-in-Limit.ensures)

pub returns-in_ok-limit-in-Limit : goal.returns-in_ok-limit-in-Limit
returns-in_ok-limit-in-Limit c = rw c.in-Limit.is (value_read (between 1 max_limit) (λ o x. record o { limit = Some x }) c.args.options _ c.options-in-Limit.view_is c.args.reader.now c.between-in-Limit.new.self c.in_ok-limit-in-Limit.limit c.in_ok-limit-in-Limit.ensures)

pub returns-in_err-test-in-Where : goal.returns-in_err-test-in-Where
returns-in_err-test-in-Where c =
    let p = err_from_is_err_and c.from_residual-in_err-test-in-Where.result c.from_residual-in_err-test-in-Where.ensures.1 in
    rw (p.1, p.2, c.in-Where.is) (bind_fails value_test (λ x. done (with_test c.args.options x)) c.args.reader.now c.value_test.new.self c.value_test.new.self _ c.in_err-test-in-Where.ensures)

pub returns-in_ok-push_test-in-Where : goal.returns-in_ok-push_test-in-Where
returns-in_ok-push_test-in-Where c = rw (c.in-Where.is, c.in_ok-push_test-in-Where.ensures.ok) (value_read value_test with_test c.args.options _ c.options-in-Where.view_is c.args.reader.now c.value_test.new.self c.in_ok-test-in-Where.test c.in_ok-test-in-Where.ensures)

pub returns-in_err-test-in-WhereIn : goal.returns-in_err-test-in-WhereIn
returns-in_err-test-in-WhereIn c =
    let p = err_from_is_err_and c.from_residual-in_err-test-in-WhereIn.result c.from_residual-in_err-test-in-WhereIn.ensures.1 in
    rw (p.1, p.2, c.in-WhereIn.is) (bind_fails among_test (λ x. done (with_test c.args.options x)) c.args.reader.now c.among_test.new.self c.among_test.new.self _ c.in_err-test-in-WhereIn.ensures)

pub returns-in_ok-push_test-in-WhereIn : goal.returns-in_ok-push_test-in-WhereIn
returns-in_ok-push_test-in-WhereIn c = rw (c.in-WhereIn.is, c.in_ok-push_test-in-WhereIn.ensures.ok) (value_read among_test with_test c.args.options _ c.options-in-WhereIn.view_is c.args.reader.now c.among_test.new.self c.in_ok-test-in-WhereIn.test c.in_ok-test-in-WhereIn.ensures)
