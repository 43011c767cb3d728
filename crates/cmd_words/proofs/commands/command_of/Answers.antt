use Rattle.std.specs.Prelude.{Err}
use Rattle.cmd_words.proofs.Asks.{ok_answered, err_answered, one_read, named_answers, unnamed_answers, empty_answers}
use Rattle.cmd_words.proofs.commands.command_of.Goals as goal

pub read_named-requires : goal.read_named-requires
read_named-requires c = (c.in-Some.called.now, one_read c.args.words.now c.new-reader.result c.next.new.self c.in-Some.called.now c.new-reader.ensures c.in-Some.ensures, c.in-Some-command_named.ensures.some)

pub returns-in_default-clause-err : goal.returns-in_default-clause-err
returns-in_default-clause-err c = err_answered c.args.words.now (Err c.wrong_count.result) (empty_answers c.args.words.now c.new-reader.result c.next.new.self c.new-reader.ensures c.in_default.ensures c.wrong_count.result c.wrong_count.ensures)

pub returns-in-Some-command_named-clause-ok : goal.returns-in-Some-command_named-clause-ok
returns-in-Some-command_named-clause-ok c = ok_answered c.args.words.now c.read_named.result (named_answers c.args.words.now c.new-reader.result c.next.new.self c.in-Some.called.now c.new-reader.ensures c.in-Some.ensures c.read_named.result c.read_named.ensures)

pub returns-in-Some-command_named-clause-err : goal.returns-in-Some-command_named-clause-err
returns-in-Some-command_named-clause-err c = err_answered c.args.words.now c.read_named.result (named_answers c.args.words.now c.new-reader.result c.next.new.self c.in-Some.called.now c.new-reader.ensures c.in-Some.ensures c.read_named.result c.read_named.ensures)

pub returns-in-None-clause-err : goal.returns-in-None-clause-err
returns-in-None-clause-err c = err_answered c.args.words.now (Err c.unknown.result) (unnamed_answers c.args.words.now c.new-reader.result c.next.new.self c.in-Some.called.now c.new-reader.ensures c.in-Some.ensures c.unknown.result c.in-None.ensures.none c.unknown.ensures)
