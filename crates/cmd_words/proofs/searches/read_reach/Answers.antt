use Rattle.std.proofs.lemmas.Result.{err_from_is_err_and}
use Rattle.cmd_words.proofs.SearchCommands.{no_reach, reach_refused, reach_not_ended, reach_read}
use Rattle.cmd_words.proofs.searches.read_reach.Goals as goal

pub returns-in_default : goal.returns-in_default
returns-in_default c = no_reach c.args.reader.now c.in_default.ensures.1

pub returns-in_err-reach : goal.returns-in_err-reach
returns-in_err-reach c =
    let p = err_from_is_err_and c.from_residual.result c.from_residual.ensures.1 in
    rw (p.1, p.2) (reach_refused c.args.reader.now c.next.new.self c.in-Some.word.now c.in-Some.ensures _ c.in_err-reach.ensures)

pub returns-in_err-end : goal.returns-in_err-end
returns-in_err-end c =
    let p = err_from_is_err_and c.from_residual-in_err-end.result c.from_residual-in_err-end.ensures.1 in
    rw (p.1, p.2) (reach_not_ended c.args.reader.now c.next.new.self c.in-Some.word.now c.in-Some.ensures c.in_ok-reach.reach c.in_ok-reach.ensures _ c.in_err-end.ensures)

pub returns : goal.returns
returns c = reach_read c.args.reader.now c.next.new.self c.in-Some.word.now c.in-Some.ensures c.in_ok-reach.reach c.in_ok-reach.ensures c.in_ok-end.ensures
