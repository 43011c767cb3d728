use Rattle.std.proofs.Common.{◌-◌, ◌+◌, arith}
use Rattle.std.proofs.lemmas.Result.{err_from_is_err_and}
use Rattle.cmd_words.proofs.ValueLists.{begun, value_refused, one_more, all_read}
use Rattle.cmd_words.proofs.request_reader.Reader.values.Goals as goal

pub loop-init : goal.loop-init
loop-init c = begun c.args.count (c.args.count - 0) c.args.self.now _ (omega arith) c.new-values.ensures

pub returns-in_err-value : goal.returns-in_err-value
returns-in_err-value c =
    let p = err_from_is_err_and c.from_residual.result c.from_residual.ensures.1 in
    rw (p.1, p.2) (value_refused c.args.count c.args.self.now c.loop.self (c.args.count - c.loop.counter) (c.args.count - (c.loop.counter + 1)) c.loop.values c.loop.invariant (omega arith) c.value.new.self _ c.in_err-value.ensures)

pub loop-preserved : goal.loop-preserved
loop-preserved c =
    one_more c.args.count c.args.self.now c.loop.self (c.args.count - c.loop.counter) (c.args.count - (c.loop.counter + 1)) c.loop.values c.loop.invariant (omega arith) c.value.new.self c.in_ok-value.value _ c.in_ok-value.ensures c.in_ok-push_value.ensures.ok

pub returns : goal.returns
returns c = all_read c.args.count c.args.self.now c.loop.self (c.args.count - c.loop.counter) c.loop.values c.loop.invariant (omega arith)
