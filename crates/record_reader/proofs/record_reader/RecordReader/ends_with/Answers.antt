use Rattle.std.proofs.Common.{arith}
use Rattle.record_reader.proofs.LeftWords.{fails_at, goes_at, ends_at}
use Rattle.record_reader.proofs.record_reader.RecordReader.ends_with.Goals as goal

pub returns-then-not-takes : goal.returns-then-not-takes
returns-then-not-takes c =
    let left = c.takes.ensures.left c.if-not-takes.true in
    fails_at c.args.words.now c.args.self.now c.loop-at.self c.loop-at.at c.loop-at.invariant c.word.result.now (omega (arith, c.loop-at-test.true, c.words-at-end.ensures.count)) c.word.ensures left.1

pub loop-at-preserved : goal.loop-at-preserved
loop-at-preserved c =
    goes_at c.args.words.now c.args.self.now c.loop-at.self c.loop-at.at c.loop-at.invariant c.word.result.now c.takes.new.self (omega (arith, c.loop-at-test.true, c.words-at-end.ensures.count)) c.word.ensures
    (c.takes.ensures.taken c.if-not-takes.false)

pub returns : goal.returns
returns c = ends_at c.args.words.now c.args.self.now c.loop-at.self c.loop-at.at c.loop-at.invariant c.end.result c.is_ok.result (omega (arith, c.loop-at-test.false, c.words-at-end.ensures.count)) c.end.ensures c.is_ok.ensures.value
