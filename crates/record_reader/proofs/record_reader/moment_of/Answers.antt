use Rattle.std.proofs.Common.{[], ap, arith}
use Rattle.std.specs.Prelude.{decimal}
use Rattle.record_reader.specs.Reading.{one_word}
use Rattle.record_reader.proofs.LeftWords.{heads_same}
use Rattle.record_reader.proofs.record_reader.moment_of.Goals as goal

pub returns-in-Ok : goal.returns-in-Ok
returns-in-Ok c = (ap one_word c.in-Ok.ensures.text, omega arith)

pub returns-in-Err : goal.returns-in-Err
returns-in-Err c = λ n behind fit e.
    let read = c.in-Err.ensures.exact n fit (heads_same c.args.word.now (decimal n) [] behind e) in
    absurd (cc read)
