use Rattle.std.proofs.Common.{arith}
use Rattle.record_reader.proofs.LeftWords.{none_left, more_left}
use Rattle.record_reader.proofs.record_reader.RecordReader.end.Goals as goal

pub returns-then-self-words : goal.returns-then-self-words
returns-then-self-words c = none_left c.self.inside.words.now c.self.inside.read c.args.self.now c.self.view_is (omega arith)

pub returns-else-self-words : goal.returns-else-self-words
returns-else-self-words c = more_left c.self.inside.words.now c.self.inside.read c.args.self.now c.self.view_is (omega arith)
