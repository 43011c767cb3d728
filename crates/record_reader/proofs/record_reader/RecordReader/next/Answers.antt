use Rattle.std.proofs.Common.{arith}
use Rattle.record_reader.proofs.LeftWords.{next_left, none_left}
use Rattle.record_reader.proofs.record_reader.RecordReader.next.Goals as goal

pub returns-then-self-words : goal.returns-then-self-words
returns-then-self-words c = next_left c.self.inside.words.now c.self.inside.read c.args.self.now c.self.view_is _ (omega arith) c.word-word.ensures

pub returns-else-self-words : goal.returns-else-self-words
returns-else-self-words c =
    let none = none_left c.self.inside.words.now c.self.inside.read c.args.self.now c.self.view_is (omega arith) in
    (none, none)
