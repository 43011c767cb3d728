use Rattle.std.proofs.Common.{arith}
use Rattle.cmd_words.proofs.Lefts.{behind}
use Rattle.cmd_words.proofs.request_reader.Reader.next.Goals as goal

pub returns-then-self-words : goal.returns-then-self-words
returns-then-self-words c = behind c.self.inside.words.now c.self.inside.read _ c.args.self.now c.self.view_is (omega arith) c.word-word.ensures
