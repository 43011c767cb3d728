use Rattle.std.proofs.Common.{◌+◌, drop, arith}
use Rattle.cmd_words.specs.Progress.{all_words}
use Rattle.cmd_words.proofs.Lefts.{one_left, refused_next}
use Rattle.cmd_words.proofs.request_reader.Reader.refusal.Goals as goal

pub returns-else-self-words : goal.returns-else-self-words
returns-else-self-words c = refused_next (all_words c.args.self.now) c.args.self.now c.word.result.now (drop (c.self.inside.read + 1) c.self.inside.words.now) c.invalid.result (one_left c.self.inside.words.now c.self.inside.read c.word.result.now c.args.self.now c.self.view_is (omega arith) c.word.ensures) c.invalid.ensures
