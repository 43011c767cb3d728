use Rattle.std.proofs.Common.{subst, arith}
use Rattle.cmd_words.specs.Progress.{all_words, IsRefusal}
use Rattle.cmd_words.proofs.Lefts.{some_left}
use Rattle.cmd_words.proofs.request_reader.Reader.stop.Goals as goal

pub returns-else-self-words : goal.returns-else-self-words
returns-else-self-words c =
    let s = some_left c.self.inside.words.now c.self.inside.read c.args.self.now c.self.view_is (omega arith) in
    (s.0, s.1, s.2, subst (λ left. IsRefusal (all_words c.args.self.now) left c.refusal.result) s.2 c.refusal.ensures)
