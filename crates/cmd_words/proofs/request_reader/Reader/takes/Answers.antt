use Rattle.std.proofs.Common.{◌≡◌, ◌+◌, true, false, refl, drop, arith, rules}
use Rattle.byte_text.specs.Names.{is_word}
use Rattle.cmd_words.proofs.Lefts.{behind, one_left, not_next}
use Rattle.cmd_words.proofs.request_reader.Reader.takes.Goals as goal

pub returns-then-not-eq_ignore_ascii_case : goal.returns-then-not-eq_ignore_ascii_case
returns-then-not-eq_ignore_ascii_case c =
    let other : is_word c.word.result.now c.args.called.now ≡ false = search rules in
    (refl, not_next c.args.called.now c.word.result.now (drop (c.self.inside.read + 1) c.self.inside.words.now) c.args.self.now (one_left c.self.inside.words.now c.self.inside.read c.word.result.now c.args.self.now c.self.view_is (omega arith) c.word.ensures) other)

pub returns : goal.returns
returns c =
    let same : is_word c.word.result.now c.args.called.now ≡ true = search rules in
    (c.word.result.now, same, behind c.self.inside.words.now c.self.inside.read c.word.result.now c.args.self.now c.self.view_is (omega arith) c.word.ensures)
