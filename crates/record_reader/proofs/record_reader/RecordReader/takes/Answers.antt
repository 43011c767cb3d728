use Rattle.std.proofs.Common.{◌≡◌, false, true, refl, sym, ◌∙◌, arith, drop, ◌+◌}
use Rattle.byte_text.specs.Names.{same}
use Rattle.record_reader.proofs.LeftWords.{next_left, none_left, none_begins, other_begins, taken_word}
use Rattle.record_reader.proofs.record_reader.RecordReader.takes.Goals as goal

pub returns-then-self-words-clause-left : goal.returns-then-self-words-clause-left
returns-then-self-words-clause-left c = λ e.
    (refl, none_begins c.args.called.now c.args.self.now (none_left c.self.inside.words.now c.self.inside.read c.args.self.now c.self.view_is (omega arith)))

pub returns-then-not-is_same-clause-left : goal.returns-then-not-is_same-clause-left
returns-then-not-is_same-clause-left c = λ e.
    let other : same c.word.result.now c.args.called.now ≡ false = sym c.is_same.ensures ∙ c.if-not-is_same.true in (
      refl,
      other_begins c.args.called.now c.word.result.now c.args.self.now (drop (c.self.inside.read + 1) c.self.inside.words.now)
          (next_left c.self.inside.words.now c.self.inside.read c.args.self.now c.self.view_is c.word.result.now (omega arith) c.word.ensures) other,
    )

pub returns-clause-taken : goal.returns-clause-taken
returns-clause-taken c = λ e.
    let is : same c.word.result.now c.args.called.now ≡ true = sym c.is_same.ensures ∙ c.if-not-is_same.false in
    taken_word c.args.called.now c.word.result.now c.args.self.now (drop (c.self.inside.read + 1) c.self.inside.words.now)
    (next_left c.self.inside.words.now c.self.inside.read c.args.self.now c.self.view_is c.word.result.now (omega arith) c.word.ensures) is
