use Rattle.std.proofs.Common.{[], ◌∷◌, sym, ap, ◌∙◌}
use Rattle.record_reader.proofs.LeftWords.{nothing_is, not_one}
use Rattle.record_reader.proofs.record_reader.RecordReader.last.Goals as goal

pub returns-in_default : goal.returns-in_default
returns-in_default c = λ w e. nothing_is w [] (sym c.in_default.ensures.1 ∙ e)

pub returns-in-Ok : goal.returns-in-Ok
returns-in-Ok c = c.in-Some.ensures ∙ ap (λ l. c.in-Some.word.now ∷ l) c.in-Ok.ensures

pub returns-in-Err : goal.returns-in-Err
returns-in-Err c = not_one c.args.self.now c.next.new.self c.in-Some.word.now _ c.in-Some.ensures c.in-Err.ensures
