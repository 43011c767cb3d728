use Rattle.std.proofs.Common.{◌≡◌, List, subst}
use Rattle.std.specs.Prelude.{IfOk}
use Rattle.work_gen.specs.Draws.{next}
use Rattle.work_gen.specs.Words.{texts}
use Rattle.work_gen.specs.declared.words.Word.{Word}
use Rattle.work_gen.proofs.Drawing.{square_is}
use Rattle.work_gen.proofs.commands.count_square.Goals as goal

pub returns-clause-words : goal.returns-clause-words
returns-clause-words c =
    let words = square_is (next c.args.draws.now.state) c.draw-y.new.self.state c.draw-y.result c.draw-x.result c.draw-y.ensures.state c.draw-y.ensures.drawn c.draw-x.ensures.drawn in
    subst (λ (l : List Word). IfOk c.request.result (λ r. r ≡ texts l)) words c.request.ensures.words
