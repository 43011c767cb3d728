use Rattle.std.proofs.Common.{◌++◌, ◌∷◌, List, ℕ, sym, arith, subst}
use Rattle.std.specs.Prelude.{codes, ◌≡◌, OnOk}
use Rattle.std.proofs.lemmas.Fmt.{decimal_digit}
use Rattle.byte_text.specs.Lines.{line_end}
use Rattle.record_writer.proofs.writing.push_object_word.Goals as goal

pub returns-clause-ok : goal.returns-clause-ok
returns-clause-ok c =
    subst (λ (six : List ℕ). OnOk c.push.result (c.push.new.self ≡ c.args.into.now ++ 36 ∷ ((six ++ line_end) ++ (codes "OBJECT" ++ line_end))))
    (sym (decimal_digit 6 (omega arith))) c.push.ensures.ok
