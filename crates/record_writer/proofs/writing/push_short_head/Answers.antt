use Rattle.std.proofs.Common.{◌++◌, ◌∷◌, [], List, ℕ, sym, arith, subst}
use Rattle.std.specs.Prelude.{codes, ◌≡◌, OnOk}
use Rattle.std.proofs.lemmas.Fmt.{decimal_digit}
use Rattle.byte_text.specs.Lines.{line, line_end, bulk_text}
use Rattle.record_writer.proofs.writing.push_short_head.Goals as goal

pub returns-clause-ok : goal.returns-clause-ok
returns-clause-ok c =
    let three = subst (λ (n : List ℕ). OnOk c.push.result (c.push.new.self ≡ c.args.into.now ++ (line 42 (53 ∷ []) ++ (line 36 n ++ (codes "SET" ++ line_end)))))
    (sym (decimal_digit 3 (omega arith))) c.push.ensures.ok in
    subst (λ (n : List ℕ). OnOk c.push.result (c.push.new.self ≡ c.args.into.now ++ (line 42 n ++ bulk_text (codes "SET"))))
    (sym (decimal_digit 5 (omega arith))) three
