use Rattle.std.proofs.Common.{◌≡◌, ◌∷◌, Some, ap, sym, ◌∙◌, subst, suc, arith}
use Rattle.std.specs.Fmt.{signed_decimal}
use Rattle.byte_text.proofs.DigitsRead.{below}
use Rattle.byte_text.proofs.numbers.whole_from.Goals as goal

pub returns-in-Some-clause-only : goal.returns-in-Some-clause-only
returns-in-Some-clause-only c = λ z fits e.
    let b = below z c.args.digits.now fits (subst (λ f. f ∷ c.args.digits.now ≡ signed_decimal z) c.if-first-eq45.true e) in
    let read = c.in-Some.ensures.only (suc b.less) (omega (arith, b.small)) b.text in
    let same : c.in-Some.magnitude ≡ suc b.less = cc (read) in
    c.negative.ensures.only b.less b.small same ∙ ap Some (sym b.is)

pub returns-in-None-clause-only : goal.returns-in-None-clause-only
returns-in-None-clause-only c = λ z fits e.
    let b = below z c.args.digits.now fits (subst (λ f. f ∷ c.args.digits.now ≡ signed_decimal z) c.if-first-eq45.true e) in
    absurd (cc (c.in-None.ensures.only (suc b.less) (omega (arith, b.small)) b.text))
