use Rattle.std.proofs.Common.{◌≡◌, ◌∷◌, [], List, ℕ, decimal, Some, length, ap, sym, ◌∙◌, subst, arith}
use Rattle.std.proofs.lemmas.Fmt.{decimal_digit}
use Rattle.std.proofs.lemmas.List.{nil_from_length}
use Rattle.std.proofs.lemmas.Option.{IfSome_then}
use Rattle.byte_text.proofs.DigitsRead.{zero_alone, first_is, digit_text}
use Rattle.byte_text.proofs.numbers.natural_from.Goals as goal

pub returns-then-first-lt48-clause-only : goal.returns-then-first-lt48-clause-only
returns-then-first-lt48-clause-only c = λ n small e.
    let d = first_is n c.args.first c.args.digits.now small e in
    absurd (omega (arith, d.0, d.1, c.then-first-lt48.either))

pub returns-then-first-gt48-clause-made : goal.returns-then-first-gt48-clause-made
returns-then-first-gt48-clause-made c =
    let text = digit_text c.args.first c.args.digits.now (omega (arith, c.if-first-lt48.false)) (omega (arith, c.if-first-gt57.false)) in
    IfSome_then c.with_digits.result c.with_digits.ensures.made (λ n made. text ∙ sym made)

pub returns-then-first-gt48-clause-only : goal.returns-then-first-gt48-clause-only
returns-then-first-gt48-clause-only c = λ n small e.
    let text = digit_text c.args.first c.args.digits.now (omega (arith, c.if-first-lt48.false)) (omega (arith, c.if-first-gt57.false)) in
    c.with_digits.ensures.only n small (sym e ∙ text)

pub returns-then-digits-gt0-clause-only : goal.returns-then-digits-gt0-clause-only
returns-then-digits-gt0-clause-only c = λ n small e.
    let zero_first : c.args.first ≡ 48 = omega (arith, c.if-first-lt48.false, c.if-first-gt48.false) in
    let alone = zero_alone n c.args.digits.now small (subst (λ b. b ∷ c.args.digits.now ≡ decimal n) zero_first e) in
    let none : length c.args.digits.now ≡ 0 = ap length alone.1 in
    absurd (omega (arith, none, c.if-digits-gt0.true))

pub returns-else-digits-gt0-clause-made : goal.returns-else-digits-gt0-clause-made
returns-else-digits-gt0-clause-made c =
    let zero_first : c.args.first ≡ 48 = omega (arith, c.if-first-lt48.false, c.if-first-gt48.false) in
    let none : c.args.digits.now ≡ [] = nil_from_length c.args.digits.now (omega (arith, c.if-digits-gt0.false)) in
    ap (λ b. b ∷ c.args.digits.now) zero_first ∙ ap (λ (t : List ℕ). 48 ∷ t) none ∙ sym (decimal_digit 0 (omega arith))

pub returns-else-digits-gt0-clause-only : goal.returns-else-digits-gt0-clause-only
returns-else-digits-gt0-clause-only c = λ n small e.
    let zero_first : c.args.first ≡ 48 = omega (arith, c.if-first-lt48.false, c.if-first-gt48.false) in
    let alone = zero_alone n c.args.digits.now small (subst (λ b. b ∷ c.args.digits.now ≡ decimal n) zero_first e) in
    ap Some (sym alone.0)
