use Rattle.std.proofs.Common.{◌≡◌, ◌≤◌, ◌<◌, ◌+◌, ◌/◌, ◌%◌, ◌^◌, ℕ, List, ◌∷◌, [], length, ap, ◌∙◌, length-append, arith, rules}
use Rattle.std.specs.Prelude.{decimal}
use Rattle.std.proofs.lemmas.Fmt.{decimal_step, decimal_digit, decimal_nonempty, length-decimal-le}
use Rattle.record_writer.proofs.lengths.digits_of.Goals as goal

pub loop-rest-preserved : goal.loop-rest-preserved
loop-rest-preserved c =
    let n = c.args.n in
    let r = c.loop-rest.rest in
    let small : r < 2 ^ 64 = search rules in
    let all : n < 2 ^ 64 = search rules in
    let some : 10 ≤ r = omega (arith, c.loop-rest-test.true) in
    let step : length (decimal r) ≡ length (decimal (r / 10)) + 1 = ap (λ (ds : List ℕ). length ds) (decimal_step r some small) ∙ length-append (decimal (r / 10)) ((48 + r % 10) ∷ []) in
    let rest : 0 < length (decimal (r / 10)) = decimal_nonempty (r / 10) (omega (arith, small)) in
    let most : length (decimal n) ≤ 20 = length-decimal-le 20 n (omega arith) (omega (arith, all)) all in
    record { counted = omega (arith, step, c.loop-rest.invariant.counted); few = omega (arith, step, rest, most, c.loop-rest.invariant.counted) }

pub returns-clause-value : goal.returns-clause-value
returns-clause-value c =
    let r = c.loop-rest.rest in
    let one : length (decimal r) ≡ 1 = ap (λ (ds : List ℕ). length ds) (decimal_digit r (omega (arith, c.loop-rest-test.false))) in
    omega (arith, one, c.loop-rest.invariant.counted)
