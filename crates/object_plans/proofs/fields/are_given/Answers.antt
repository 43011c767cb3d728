use Rattle.std.proofs.Common.{◌≡◌, ◌∙◌, ◌<◌, ℕ, true, nat_eq, drop, length, subst, arith}
use Rattle.std.proofs.lemmas.Bool.Decides.{nat_tests}
use Rattle.object_plans.specs.Covered.{left_by}
use Rattle.object_plans.proofs.Covering.{given_all, none_left, passed_by}
use Rattle.object_plans.proofs.fields.are_given.Goals as goal

pub loop-i-preserved : goal.loop-i-preserved
loop-i-preserved c =
    let given = c.args.given.now in
    let fields = c.args.fields.now in
    let lt : c.loop-i.i < length given = omega (arith, c.loop-i-test.true, c.len-i-end.ensures.count) in
    record {
      within = c.next_from-at.ensures.within;
      left = passed_by given (drop c.loop-i.at fields) (drop c.next_from-at.result fields) c.loop-i.i c.name.result.now lt c.name.ensures c.next_from-at.ensures.next
          ∙ c.loop-i.invariant.left;
    }

pub returns : goal.returns
returns c = λ all.
    let given = c.args.given.now in
    let fields = c.args.fields.now in
    let end : c.loop-i.i ≡ length given = omega (arith, c.loop-i-test.false, c.loop-i.auto.i-end, c.len-i-end.ensures.count) in
    let reached : nat_eq c.loop-i.at c.len.result ≡ true = all in
    let count : c.loop-i.at ≡ c.len.result = grind (arith, nat_tests) in
    let at : c.loop-i.at ≡ length fields = count ∙ c.len.ensures.count in
    let walked : left_by (drop (length given) given) (drop c.loop-i.at fields) ≡ left_by given fields
    = subst (λ (n : ℕ). left_by (drop n given) (drop c.loop-i.at fields) ≡ left_by given fields) end c.loop-i.invariant.left in
    given_all fields given c.len-i-end.ensures.fields (none_left given fields c.loop-i.at at walked)
