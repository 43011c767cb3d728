use Rattle.std.proofs.Common.{sym, refl, arith}
use Rattle.std.specs.Prelude.{◌==◌}
use Rattle.std.proofs.lemmas.List.Sums.{position_or_len_is}
use Rattle.cmd_words.proofs.word_kinds.point_of.Goals as goal

pub returns-then-bytes-at-eq46-clause-place : goal.returns-then-bytes-at-eq46-clause-place
returns-then-bytes-at-eq46-clause-place c =
    let found = c.if-bytes-at-eq46.true in
    sym (position_or_len_is (λ b. b == 46) c.args.bytes.now c.loop-at.at 0 (omega arith) c.loop-at.invariant (λ within. rw found refl))

pub returns-clause-place : goal.returns-clause-place
returns-clause-place c = sym (position_or_len_is (λ b. b == 46) c.args.bytes.now _ 0 (omega arith) (λ k lt. c.loop-at.invariant k (omega arith)) (λ within. absurd (omega arith)))
