use Rattle.std.proofs.Common.{ℕ, List, length, ◌++◌, ◌∙◌, ap, arith}
use Rattle.std.specs.Prelude.{codes, decimal}
use Rattle.std.proofs.lemmas.Fmt.{length-decimal-le}
use Rattle.live_fence.proofs.pairs.channel_name.Goals as goal

pub returns-clause-short : goal.returns-clause-short
returns-clause-short c =
    let name = c.in_ok-push_u64.ensures.ok
    ∙ ap (λ (t : List ℕ). t ++ decimal c.from.result) (c.in_ok-push.ensures.ok ∙ ap (λ (t : List ℕ). t ++ codes "live/") c.new-name.ensures) in
    let most = length-decimal-le 10 c.from.result (omega arith) (omega (arith, c.from.ensures)) (omega (arith, c.from.ensures)) in
    omega (arith, ap length name, most)
