use Rattle.std.proofs.Common.{◌+◌, ◌∙◌, Bool, drop, sym, ap, arith}
use Rattle.std.specs.Prelude.{◌||◌}
use Rattle.live_fence.specs.FenceWord.{has_fence}
use Rattle.live_fence.proofs.Words.{fence_next, fence_past}
use Rattle.live_fence.proofs.pairs.has_fence.Goals as goal

pub returns-then-is_fence : goal.returns-then-is_fence
returns-then-is_fence c =
    let words = c.args.request.now in
    let rest = has_fence (drop (c.loop-at.at + 1) words) in
    sym (ap (λ (b : Bool). b || rest) (sym c.is_fence.ensures ∙ c.if-is_fence.true))
    ∙ sym (fence_next words c.loop-at.at c.word.result.now c.word.ensures) ∙ c.loop-at.invariant

pub loop-at-preserved : goal.loop-at-preserved
loop-at-preserved c =
    let words = c.args.request.now in
    let rest = has_fence (drop (c.loop-at.at + 1) words) in
    sym (ap (λ (b : Bool). b || rest) (sym c.is_fence.ensures ∙ c.if-is_fence.false))
    ∙ sym (fence_next words c.loop-at.at c.word.result.now c.word.ensures) ∙ c.loop-at.invariant

pub returns : goal.returns
returns c =
    let past = c.loop-at-test.false in
    sym (fence_past c.args.request.now c.loop-at.at (omega (arith, past, c.words-at-end.ensures.count))) ∙ c.loop-at.invariant
