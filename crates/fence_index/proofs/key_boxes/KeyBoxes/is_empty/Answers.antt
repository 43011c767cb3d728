use Rattle.std.proofs.Common.{◌≡◌, ◌∙◌, [], true≢false, sym}
use Rattle.fence_index.specs.Reasons.{Near, Wide, Always}
use Rattle.fence_index.specs.Boxed.{part}
use Rattle.fence_index.proofs.KeyWeights.{each_reason}
use Rattle.fence_index.proofs.key_boxes.KeyBoxes.is_empty.Goals.{then-is_empty, else-is_empty}
use Rattle.fence_index.proofs.key_boxes.KeyBoxes.is_empty.Goals as goal

pub returns-then-is_empty-2-clause-none : goal.returns-then-is_empty-2-clause-none
returns-then-is_empty-2-clause-none c = λ empty.
    elim c.if-is_empty.branch [
      | then-is_empty w ↦ each_reason (λ r. (part r c.args.self.now).pairs ≡ []) (c.is_empty.ensures.none w.if-is_empty.true)
          (w.is_empty-then-is_empty.ensures.none (sym w.value-is ∙ c.if-is_empty-2.true)) (c.is_empty-then-is_empty-2.ensures.none empty)
      | else-is_empty w ↦ absurd (true≢false (sym c.if-is_empty-2.true ∙ w.value-is ∙ w.if-is_empty.false))
    ]

pub returns-then-is_empty-2-clause-some : goal.returns-then-is_empty-2-clause-some
returns-then-is_empty-2-clause-some c = λ all. c.is_empty-then-is_empty-2.ensures.some (all Always)

pub returns-else-is_empty-2-clause-some : goal.returns-else-is_empty-2-clause-some
returns-else-is_empty-2-clause-some c = λ all.
    elim c.if-is_empty.branch [
      | then-is_empty w ↦ absurd (true≢false (sym (w.is_empty-then-is_empty.ensures.some (all Wide)) ∙ sym w.value-is ∙ c.if-is_empty-2.false))
      | else-is_empty w ↦ absurd (true≢false (sym (c.is_empty.ensures.some (all Near)) ∙ w.if-is_empty.false))
    ]
