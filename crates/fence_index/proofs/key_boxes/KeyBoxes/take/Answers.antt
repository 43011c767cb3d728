use Rattle.std.proofs.Common.{◌≡◌, ◌≤◌, ◌+◌, ◌∙◌, ap, subst, sym, ℕ}
use Rattle.std.specs.Prelude.{Option}
use Rattle.std.specs.List.{sum_by}
use Rattle.planar_geom.specs.Points.{Bounds}
use Rattle.rtree.specs.Pairs.{Pair}
use Rattle.fence_index.specs.Held.{weight_of}
use Rattle.fence_index.specs.Reasons.{Near, Wide, Always, box_for}
use Rattle.fence_index.specs.Boxed.{part}
use Rattle.fence_index.proofs.KeyWeights.{each_reason}
use Rattle.fence_index.specs.Marks.{mark_of}
use Rattle.fence_index.proofs.key_boxes.KeyBoxes.take.Goals as goal

pub take-requires : goal.take-requires
take-requires c = λ w. subst (λ (b : Option Bounds). weight_of w b c.args.number ≤ sum_by w c.args.self.now.near.pairs) (sym c.near_box.ensures) (c.requires Near w)

pub take-requires-2 : goal.take-requires-2
take-requires-2 c = λ w. subst (λ (b : Option Bounds). weight_of w b c.args.number ≤ sum_by w c.args.self.now.wide.pairs) (sym c.wide_box.ensures) (c.requires Wide w)

pub take-requires-3 : goal.take-requires-3
take-requires-3 c = λ w. subst (λ (b : Option Bounds). weight_of w b c.args.number ≤ sum_by w c.args.self.now.always.pairs) (sym c.always_box.ensures) (c.requires Always w)

pub returns-clause-pairs : goal.returns-clause-pairs
returns-clause-pairs c =
    let n = c.args.number in
    each_reason
    (λ r. (w : Pair → ℕ) → sum_by w (part r (record c.args.self.now { near = c.take.new.self; wide = c.take-2.new.self; always = c.take-3.new.self })).pairs + weight_of w (box_for r (mark_of c.args.channel.now)) n
    ≡ sum_by w (part r c.args.self.now).pairs)
    (λ w. ap (λ (b : Option Bounds). sum_by w c.take.new.self.pairs + weight_of w b n) (sym c.near_box.ensures) ∙ c.take.ensures.pairs w)
    (λ w. ap (λ (b : Option Bounds). sum_by w c.take-2.new.self.pairs + weight_of w b n) (sym c.wide_box.ensures) ∙ c.take-2.ensures.pairs w)
    (λ w. ap (λ (b : Option Bounds). sum_by w c.take-3.new.self.pairs + weight_of w b n) (sym c.always_box.ensures) ∙ c.take-3.ensures.pairs w)

pub returns-clause-kept : goal.returns-clause-kept
returns-clause-kept c =
    each_reason
    (λ r. (part r c.args.self.now).spare ≤ (part r (record c.args.self.now { near = c.take.new.self; wide = c.take-2.new.self; always = c.take-3.new.self })).spare)
    c.take.ensures.kept c.take-2.ensures.kept c.take-3.ensures.kept
