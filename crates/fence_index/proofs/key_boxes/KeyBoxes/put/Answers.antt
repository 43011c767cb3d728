use Rattle.std.proofs.Common.{◌≡◌, ◌+◌, ◌∙◌, ap, subst, sym, ℕ}
use Rattle.std.specs.Prelude.{Option}
use Rattle.std.specs.List.{sum_by}
use Rattle.planar_geom.specs.Points.{Bounds}
use Rattle.rtree.specs.Pairs.{Pair}
use Rattle.fence_index.specs.Held.{Fits, weight_of}
use Rattle.fence_index.specs.Reasons.{Near, Wide, Always, box_for}
use Rattle.fence_index.specs.Boxed.{part}
use Rattle.fence_index.proofs.KeyWeights.{each_reason}
use Rattle.fence_index.specs.Marks.{mark_of}
use Rattle.fence_index.proofs.key_boxes.KeyBoxes.put.Goals as goal

pub put-requires : goal.put-requires
put-requires c = subst (λ (b : Option Bounds). Fits b c.args.self.now.near.spare) (sym c.near_box.ensures) (c.requires Near)

pub put-requires-2 : goal.put-requires-2
put-requires-2 c = subst (λ (b : Option Bounds). Fits b c.args.self.now.wide.spare) (sym c.wide_box.ensures) (c.requires Wide)

pub put-requires-3 : goal.put-requires-3
put-requires-3 c = subst (λ (b : Option Bounds). Fits b c.args.self.now.always.spare) (sym c.always_box.ensures) (c.requires Always)

pub returns-clause-pairs : goal.returns-clause-pairs
returns-clause-pairs c =
    let n = c.args.number in
    each_reason
    (λ r. (w : Pair → ℕ) → sum_by w (part r (record c.args.self.now { near = c.put.new.self; wide = c.put-2.new.self; always = c.put-3.new.self })).pairs
    ≡ sum_by w (part r c.args.self.now).pairs + weight_of w (box_for r (mark_of c.args.channel.now)) n)
    (λ w. c.put.ensures w ∙ ap (λ (b : Option Bounds). sum_by w c.args.self.now.near.pairs + weight_of w b n) c.near_box.ensures)
    (λ w. c.put-2.ensures w ∙ ap (λ (b : Option Bounds). sum_by w c.args.self.now.wide.pairs + weight_of w b n) c.wide_box.ensures)
    (λ w. c.put-3.ensures w ∙ ap (λ (b : Option Bounds). sum_by w c.args.self.now.always.pairs + weight_of w b n) c.always_box.ensures)
