use Rattle.std.proofs.Common.{◌≡◌, ◌≤◌, refl, subst, arith}
use Rattle.std.specs.Prelude.{Option}
use Rattle.std.proofs.lemmas.Result.{on_ok_weaker}
use Rattle.planar_geom.specs.Points.{Bounds}
use Rattle.fence_index.specs.Held.{Fits}
use Rattle.fence_index.specs.Reasons.{box_for}
use Rattle.fence_index.specs.Boxed.{part}
use Rattle.fence_index.proofs.KeyWeights.{each_reason}
use Rattle.fence_index.specs.Marks.{mark_of}
use Rattle.fence_index.proofs.key_boxes.KeyBoxes.reserve.Goals as goal

pub returns-in_err-reserve-clause-pairs : goal.returns-in_err-reserve-clause-pairs
returns-in_err-reserve-clause-pairs c =
    each_reason (λ r. (part r (record c.args.self.now { near = c.reserve.new.self })).pairs ≡ (part r c.args.self.now).pairs) c.reserve.ensures.pairs refl refl

pub returns-in_err-reserve-clause-kept : goal.returns-in_err-reserve-clause-kept
returns-in_err-reserve-clause-kept c =
    each_reason (λ r. (part r c.args.self.now).spare ≤ (part r (record c.args.self.now { near = c.reserve.new.self })).spare) c.reserve.ensures.kept (omega arith) (omega arith)

pub returns-in_err-reserve-2-clause-pairs : goal.returns-in_err-reserve-2-clause-pairs
returns-in_err-reserve-2-clause-pairs c =
    each_reason (λ r. (part r (record c.args.self.now { near = c.reserve.new.self; wide = c.reserve-2.new.self })).pairs ≡ (part r c.args.self.now).pairs) c.reserve.ensures.pairs c.reserve-2.ensures.pairs refl

pub returns-in_err-reserve-2-clause-kept : goal.returns-in_err-reserve-2-clause-kept
returns-in_err-reserve-2-clause-kept c =
    each_reason (λ r. (part r c.args.self.now).spare ≤ (part r (record c.args.self.now { near = c.reserve.new.self; wide = c.reserve-2.new.self })).spare) c.reserve.ensures.kept c.reserve-2.ensures.kept (omega arith)

pub returns-clause-pairs : goal.returns-clause-pairs
returns-clause-pairs c =
    each_reason (λ r. (part r (record c.args.self.now { near = c.reserve.new.self; wide = c.reserve-2.new.self; always = c.reserve-3.new.self })).pairs ≡ (part r c.args.self.now).pairs)
    c.reserve.ensures.pairs c.reserve-2.ensures.pairs c.reserve-3.ensures.pairs

pub returns-clause-kept : goal.returns-clause-kept
returns-clause-kept c =
    each_reason (λ r. (part r c.args.self.now).spare ≤ (part r (record c.args.self.now { near = c.reserve.new.self; wide = c.reserve-2.new.self; always = c.reserve-3.new.self })).spare)
    c.reserve.ensures.kept c.reserve-2.ensures.kept c.reserve-3.ensures.kept

pub returns-clause-room : goal.returns-clause-room
returns-clause-room c =
    let near = subst (λ (b : Option Bounds). Fits b c.reserve.new.self.spare) c.near_box.ensures c.in_ok-reserve.ensures.room in
    let wide = subst (λ (b : Option Bounds). Fits b c.reserve-2.new.self.spare) c.wide_box.ensures c.in_ok-reserve-2.ensures.room in
    on_ok_weaker c.reserve-3.result
    (λ room. each_reason (λ r. Fits (box_for r (mark_of c.args.channel.now)) (part r (record c.args.self.now { near = c.reserve.new.self; wide = c.reserve-2.new.self; always = c.reserve-3.new.self })).spare)
    near wide (subst (λ (b : Option Bounds). Fits b c.reserve-3.new.self.spare) c.always_box.ensures room))
    c.reserve-3.ensures.room
