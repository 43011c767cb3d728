use Rattle.std.proofs.Common.{length, ap, arith}
use Rattle.world_data.specs.Frames.{FrameList}
use Rattle.world_data.proofs.FrameEnds.{as_many}
use Rattle.world_data.proofs.frames.Frames.len.Goals as goal

pub returns : goal.returns
returns c =
    let k = c.self.inside in
    let many = as_many 0 k.ends.items k.text in
    let is = ap (λ (f : FrameList). length f.list) c.self.view_is in
    let len = c.len.ensures in
    omega (arith, many, is, len)
