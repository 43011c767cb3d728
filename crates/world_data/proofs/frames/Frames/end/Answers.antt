use Rattle.std.proofs.Common.{◌≡◌, ℕ, ◌<◌, suc, length, take, ap, ◌∙◌, List, arith}
use Rattle.std.specs.Prelude.{get_or}
use Rattle.world_data.specs.Frames.{FrameList, frames_between, text_of}
use Rattle.world_data.proofs.FrameEnds.{as_many, end_is, less_text}
use Rattle.world_data.proofs.frames.Frames.end.Goals as goal

pub index-requires : goal.index-requires
index-requires c =
    let k = c.self.inside in
    let many = as_many 0 k.ends.items k.text in
    let is = ap (λ (f : FrameList). length f.list) c.self.view_is in
    omega (arith, many, is)

pub returns-clause-is : goal.returns-clause-is
returns-clause-is c =
    let k = c.self.inside in
    let list = frames_between 0 k.ends.items k.text in
    let is : length list ≡ length c.args.self.now.list = ap (λ (f : FrameList). length f.list) c.self.view_is in
    let below : c.args.i < length list = omega (arith, is) in
    let read : c.index.result.now ≡ get_or k.ends.items c.args.i c.index.result.now = c.index.ensures in
    read
    ∙ ap (λ (es : List ℕ). get_or es c.args.i c.index.result.now) c.self.invariant.0.ends_are
    ∙ end_is list c.args.i c.index.result.now below
    ∙ ap (λ (f : FrameList). length (text_of (take (suc c.args.i) f.list))) c.self.view_is

pub returns-clause-within : goal.returns-clause-within
returns-clause-within c =
    let k = c.self.inside in
    let list = frames_between 0 k.ends.items k.text in
    let is : length list ≡ length c.args.self.now.list = ap (λ (f : FrameList). length f.list) c.self.view_is in
    let below : c.args.i < length list = omega (arith, is) in
    let read : c.index.result.now ≡ get_or k.ends.items c.args.i c.index.result.now = c.index.ensures in
    let at : c.index.result.now ≡ length (text_of (take (suc c.args.i) c.args.self.now.list)) = read
    ∙ ap (λ (es : List ℕ). get_or es c.args.i c.index.result.now) c.self.invariant.0.ends_are
    ∙ end_is list c.args.i c.index.result.now below
    ∙ ap (λ (f : FrameList). length (text_of (take (suc c.args.i) f.list))) c.self.view_is in
    let less = less_text (suc c.args.i) c.args.self.now.list in
    omega (arith, at, less)
