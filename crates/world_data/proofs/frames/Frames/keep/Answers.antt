use Rattle.std.proofs.Common.{◌≡◌, ℕ, ◌≤◌, length, take, sym, ap, ◌∙◌, arith}
use Rattle.std.proofs.lemmas.List.{length-take}
use Rattle.world_data.specs.Frames.{FrameList, frames_between, text_of}
use Rattle.world_data.proofs.FrameEnds.{ends_for, frames_for, ends_take, text_take}
use Rattle.world_data.proofs.frames.Frames.keep.Goals as goal

pub invariant_of-self : goal.invariant_of-self
invariant_of-self c =
    let k = c.self.inside in
    let n = c.args.count in
    let list = frames_between 0 k.ends.items k.text in
    let end : c.start-end.result ≡ length (text_of (take n list)) =
    c.start-end.ensures.is ∙ ap (λ (f : FrameList). length (text_of (take n f.list))) (sym c.self.view_is) in
    let ends = c.truncate-then-count-len.ensures.items ∙ ap (take n) c.self.invariant.0.ends_are ∙ ends_take 0 n list in
    let text = c.truncate.ensures ∙ ap (λ (m : ℕ). take m k.text) end ∙ ap (take (length (text_of (take n list)))) c.self.invariant.0.text_is ∙ text_take n list in
    let few : length (take n k.ends.items) ≤ k.places = let cut = length-take n k.ends.items in let was = c.self.invariant.1 in omega (arith, cut, was) in
    let shorter = ap length c.truncate-then-count-len.ensures.items in
    let capacity = c.truncate-then-count-len.ensures.capacity in
    let held = c.self.invariant.2 in
    (ends_for _ _ (take n list) ends text, omega (arith, few, shorter), omega (arith, capacity, held))

pub returns-then-count-len-clause-list : goal.returns-then-count-len-clause-list
returns-then-count-len-clause-list c =
    let k = c.self.inside in
    let n = c.args.count in
    let list = frames_between 0 k.ends.items k.text in
    let end : c.start-end.result ≡ length (text_of (take n list)) =
    c.start-end.ensures.is ∙ ap (λ (f : FrameList). length (text_of (take n f.list))) (sym c.self.view_is) in
    let ends = c.truncate-then-count-len.ensures.items ∙ ap (take n) c.self.invariant.0.ends_are ∙ ends_take 0 n list in
    let text = c.truncate.ensures ∙ ap (λ (m : ℕ). take m k.text) end ∙ ap (take (length (text_of (take n list)))) c.self.invariant.0.text_is ∙ text_take n list in
    frames_for _ _ (take n list) ends text ∙ ap (λ (f : FrameList). take n f.list) c.self.view_is
