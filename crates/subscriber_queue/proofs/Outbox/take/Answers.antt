use Rattle.std.proofs.Common.{◌≡◌, ℕ, ◌+◌, ◌-◌, ◌≤◌, List, [], length, take, drop, min, sym, ap, ◌∙◌, arith}
use Rattle.std.proofs.lemmas.List.{length-take, length-take-le, length-drop, take_all, drop_all}
use Rattle.byte_text.specs.Names.{Bytes}
use Rattle.world_data.specs.Frames.{FrameList, frame_bytes}
use Rattle.world_data.specs.Limits.{take_frames}
use Rattle.subscriber_queue.specs.Waiting.{Waiting}
use Rattle.subscriber_queue.proofs.Marks.{bytes_cut}
use Rattle.subscriber_queue.proofs.Outbox.take.Goals as goal

-- how many of the frames are taken, and how many are left
counts : (w n : ℕ) (fs all : List Bytes) → fs ≡ take w all → w ≤ length all → n ≡ length (take take_frames fs)
    → (length fs ≡ w) × (n ≡ min take_frames w) × (length (drop take_frames fs) ≡ w - n)
counts w n fs all is within count =
    let long : length fs ≡ w = ap length is ∙ length-take-le w all within in
    let taken = length-take take_frames fs in
    let left = length-drop take_frames fs in
    (long, omega (arith, long, taken, count), omega (arith, long, taken, count, left))

pub overflow_sub-self : goal.overflow_sub-self
overflow_sub-self c =
    let k = c.self.inside in
    let n = c.len-count.ensures ∙ ap (λ (b : FrameList). length b.list) c.take.ensures.given in
    let p = counts k.waiting c.len-count.result c.keep.new.self k.blocks c.keep.ensures c.self.invariant.0 n in
    let count = p.1 in
    omega (arith, count)

pub overflow_sub-self-2 : goal.overflow_sub-self-2
overflow_sub-self-2 c =
    let k = c.self.inside in
    let size = c.bytes.ensures.size ∙ ap (λ (b : FrameList). frame_bytes b.list) c.take.ensures.given in
    let both = bytes_cut take_frames c.keep.new.self in
    let was : k.bytes ≡ frame_bytes c.keep.new.self = c.self.invariant.2 ∙ ap frame_bytes (sym c.keep.ensures) in
    omega (arith, size, both, was)

pub invariant_of-self : goal.invariant_of-self
invariant_of-self c =
    let k = c.self.inside in
    let n = c.len-count.ensures ∙ ap (λ (b : FrameList). length b.list) c.take.ensures.given in
    let p = counts k.waiting c.len-count.result c.keep.new.self k.blocks c.keep.ensures c.self.invariant.0 n in
    let left = p.2 in
    let long : length c.take.new.self ≡ k.waiting - c.len-count.result = ap length c.take.ensures.left ∙ left in
    let all = take_all (k.waiting - c.len-count.result) c.take.new.self (omega (arith, long)) in
    let rest : frame_bytes (take (k.waiting - c.len-count.result) c.take.new.self) ≡ frame_bytes (drop take_frames c.keep.new.self) =
    ap frame_bytes (all ∙ c.take.ensures.left) in
    let size = c.bytes.ensures.size ∙ ap (λ (b : FrameList). frame_bytes b.list) c.take.ensures.given in
    let both = bytes_cut take_frames c.keep.new.self in
    let was : k.bytes ≡ frame_bytes c.keep.new.self = c.self.invariant.2 ∙ ap frame_bytes (sym c.keep.ensures) in
    let few = c.self.invariant.1 in
    let light = c.self.invariant.3 in
    (omega (arith, long), omega (arith, few), omega (arith, rest, size, both, was), omega (arith, light))

pub returns-clause-left : goal.returns-clause-left
returns-clause-left c =
    let k = c.self.inside in
    let n = c.len-count.ensures ∙ ap (λ (b : FrameList). length b.list) c.take.ensures.given in
    let p = counts k.waiting c.len-count.result c.keep.new.self k.blocks c.keep.ensures c.self.invariant.0 n in
    let left = p.2 in
    let long : length c.take.new.self ≡ k.waiting - c.len-count.result = ap length c.take.ensures.left ∙ left in
    take_all (k.waiting - c.len-count.result) c.take.new.self (omega (arith, long)) ∙ c.take.ensures.left
    ∙ ap (drop take_frames) (c.keep.ensures ∙ ap (λ (w : Waiting). w.frames) c.self.view_is)

pub returns-clause-staged : goal.returns-clause-staged
returns-clause-staged c =
    let k = c.self.inside in
    let n = c.len-count.ensures ∙ ap (λ (b : FrameList). length b.list) c.take.ensures.given in
    let p = counts k.waiting c.len-count.result c.keep.new.self k.blocks c.keep.ensures c.self.invariant.0 n in
    let left = p.2 in
    let long : length c.take.new.self ≡ k.waiting - c.len-count.result = ap length c.take.ensures.left ∙ left in
    drop_all (k.waiting - c.len-count.result) c.take.new.self (omega (arith, long))

pub returns-clause-count : goal.returns-clause-count
returns-clause-count c =
    let k = c.self.inside in
    let n = c.len-count.ensures ∙ ap (λ (b : FrameList). length b.list) c.take.ensures.given in
    let p = counts k.waiting c.len-count.result c.keep.new.self k.blocks c.keep.ensures c.self.invariant.0 n in
    p.1 ∙ ap (min take_frames) (sym p.0 ∙ ap length (c.keep.ensures ∙ ap (λ (w : Waiting). w.frames) c.self.view_is))
