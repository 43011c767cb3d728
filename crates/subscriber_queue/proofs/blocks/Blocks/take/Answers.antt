use Rattle.std.proofs.Common.{inl, inr, ◌≡◌, ℕ, ◌≤◌, List, [], ◌++◌, length, take, drop, sym, ap, ◌∙◌, subst, arith}
use Rattle.std.specs.Prelude.{Some, None, slice_get}
use Rattle.std.proofs.lemmas.List.{take_all, drop_all, take_at, drop_at}
use Rattle.byte_text.specs.Names.{Bytes}
use Rattle.world_data.specs.Frames.{FrameList}
use Rattle.world_data.specs.Limits.{take_frames}
use Rattle.subscriber_queue.specs.Packed.{IsFull, packed}
use Rattle.subscriber_queue.proofs.Packing.{first_block, full_at, no_block, no_full}
use Rattle.subscriber_queue.proofs.blocks.Blocks.take.Goals as goal

pub returns-in-Some-clause-given : goal.returns-in-Some-clause-given
returns-in-Some-clause-given c =
    let k = c.self.inside in
    let b = c.in-Some.block in
    let at : slice_get k.full 0 ≡ Some b = sym c.pop_front.ensures.first ∙ c.in-Some.is in
    let full = full_at k.full 0 b c.self.invariant.full at in
    let list : b.list ≡ take take_frames c.args.self.now =
    sym (take_at b.list (packed (drop 1 k.full) k.last) take_frames full.frames)
    ∙ ap (take take_frames) (sym (first_block k.full k.last b at) ∙ c.self.view_is) in
    ap (λ (fs : List Bytes). record { list = fs; places = b.places }) list
    ∙ ap (λ (n : ℕ). record { list = take take_frames c.args.self.now; places = n }) full.places

pub returns-in-Some-clause-left : goal.returns-in-Some-clause-left
returns-in-Some-clause-left c =
    let k = c.self.inside in
    let b = c.in-Some.block in
    let at : slice_get k.full 0 ≡ Some b = sym c.pop_front.ensures.first ∙ c.in-Some.is in
    let full = full_at k.full 0 b c.self.invariant.full at in
    ap (λ (bs : List FrameList). packed bs k.last) c.pop_front.ensures.rest
    ∙ sym (drop_at b.list (packed (drop 1 k.full) k.last) take_frames full.frames)
    ∙ ap (drop take_frames) (sym (first_block k.full k.last b at) ∙ c.self.view_is)

pub returns-then-self-gt0-clause-given : goal.returns-then-self-gt0-clause-given
returns-then-self-gt0-clause-given c =
    let k = c.self.inside in
    let none : slice_get k.full 0 ≡ None = sym c.pop_front.ensures.first ∙ c.in-None.is in
    let whole = no_block k.full k.last none in
    let few = c.self.invariant.open_.few in
    let long = ap length whole in
    let many = c.self.invariant.many in
    let some = c.if-self-gt0.true in
    let list : k.last.list ≡ take take_frames c.args.self.now =
    sym (take_all take_frames k.last.list few) ∙ ap (take take_frames) (sym whole ∙ c.self.view_is) in
    let places : k.last.places ≡ take_frames = elim c.self.invariant.open_.places [
      | inl e ↦ e
      | inr p ↦ let none = ap length p.1 in absurd (omega (arith, long, many, some, none))
    ] in
    c.swap.ensures.y_after
    ∙ ap (λ (fs : List Bytes). record { list = fs; places = k.last.places }) list
    ∙ ap (λ (n : ℕ). record { list = take take_frames c.args.self.now; places = n }) places

pub returns-then-self-gt0-clause-left : goal.returns-then-self-gt0-clause-left
returns-then-self-gt0-clause-left c =
    let k = c.self.inside in
    let none : slice_get k.full 0 ≡ None = sym c.pop_front.ensures.first ∙ c.in-None.is in
    let whole = no_block k.full k.last none in
    let few = c.self.invariant.open_.few in
    let gone : c.pop_front.new.self ≡ [] = c.pop_front.ensures.rest ∙ ap (drop 1) (no_full k.full none) in
    let empty : c.swap.new.x.list ≡ [] = ap (λ (b : FrameList). b.list) c.swap.ensures.x_after ∙ ap (λ (b : FrameList). b.list) c.requires in
    ap (λ (bs : List FrameList). packed bs c.swap.new.x) gone ∙ empty
    ∙ sym (drop_all take_frames k.last.list few) ∙ ap (drop take_frames) (sym whole ∙ c.self.view_is)
