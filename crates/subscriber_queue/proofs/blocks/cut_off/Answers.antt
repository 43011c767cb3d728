use Rattle.std.proofs.Common.{inl, ◌≡◌, ℕ, ◌+◌, ◌*◌, ◌/◌, ◌%◌, ◌≤◌, List, ◌++◌, length, take, sym, ap, ◌∙◌, arith}
use Rattle.std.specs.Prelude.{Some, None, slice_get}
use Rattle.std.proofs.lemmas.List.{length-take, take_all}
use Rattle.byte_text.specs.Names.{Bytes}
use Rattle.world_data.specs.Frames.{FrameList}
use Rattle.world_data.specs.Limits.{take_frames}
use Rattle.subscriber_queue.specs.Packed.{frames_in, packed}
use Rattle.subscriber_queue.proofs.Packing.{cut_block, cut_last, full_at, past_blocks}
use Rattle.subscriber_queue.proofs.blocks.cut_off.Goals as goal

pub returns-in-Some-clause-first : goal.returns-in-Some-clause-first
returns-in-Some-clause-first c =
    let full = c.args.full.now in
    let last = c.args.last.now in
    let n = c.args.count in
    let b = c.in-Some.block in
    let at : slice_get full (n / 64) ≡ Some b = sym c.cut.ensures.next ∙ c.in-Some.is in
    let whole : n ≡ take_frames * (n / 64) + n % 64 = omega arith in
    ap (λ (bs : List FrameList). packed bs c.keep.new.self) c.cut.ensures.first
    ∙ ap (λ (fs : List Bytes). frames_in (take (n / 64) full) ++ fs) c.keep.ensures.list
    ∙ sym (cut_block full last.list (n / 64) (n % 64) b c.requires.full at (omega arith))
    ∙ ap (λ (k : ℕ). take k (packed full last)) (sym whole)

pub returns-in-Some-clause-open : goal.returns-in-Some-clause-open
returns-in-Some-clause-open c =
    let n = c.args.count in
    let b = c.in-Some.block in
    let at : slice_get c.args.full.now (n / 64) ≡ Some b = sym c.cut.ensures.next ∙ c.in-Some.is in
    let full = full_at c.args.full.now (n / 64) b c.requires.full at in
    let cut : length c.keep.new.self.list ≡ length (take (n % 64) b.list) = ap length c.keep.ensures.list in
    let short = length-take (n % 64) b.list in
    record {
      few = omega (arith, cut, short);
      places = inl (c.keep.ensures.places ∙ full.places);
    }

pub returns-in-None-clause-first : goal.returns-in-None-clause-first
returns-in-None-clause-first c =
    let full = c.args.full.now in
    let last = c.args.last.now in
    let n = c.args.count in
    let none : slice_get full (n / 64) ≡ None = sym c.cut.ensures.next ∙ c.in-None.is in
    let whole : n ≡ take_frames * (n / 64) + n % 64 = omega arith in
    let more = c.requires.more in
    let past = past_blocks full last.list (n / 64) (n % 64) c.requires.full none (omega (arith, more)) c.requires.open.few in
    let here = past.0 in
    ap (λ (bs : List FrameList). packed bs c.keep-in-None.new.self) (c.cut.ensures.first ∙ take_all (n / 64) full (omega (arith, here)))
    ∙ ap (λ (fs : List Bytes). frames_in full ++ fs) c.keep-in-None.ensures.list
    ∙ sym (cut_last full last.list (n / 64) (n % 64) c.requires.full here)
    ∙ ap (λ (k : ℕ). take k (packed full last)) (sym whole)
