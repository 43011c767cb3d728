use Rattle.std.proofs.Common.{◌≡◌, ℕ, ◌+◌, ◌*◌, ◌/◌, ◌%◌, ◌<◌, List, length, sym, ap, ◌∙◌, arith}
use Rattle.std.specs.Prelude.{Some, None, slice_get, option_copied}
use Rattle.byte_text.specs.Names.{Bytes}
use Rattle.world_data.specs.Limits.{take_frames}
use Rattle.subscriber_queue.specs.Packed.{packed}
use Rattle.subscriber_queue.proofs.Packing.{block_at, past_blocks, last_at}
use Rattle.subscriber_queue.proofs.blocks.Blocks.at.Goals as goal

pub at-requires-in-None : goal.at-requires-in-None
at-requires-in-None c =
    let k = c.self.inside in
    let i = c.args.i in
    let none : slice_get k.full (i / 64) ≡ None = sym c.at.ensures ∙ ap option_copied c.in-None.is in
    let long = ap length c.self.view_is in
    (past_blocks k.full k.last.list (i / 64) (i % 64) c.self.invariant.full none (omega (arith, long)) c.self.invariant.open_.few).1

pub returns-in-Some : goal.returns-in-Some
returns-in-Some c =
    let k = c.self.inside in
    let i = c.args.i in
    let at : slice_get k.full (i / 64) ≡ Some c.in-Some.block.now = sym c.at.ensures ∙ ap option_copied c.in-Some.is in
    let whole : i ≡ take_frames * (i / 64) + i % 64 = omega arith in
    ap (λ (fs : List Bytes). slice_get fs i) (sym c.self.view_is) ∙ ap (slice_get (packed k.full k.last)) whole
    ∙ block_at k.full k.last.list (i / 64) (i % 64) c.in-Some.block.now c.self.invariant.full at (omega arith)
    ∙ c.at-in-Some.ensures

pub returns-in-None : goal.returns-in-None
returns-in-None c =
    let k = c.self.inside in
    let i = c.args.i in
    let none : slice_get k.full (i / 64) ≡ None = sym c.at.ensures ∙ ap option_copied c.in-None.is in
    let long = ap length c.self.view_is in
    let past = past_blocks k.full k.last.list (i / 64) (i % 64) c.self.invariant.full none (omega (arith, long)) c.self.invariant.open_.few in
    let whole : i ≡ take_frames * (i / 64) + i % 64 = omega arith in
    ap (λ (fs : List Bytes). slice_get fs i) (sym c.self.view_is) ∙ ap (slice_get (packed k.full k.last)) whole
    ∙ last_at k.full k.last.list (i / 64) (i % 64) c.self.invariant.full past.0
    ∙ c.at-in-None.ensures
