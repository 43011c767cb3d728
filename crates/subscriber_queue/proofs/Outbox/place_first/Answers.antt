use Rattle.std.proofs.Common.{◌≡◌, ℕ, ◌+◌, ◌≤◌, ◌<◌, Bool, true, false, List, [], ◌∷◌, ◌++◌, length, take, drop, sym, ap, ◌∙◌, arith}
use Rattle.std.specs.Prelude.{Some, slice_get}
use Rattle.std.proofs.lemmas.List.{length-take-le}
use Rattle.byte_text.specs.Names.{Bytes}
use Rattle.world_data.specs.Frames.{frame_bytes}
use Rattle.subscriber_queue.specs.Waiting.{Waiting, takes_first}
use Rattle.subscriber_queue.proofs.Marks.{rest_at, front_at, bytes_both, bytes_one}
use Rattle.subscriber_queue.proofs.Outbox.place_first.Goals as goal

pub returns-then-not-has_room-clause-room : goal.returns-then-not-has_room-clause-room
returns-then-not-has_room-clause-room c =
    let k = c.self.inside in
    let staged : c.args.self.now.staged ≡ c.at.result.now ∷ drop (k.waiting + 1) k.blocks =
    sym (ap (λ (w : Waiting). w.staged) c.self.view_is) ∙ rest_at k.blocks k.waiting c.at.result.now c.at.ensures in
    sym (ap (takes_first c.args.self.now.frames) staged ∙ sym c.has_room.ensures.room ∙ c.if-not-has_room.true)

pub invariant_of-self : goal.invariant_of-self
invariant_of-self c =
    let k = c.self.inside in
    let f = c.at.result.now in
    let frames : take k.waiting k.blocks ≡ c.args.self.now.frames = ap (λ (w : Waiting). w.frames) c.self.view_is in
    let count : length c.args.self.now.frames ≡ k.waiting = sym (ap length frames) ∙ length-take-le k.waiting k.blocks c.self.invariant.0 in
    let bytes : k.bytes ≡ frame_bytes c.args.self.now.frames = c.self.invariant.2 ∙ ap frame_bytes frames in
    let few = c.has_room.ensures.few c.if-not-has_room.false in
    let light = c.has_room.ensures.light c.if-not-has_room.false in
    let last : frame_bytes (take (k.waiting + 1) k.blocks) ≡ frame_bytes (take k.waiting k.blocks) + frame_bytes (f ∷ []) =
    ap frame_bytes (front_at k.blocks k.waiting f c.at.ensures) ∙ bytes_both (take k.waiting k.blocks) (f ∷ []) in
    let one = bytes_one f in
    let was = c.self.invariant.2 in
    let within = c.self.invariant.0 in
    let more = c.if-self-len.false in
    let long = c.len.ensures in
    (omega (arith, within, more, long), omega (arith, few, count), omega (arith, last, one, was), omega (arith, light, bytes))

pub returns-clause-room : goal.returns-clause-room
returns-clause-room c =
    let k = c.self.inside in
    let staged : c.args.self.now.staged ≡ c.at.result.now ∷ drop (k.waiting + 1) k.blocks =
    sym (ap (λ (w : Waiting). w.staged) c.self.view_is) ∙ rest_at k.blocks k.waiting c.at.result.now c.at.ensures in
    sym (ap (takes_first c.args.self.now.frames) staged ∙ sym c.has_room.ensures.room ∙ c.if-not-has_room.false)

pub returns-clause-frames : goal.returns-clause-frames
returns-clause-frames c =
    let k = c.self.inside in
    let f = c.at.result.now in
    let staged : c.args.self.now.staged ≡ f ∷ drop (k.waiting + 1) k.blocks =
    sym (ap (λ (w : Waiting). w.staged) c.self.view_is) ∙ rest_at k.blocks k.waiting f c.at.ensures in
    front_at k.blocks k.waiting f c.at.ensures ∙ ap (λ (w : Waiting). w.frames ++ f ∷ []) c.self.view_is
    ∙ ap (λ (fs : List Bytes). c.args.self.now.frames ++ take 1 fs) (sym staged)

pub returns-clause-staged : goal.returns-clause-staged
returns-clause-staged c =
    let k = c.self.inside in
    let staged : c.args.self.now.staged ≡ c.at.result.now ∷ drop (k.waiting + 1) k.blocks =
    sym (ap (λ (w : Waiting). w.staged) c.self.view_is) ∙ rest_at k.blocks k.waiting c.at.result.now c.at.ensures in
    sym (ap (drop 1) staged)
