use Rattle.std.proofs.Common.{ℕ, ◌-◌, length, take, drop, sym, ap, ◌∙◌}
use Rattle.std.specs.Prelude.{Some}
use Rattle.byte_text.specs.Names.{Bytes}
use Rattle.world_data.specs.Frames.{text_of}
use Rattle.world_data.proofs.FrameEnds.{frame_at}
use Rattle.world_data.proofs.frames.Frames.at.Goals as goal

pub returns : goal.returns
returns c =
    let list = c.args.self.now.list in
    let i = c.args.i in
    frame_at list i c.requires
    ∙ ap (λ (n : ℕ). Some (take (n - length (text_of (take i list))) (drop (length (text_of (take i list))) (text_of list)))) (sym c.end-end.ensures.is)
    ∙ ap (λ (n : ℕ). Some (take (c.end-end.result - n) (drop n (text_of list)))) (sym c.start-start.ensures.is)
    ∙ ap (λ (t : Bytes). Some (take (c.end-end.result - c.start-start.result) (drop c.start-start.result t))) (sym c.bytes-bytes.ensures.all)
