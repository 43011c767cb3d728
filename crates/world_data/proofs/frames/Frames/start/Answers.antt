use Rattle.std.proofs.Common.{◌≡◌, ℕ, ◌-◌, suc, length, take, ap, ◌∙◌, arith}
use Rattle.world_data.specs.Frames.{text_of}
use Rattle.world_data.proofs.FrameEnds.{more_text}
use Rattle.world_data.proofs.frames.Frames.start.Goals as goal

pub returns-else-i-eq0-clause-is : goal.returns-else-i-eq0-clause-is
returns-else-i-eq0-clause-is c =
    let one : suc (c.args.i - 1) ≡ c.args.i = omega arith in
    c.end.ensures.is ∙ ap (λ (n : ℕ). length (text_of (take n c.args.self.now.list))) one

pub returns-else-i-eq0-clause-before : goal.returns-else-i-eq0-clause-before
returns-else-i-eq0-clause-before c =
    let one : suc (c.args.i - 1) ≡ c.args.i = omega arith in
    let at = c.end.ensures.is ∙ ap (λ (n : ℕ). length (text_of (take n c.args.self.now.list))) one in
    let more = more_text c.args.i c.args.self.now.list in
    omega (arith, at, more)
