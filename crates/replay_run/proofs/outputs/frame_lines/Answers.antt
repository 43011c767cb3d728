use Rattle.std.proofs.Common.{ℕ, List, ◌++◌, take, sym, ap, ◌∙◌}
use Rattle.std.proofs.Math.Numerals.{add-one}
use Rattle.std.specs.Prelude.{flat_map}
use Rattle.script_text.specs.Escaped.{frame_line}
use Rattle.replay_run.proofs.Shown.{one_more}
use Rattle.replay_run.proofs.outputs.frame_lines.Goals as goal

pub loop-i-preserved : goal.loop-i-preserved
loop-i-preserved c =
    let frames = c.args.frames.now.list in
    c.in_ok-push_frame_line.ensures.ok ∙ ap (λ (t : List ℕ). t ++ frame_line c.at.result.now) c.loop-i.invariant ∙ sym (one_more frame_line frames c.loop-i.i c.at.result.now c.at.ensures) ∙ ap (λ (n : ℕ). flat_map frame_line (take n frames)) (sym (add-one c.loop-i.i))
