use Rattle.std.proofs.Common.{sym, ap, ◌∙◌, ◌++◌, ◌-◌, length, take, drop, length-drop, arith}
use Rattle.std.proofs.lemmas.List.{take_all}
use Rattle.byte_text.specs.Names.{Bytes}
use Rattle.session_run.specs.Live.{shown_bytes}
use Rattle.session_run.proofs.Showing.{shown_next}
use Rattle.session_run.proofs.live.put_shown.Goals as goal

pub loop-at-preserved : goal.loop-at-preserved
loop-at-preserved c =
    let frames = c.args.frames.now.list in
    let frame = c.at-frame.result.now in
    let start = c.live_part-start.result in
    let whole = take_all (length frame - start) (drop start frame) (omega (arith, length-drop start frame)) in
    c.in_default.ensures.ok ∙ ap (λ (l : Bytes). c.loop-at.out ++ l) whole ∙ ap (λ (l : Bytes). l ++ drop start frame) c.loop-at.invariant
    ∙ ap (λ (l : Bytes). shown_bytes c.args.number (take c.loop-at.at frames) ++ l) c.live_part-start.ensures.shown
    ∙ sym (shown_next c.args.number frames c.loop-at.at frame c.at-frame.ensures)
