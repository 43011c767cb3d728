use Rattle.std.proofs.Common.{◌≡◌, take, flat_map}
use Rattle.script_text.specs.Escaped.{frame_line}
use Rattle.replay_run.proofs.outputs.frame_lines.Given as goal

abbrev pub invariant-loop-i : goal.invariant-loop-i
invariant-loop-i l = l.text ≡ flat_map frame_line (take l.i l.frames.list)
