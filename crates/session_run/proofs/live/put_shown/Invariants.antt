use Rattle.std.proofs.Common.{◌≡◌, take}
use Rattle.session_run.specs.Live.{shown_bytes}
use Rattle.session_run.proofs.live.put_shown.Given as goal

abbrev pub invariant-loop-at : goal.invariant-loop-at
invariant-loop-at l = l.out ≡ shown_bytes l.number (take l.at l.frames.list)
