use Rattle.std.proofs.Common.{◌≡◌, false, take}
use Rattle.std.specs.List.{list_any}
use Rattle.session_run.specs.Live.{sets_channel}
use Rattle.session_run.proofs.live.sets_one.Given as goal

abbrev pub invariant-loop-at : goal.invariant-loop-at
invariant-loop-at l = list_any (sets_channel l.number) (take l.at l.asked) ≡ false
