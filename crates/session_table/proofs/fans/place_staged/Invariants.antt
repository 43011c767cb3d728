use Rattle.session_table.specs.Fans.{DoneTo, IsPlaced}
use Rattle.session_table.proofs.fans.place_staged.Given as goal

-- all was placed of the first sessions
abbrev pub invariant-loop-i : goal.invariant-loop-i
invariant-loop-i l = DoneTo IsPlaced l.i l.initial.sessions.items l.sessions.items
