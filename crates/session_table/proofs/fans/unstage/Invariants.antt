use Rattle.session_table.specs.Fans.{DoneTo, IsUnstaged}
use Rattle.session_table.proofs.fans.unstage.Given as goal

-- nothing is staged for the first sessions
abbrev pub invariant-loop-i : goal.invariant-loop-i
invariant-loop-i l = DoneTo IsUnstaged l.i l.initial.sessions.items l.sessions.items
