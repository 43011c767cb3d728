use Rattle.std.proofs.Common.{◌≡◌, [], ◌∷◌}
use Rattle.session_table.specs.Fans.{DoneTo, IsBrought}
use Rattle.session_table.proofs.fans.stage_message.Given as goal

-- it was staged for the first sessions
abbrev pub invariant-loop-i : goal.invariant-loop-i
invariant-loop-i l = record {
  message : l.sending ≡ (l.name, l.payload);
  done : DoneTo (IsBrought ((l.name, l.payload) ∷ [])) l.i l.initial.sessions.items l.sessions.items;
}
