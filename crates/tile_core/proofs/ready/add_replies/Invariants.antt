use Rattle.std.proofs.Common.{◌≡◌, ◌++◌, take}
use Rattle.session_table.specs.Sessions.{session_of}
use Rattle.tile_core.proofs.ready.add_replies.Given as goal

-- the first frames are replies
abbrev pub invariant-loop-frame : goal.invariant-loop-frame
invariant-loop-frame g l = record {
  same : session_of l.caller ≡ session_of l.initial.caller;
  staged : l.caller.mail.staged ≡ l.initial.caller.mail.staged;
  replies : l.caller.mail.replies ≡ l.initial.caller.mail.replies ++ take l.frame-index l.frames;
}
