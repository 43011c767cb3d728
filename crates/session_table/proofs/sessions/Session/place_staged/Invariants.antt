use Rattle.std.proofs.Common.{◌≡◌, true, take, drop}
use Rattle.world_model.specs.Halls.{is_live, placed_each}
use Rattle.session_table.specs.Sessions.{session_of}
use Rattle.session_table.proofs.sessions.Session.place_staged.Given as goal

-- the first frames were placed, and a session that is served has the others
abbrev pub invariant-loop : goal.invariant-loop
invariant-loop l = record {
  same : session_of l.self ≡ placed_each (session_of l.initial.self) (take l.counter l.initial.self.mail.staged);
  left : is_live (session_of l.self) ≡ true → l.self.mail.staged ≡ drop l.counter l.initial.self.mail.staged;
  replies : is_live (session_of l.self) ≡ true → l.self.mail.replies ≡ l.initial.self.mail.replies;
}
