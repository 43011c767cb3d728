use Rattle.std.proofs.Common.{sym, ap, ◌∙◌}
use Rattle.session_table.specs.Sessions.{session_of}
use Rattle.session_table.proofs.Ends.{ends_live, ends_not}
use Rattle.session_table.proofs.sessions.Session.close.Goals as goal

pub returns-then-is_live-clause-same : goal.returns-then-is_live-clause-same
returns-then-is_live-clause-same c = ap session_of c.end.ensures ∙ ends_live (session_of c.args.self.now) (sym c.is_live.ensures ∙ c.if-is_live.true)

pub returns-else-is_live-clause-same : goal.returns-else-is_live-clause-same
returns-else-is_live-clause-same c = ends_not (session_of c.args.self.now) (sym c.is_live.ensures ∙ c.if-is_live.false)
