use Rattle.std.proofs.Common.{ap, ◌∙◌}
use Rattle.session_run.specs.Sessions.{SessionState}
use Rattle.session_run.proofs.PartShown.{part_owed}
use Rattle.session_run.proofs.sessions.Session.on_part.Goals as goal

pub returns-else-is_err-clause-owed : goal.returns-else-is_err-clause-owed
returns-else-is_err-clause-owed g c =
    rw (← c.self.view_is) (part_owed c.self.inside.taking _ c.self.inside.out c.put_part.new.out c.self.inside.number c.args.part.now c.args.bytes.now
    c.put_part.result (ap (λ (x : SessionState). x.out) c.self.view_is ∙ c.requires.ready.1) c.if-is_err.ensures.value c.put_part.ensures.ok)
