use Rattle.std.proofs.Common.{subst}
use Rattle.std.specs.Prelude.{OnOk}
use Rattle.fence_model.specs.Messages.{Message}
use Rattle.world_model.specs.Halls.{frames_for}
use Rattle.delivery_model.specs.Staging.{listens}
use Rattle.session_table.specs.Mail.{Stages}
use Rattle.session_table.specs.Sessions.{session_of}
use Rattle.session_table.proofs.sessions.Session.stage_message.Goals as goal

pub returns-clause-staged : goal.returns-clause-staged
returns-clause-staged c =
    let s = c.args.self.now in
    subst (λ (m : Message). OnOk c.stage_sent.result (Stages (frames_for m (listens (session_of s))) s.mail c.stage_sent.new.self.mail))
    c.new-sending.ensures c.stage_sent.ensures.staged
