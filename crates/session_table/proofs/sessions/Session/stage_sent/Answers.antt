use Rattle.std.proofs.Common.{◌≡◌, OnOk, Bool, true, [], sym, ◌∙◌, subst}
use Rattle.std.specs.Prelude.{if◌then◌else◌}
use Rattle.world_model.specs.Halls.{is_live, frames_for}
use Rattle.delivery_model.specs.Staging.{listens}
use Rattle.session_table.specs.Mail.{Stages}
use Rattle.session_table.specs.Sessions.{State, session_of, stage_of}
use Rattle.session_table.proofs.Ends.{none_heard}
use Rattle.session_table.proofs.sessions.Session.stage_sent.Goals as goal

pub returns-then-not-is_live-clause-staged : goal.returns-then-not-is_live-clause-staged
returns-then-not-is_live-clause-staged c = none_heard c.args.sending.now c.args.self.now (sym c.is_live.ensures ∙ c.if-not-is_live.true)

pub returns-clause-staged : goal.returns-clause-staged
returns-clause-staged c =
    let k = c.self.inside in
    let was : State = record { number = k.number; mail = k.mail; subs = k.subs; stage = stage_of k.stage } in
    let lives : is_live (session_of was) ≡ true = subst (λ (s : State). is_live (session_of s) ≡ true) (sym c.self.view_is) (sym c.is_live.ensures ∙ c.if-not-is_live.false) in
    subst (λ (s : State). OnOk c.stage_heard.result (Stages (frames_for c.args.sending.now (listens (session_of s))) s.mail c.stage_heard.new.mail)) c.self.view_is
    (subst (λ (b : Bool). OnOk c.stage_heard.result (Stages (frames_for c.args.sending.now (if b then k.subs else [])) k.mail c.stage_heard.new.mail)) (sym lives) c.stage_heard.ensures.staged)
