use Rattle.std.proofs.Common.{inl, inr, sym, ap, ◌∙◌}
use Rattle.world_model.specs.Halls.{is_live}
use Rattle.session_table.specs.Sessions.{State, session_of, stage_of}
use Rattle.session_table.specs.declared.sessions.Stage.{Stage}
use Rattle.session_table.proofs.Ends.{serves}
use Rattle.session_table.proofs.sessions.Session.is_live.Goals as goal

pub returns-in-Live : goal.returns-in-Live
returns-in-Live c =
    sym (ap (λ (g : Stage). is_live (record (session_of c.args.self.now) { stage = stage_of g })) c.in-Live.is) ∙ serves c.args.self.now c.self.inside.stage (ap (λ (s : State). s.stage) c.self.view_is)

pub returns-in-Cut : goal.returns-in-Cut
returns-in-Cut c =
    let same = serves c.args.self.now c.self.inside.stage (ap (λ (s : State). s.stage) c.self.view_is) in
    elim c.in-Cut.is [
      | inl e ↦ sym (ap (λ (g : Stage). is_live (record (session_of c.args.self.now) { stage = stage_of g })) e) ∙ same
      | inr e ↦ sym (ap (λ (g : Stage). is_live (record (session_of c.args.self.now) { stage = stage_of g })) e) ∙ same
    ]
