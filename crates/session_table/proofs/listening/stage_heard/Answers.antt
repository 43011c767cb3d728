use Rattle.std.proofs.Common.{◌∙◌, sym, subst, [], ◌∷◌}
use Rattle.std.specs.Prelude.{OnOk, if◌then◌else◌}
use Rattle.std.specs.List.{list_any}
use Rattle.std.proofs.lemmas.Result.{on_ok_weaker}
use Rattle.world_model.specs.Halls.{frames_for, holds_name, message_frame}
use Rattle.fence_model.specs.Messages.{Message}
use Rattle.session_table.specs.Mail.{Stages}
use Rattle.session_table.specs.FanLaws.{stages_both, stages_enough}
use Rattle.session_table.proofs.Heard.{met}
use Rattle.session_table.proofs.listening.stage_heard.Goals as goal

pub returns-then-not-has_room_left-clause-staged : goal.returns-then-not-has_room_left-clause-staged
returns-then-not-has_room_left-clause-staged c = stages_enough (frames_for c.args.sending.now c.args.subs.now) c.args.mail.now (sym c.has_room_left.ensures ∙ c.if-not-has_room_left.true)

pub returns-clause-staged : goal.returns-clause-staged
returns-clause-staged c =
    let m : Message = c.args.sending.now in
    on_ok_weaker c.stage_patterns.result
    (stages_both (if list_any (holds_name m.0) c.args.subs.now then message_frame m ∷ [] else []) (met m c.args.subs.now) c.args.mail.now c.stage_name.new.mail c.stage_patterns.new.mail c.in_ok-stage_name.ensures.staged)
    (subst (λ (n : Message). OnOk c.stage_patterns.result (Stages (met n c.args.subs.now) c.stage_name.new.mail c.stage_patterns.new.mail)) c.stage_name.ensures.message c.stage_patterns.ensures.staged)
