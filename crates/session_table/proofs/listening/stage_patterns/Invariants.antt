use Rattle.std.proofs.Common.{◌≡◌, take, map}
use Rattle.std.specs.Prelude.{filter}
use Rattle.world_model.specs.Halls.{pattern_meets, pattern_frame}
use Rattle.session_table.specs.Mail.{Stages}
use Rattle.session_table.proofs.listening.stage_patterns.Given as goal

-- it was staged for the first subscriptions
abbrev pub invariant-loop-i : goal.invariant-loop-i
invariant-loop-i l = record {
  message : l.sending ≡ l.initial.sending;
  frames : l.mail.frames ≡ l.initial.mail.frames;
  staged : Stages (map (λ s. pattern_frame s.word l.initial.sending) (filter (pattern_meets l.initial.sending.0) (take l.i l.subs))) l.initial.mail l.mail;
}
