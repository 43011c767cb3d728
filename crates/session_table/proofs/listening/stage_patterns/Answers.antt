use Rattle.std.proofs.Common.{List, take, sym, ◌∙◌, subst, arith}
use Rattle.std.specs.Prelude.{[], ◌∷◌, if◌then◌else◌}
use Rattle.std.proofs.lemmas.List.{take_all}
use Rattle.byte_text.specs.Names.{Bytes}
use Rattle.world_model.specs.Subscriptions.{Sub}
use Rattle.world_model.specs.Halls.{pattern_meets, pattern_frame}
use Rattle.session_table.specs.Mail.{Stages}
use Rattle.fence_model.specs.Messages.{Message}
use Rattle.session_table.specs.FanLaws.{stages_both}
use Rattle.session_table.proofs.Heard.{met, met_more}
use Rattle.session_table.proofs.listening.stage_patterns.Goals as goal

pub loop-i-preserved : goal.loop-i-preserved
loop-i-preserved c =
    let l = c.loop-i in
    let m : Message = c.args.sending.now in
    let subs = c.args.subs.now in
    let s = c.at.result.now in
    record {
      message = c.stage_for.ensures.message ∙ l.invariant.message;
      frames = c.stage_for.ensures.frames ∙ l.invariant.frames;
      staged = subst (λ (fs : List Bytes). Stages fs c.args.mail.now c.stage_for.new.mail) (sym (met_more m subs l.i s c.at.ensures))
          (stages_both (met m (take l.i subs)) (if pattern_meets m.0 s then pattern_frame s.word m ∷ [] else []) c.args.mail.now l.mail c.stage_for.new.mail l.invariant.staged
          (subst (λ (n : Message). Stages (if pattern_meets n.0 s then pattern_frame s.word n ∷ [] else []) l.mail c.stage_for.new.mail) l.invariant.message c.in_ok-stage_for.ensures.staged));
    }

pub returns-clause-staged : goal.returns-clause-staged
returns-clause-staged c =
    let subs = c.args.subs.now in
    subst (λ (ss : List Sub). Stages (met c.args.sending.now ss) c.args.mail.now c.loop-i.mail) (take_all c.loop-i.i subs (omega (arith, c.loop-i-test.false, c.len-i-end.ensures.count))) c.loop-i.invariant.staged
