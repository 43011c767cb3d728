use Rattle.std.proofs.Common.{◌≡◌, length, refl, ◌∙◌, subst, [], ◌∷◌, arith, rules}
use Rattle.std.specs.Prelude.{Some, slice_get, vec_len}
use Rattle.std.proofs.lemmas.Option.{slice_get_read}
use Rattle.fence_model.specs.Messages.{Message}
use Rattle.world_model.specs.Halls.{frames_for}
use Rattle.delivery_model.specs.Staging.{listens}
use Rattle.session_table.specs.Mail.{Stages}
use Rattle.session_table.specs.Sessions.{State, session_of}
use Rattle.session_table.specs.Fans.{IsBrought}
use Rattle.session_table.specs.FanLaws.{done_start, done_next, done_length, done_all, same_set, same_done_to, one_brought}
use Rattle.session_table.proofs.fans.stage_message.Goals as goal

pub loop-i-init : goal.loop-i-init
loop-i-init c = record {
  message = c.new-sending.ensures;
  done = done_start (IsBrought ((c.args.name.now, c.args.payload.now) ∷ [])) c.args.sessions.now.items;
}

pub loop-i-preserved : goal.loop-i-preserved
loop-i-preserved c =
    let l = c.loop-i in
    let m : Message = (c.args.name.now, c.args.payload.now) in
    let s = c.index_mut.result.now in
    let was : vec_len c.args.sessions.now ≡ length c.args.sessions.now.items = search rules in
    let long = done_length (IsBrought (m ∷ [])) l.i c.args.sessions.now.items l.sessions.items l.invariant.done in
    let at : slice_get l.sessions.items l.i ≡ Some s = slice_get_read l.sessions.items (length l.sessions.items) l.i s refl (omega (arith, c.loop-i-test.true, c.len-i-end.ensures, was, long)) c.index_mut.ensures.value in
    let staged : Stages (frames_for m (listens (session_of s))) s.mail c.stage_sent.new.self.mail =
    subst (λ (n : Message). Stages (frames_for n (listens (session_of s))) s.mail c.stage_sent.new.self.mail) l.invariant.message c.in_ok-stage_sent.ensures.staged in
    record {
      message = c.stage_sent.ensures.message ∙ l.invariant.message;
      done = done_next (IsBrought (m ∷ [])) l.i c.args.sessions.now.items l.sessions.items s c.stage_sent.new.self l.invariant.done at
          (one_brought m s c.stage_sent.new.self c.stage_sent.ensures.same staged);
    }

pub returns-in_err-stage_sent-clause-same : goal.returns-in_err-stage_sent-clause-same
returns-in_err-stage_sent-clause-same c =
    let l = c.loop-i in
    let m : Message = (c.args.name.now, c.args.payload.now) in
    let s = c.index_mut.result.now in
    let was : vec_len c.args.sessions.now ≡ length c.args.sessions.now.items = search rules in
    let long = done_length (IsBrought (m ∷ [])) l.i c.args.sessions.now.items l.sessions.items l.invariant.done in
    let at : slice_get l.sessions.items l.i ≡ Some s = slice_get_read l.sessions.items (length l.sessions.items) l.i s refl (omega (arith, c.loop-i-test.true, c.len-i-end.ensures, was, long)) c.index_mut.ensures.value in
    same_set l.sessions.items l.i s c.stage_sent.new.self at c.stage_sent.ensures.same
    ∙ same_done_to (IsBrought (m ∷ [])) (λ (t u : State) (b : IsBrought (m ∷ []) t u). b.same) l.i c.args.sessions.now.items l.sessions.items l.invariant.done

pub returns-clause-same : goal.returns-clause-same
returns-clause-same c = same_done_to (IsBrought ((c.args.name.now, c.args.payload.now) ∷ [])) (λ (t u : State) (b : IsBrought ((c.args.name.now, c.args.payload.now) ∷ []) t u). b.same) c.loop-i.i c.args.sessions.now.items c.loop-i.sessions.items c.loop-i.invariant.done

pub returns-clause-staged : goal.returns-clause-staged
returns-clause-staged c =
    let was : vec_len c.args.sessions.now ≡ length c.args.sessions.now.items = search rules in
    done_all (IsBrought ((c.args.name.now, c.args.payload.now) ∷ [])) c.loop-i.i c.args.sessions.now.items c.loop-i.sessions.items (omega (arith, c.loop-i-test.false, c.len-i-end.ensures, was)) c.loop-i.invariant.done
