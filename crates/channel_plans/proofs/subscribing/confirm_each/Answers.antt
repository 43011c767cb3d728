use Rattle.std.proofs.Common.{◌≡◌, ◌<◌, ap, ◌∙◌, sym, subst, map, take, length, List, ◌++◌, ◌∷◌, [], arith}
use Rattle.std.proofs.lemmas.List.{take_all}
use Rattle.std.proofs.lemmas.Result.{err_from_is_err_and}
use Rattle.byte_text.specs.Names.{Bytes}
use Rattle.byte_text.specs.Replies.{frame_text}
use Rattle.world_data.specs.Limits.{max_subs}
use Rattle.world_model.specs.Replies.{confirmation, confirmations}
use Rattle.world_model.specs.Subscriptions.{Sub, with_sub, with_subs}
use Rattle.reply_text.specs.Confirmations.{called_of}
use Rattle.session_table.specs.Subscribed.{sub}
use Rattle.delivery_model.specs.Plans.{subs_of}
use Rattle.channel_plans.proofs.Confirming.{with_more, frames_more, subs_more, too_many_first}
use Rattle.channel_plans.proofs.subscribing.confirm_each.Goals as goal

pub loop-i-preserved : goal.loop-i-preserved
loop-i-preserved c =
    let old = c.args.subs.now in
    let pattern = c.args.pattern in
    let words = c.args.words.now in
    let front = subs_of pattern (take c.loop-i.i words) in
    let s = sub pattern c.at.result.now in
    let more = subs_more pattern words c.loop-i.i c.at.result.now c.at.ensures in
    record {
      held = c.in_ok-confirm_one.ensures.subs ∙ ap (λ (h : List Sub). with_sub h s) c.loop-i.invariant.held ∙ sym (with_more old front s) ∙ ap (with_subs old) (sym more);
      told = c.in_ok-confirm_one.ensures.frames
          ∙ ap (λ (fs : List Bytes). fs ++ frame_text (confirmation (called_of pattern) (s, length (with_sub c.loop-i.subs s))) ∷ []) c.loop-i.invariant.told
          ∙ ap (λ (h : List Sub). map frame_text (confirmations (called_of pattern) old front) ++ frame_text (confirmation (called_of pattern) (s, length (with_sub h s))) ∷ []) c.loop-i.invariant.held
          ∙ sym (frames_more (called_of pattern) old front s) ∙ ap (λ (l : List Sub). map frame_text (confirmations (called_of pattern) old l)) (sym more);
    }

pub returns-clause-subs : goal.returns-clause-subs
returns-clause-subs c =
    let words = c.args.words.now in
    let all : take c.loop-i.i words ≡ words = take_all c.loop-i.i words (omega (arith, c.loop-i-test.false, c.len-i-end.ensures)) in
    c.loop-i.invariant.held ∙ ap (λ (ws : List Bytes). with_subs c.args.subs.now (subs_of c.args.pattern ws)) all

pub returns-clause-frames : goal.returns-clause-frames
returns-clause-frames c =
    let words = c.args.words.now in
    let all : take c.loop-i.i words ≡ words = take_all c.loop-i.i words (omega (arith, c.loop-i-test.false, c.len-i-end.ensures)) in
    c.loop-i.invariant.told ∙ ap (λ (ws : List Bytes). map frame_text (confirmations (called_of c.args.pattern) c.args.subs.now (subs_of c.args.pattern ws))) all

pub returns-in_err-confirm_one-clause-too_many : goal.returns-in_err-confirm_one-clause-too_many
returns-in_err-confirm_one-clause-too_many c =
    let s = sub c.args.pattern c.at.result.now in
    let p = err_from_is_err_and c.from_residual.result c.from_residual.ensures.1 in
    let over = c.in_err-confirm_one.ensures.too_many in
    rw (p.1, p.2) (λ e. too_many_first c.args.subs.now c.args.pattern c.args.words.now c.loop-i.i c.at.result.now c.at.ensures (subst (λ (h : List Sub). max_subs < length (with_sub h s)) c.loop-i.invariant.held (over e)))
