use Rattle.std.proofs.Common.{◌≡◌, ◌≤◌, ◌<◌, ℕ, ap, ◌∙◌, sym, subst, map, length, List, arith}
use Rattle.byte_text.specs.Replies.{frame_text}
use Rattle.world_data.specs.Limits.{max_subs}
use Rattle.world_data.specs.declared.channels.Channel.{Channel}
use Rattle.world_model.specs.Effects.{Effect}
use Rattle.world_model.specs.Refusals.{refusal_reply}
use Rattle.world_model.specs.Replies.{confirmations}
use Rattle.world_model.specs.Subscriptions.{Sub, with_subs}
use Rattle.world_model.specs.declared.faults.Refusal.TheVariants as refusal
use Rattle.delivery_model.specs.Confirming.{subscribing_fits}
use Rattle.session_table.specs.Sessions.{AreSoundSubs}
use Rattle.reply_text.specs.Confirmations.{called_of}
use Rattle.keyspace.specs.Entries.{objects_in}
use Rattle.object_plans.specs.Moves.{world_with}
use Rattle.delivery_model.specs.Plans.{subs_of}
use Rattle.channel_plans.specs.Subscribing.{subscribing}
use Rattle.channel_plans.proofs.Confirming.{accepted, refused, it_subscribes, sound_all, held_few, short_words}
use Rattle.object_plans.specs.ChannelWeights.{says_beside}
use Rattle.channel_plans.proofs.subscribing.plan_subscribe.Goals as goal

pub returns-in-Ok : goal.returns-in-Ok
returns-in-Ok c = λ (cs : List Channel) (now : ℕ) light.
    let os = objects_in c.args.context.objects.now in
    let w = world_with cs os in
    let held = c.args.context.subs.now in
    let pattern = c.args.pattern in
    let words = c.args.words.now in
    let same : c.in_ok-more.more ≡ held = c.in_ok-more.ensures in
    let subs_are : c.confirm_each.new.subs ≡ with_subs held (subs_of pattern words) = c.in-Ok.ensures.subs ∙ ap (λ (h : List Sub). with_subs h (subs_of pattern words)) same in
    let frames_are : c.in-Ok.frames.items ≡ map frame_text (confirmations (called_of pattern) held (subs_of pattern words)) = c.in-Ok.ensures.frames ∙ ap (λ (h : List Sub). map frame_text (confirmations (called_of pattern) h (subs_of pattern words))) same in
    let few : length (with_subs held (subs_of pattern words)) ≤ max_subs = subst (λ (l : List Sub). length l ≤ max_subs) subs_are c.in-Ok.ensures.few in
    let short = short_words pattern words (omega (arith, c.if-len-gt-MAX_WORDS.false, c.len.ensures)) c.requires.names in
    let is = accepted w now held words pattern short few in
    let fit = subscribing_fits w now held (subscribing pattern words) (it_subscribes pattern words) short (held_few held (subs_of pattern words) few) in
    record {
      frames = frames_are ∙ ap (λ (e : Effect). map frame_text e.replies) (sym is);
      fit = fit;
      subs = subs_are ∙ ap (λ (e : Effect). with_subs held e.subs) (sym is);
      sound = subst AreSoundSubs (sym subs_are) (sound_all held (subs_of pattern words) c.requires.sound c.requires.patterns);
      no_writes = ap (λ (e : Effect). e.writes) is;
      goes_on = ap (λ (e : Effect). e.closes) is;
    }

pub returns-in-Err-TooMany : goal.returns-in-Err-TooMany
returns-in-Err-TooMany c = λ (cs : List Channel) (now : ℕ) light.
    let os = objects_in c.args.context.objects.now in
    let held = c.args.context.subs.now in
    let over = c.in-Err-TooMany.ensures.too_many c.in-Err-TooMany.field-0-is in
    let more : max_subs < length (with_subs held (subs_of c.args.pattern c.args.words.now)) = subst (λ (h : List Sub). max_subs < length (with_subs h (subs_of c.args.pattern c.args.words.now))) c.in_ok-more.ensures over in
    says_beside cs os c.args.context.total c.requires.kept light _ (refusal_reply refusal.TooManySubscriptions) c.in_ok-refusal-in-Err-TooMany.refusal (refused (world_with cs os) now held c.args.words.now c.args.pattern more) c.in_ok-refusal-in-Err-TooMany.ensures
