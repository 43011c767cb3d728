use Rattle.std.proofs.Common.{◌≡◌, ◌≤◌, ◌<◌, length, subst, ◌∙◌, sym, lit<, add-zero, arith, List}
use Rattle.byte_text.specs.Names.{Bytes}
use Rattle.byte_text.specs.Replies.{number, frame_text}
use Rattle.ordered_lists.specs.Lists.{put_in}
use Rattle.world_data.specs.Limits.{max_reply, max_weight}
use Rattle.world_data.specs.Records.{weight}
use Rattle.world_data.specs.Worlds.{after, channel_before}
use Rattle.world_data.specs.declared.worlds.Change.TheVariants as change
use Rattle.world_model.specs.Refusals.{refusal_reply}
use Rattle.world_model.specs.Subscriptions.{Sub}
use Rattle.world_model.specs.declared.faults.Refusal.TheVariants as refusal
use Rattle.keyspace.specs.Entries.{objects_in}
use Rattle.record_writer.specs.Lengths.{len_of_channel}
use Rattle.object_plans.specs.Moves.{world_with}
use Rattle.object_plans.specs.Answering.{count_fits}
use Rattle.object_plans.specs.ChannelWeights.{weight_beside}
use Rattle.channel_plans.proofs.ChannelEffects.{too_many, too_heavy, set}
use Rattle.channel_plans.proofs.ChannelSums.{put_part}
use Rattle.object_plans.specs.ChannelWeights.{says_beside}
use Rattle.channel_plans.proofs.setchans.plan_settled.Goals as goal

pub returns-then-is_one_too_many : goal.returns-then-is_one_too_many
returns-then-is_one_too_many c = λ (held : List Sub).
    let os = objects_in c.args.context.objects.now in
    let cs = c.args.context.hub.now.channels in
    says_beside cs os c.args.context.total c.requires.kept (omega (arith, c.requires.light, c.requires.channels)) _ (refusal_reply refusal.TooManyChannels) c.in_ok-refusal.refusal
    (too_many (world_with cs os) c.args.channel (sym c.is_one_too_many.ensures ∙ c.if-is_one_too_many.true)) c.in_ok-refusal.ensures

pub returns-then-context-weight-gt-MAX_WEIGHT : goal.returns-then-context-weight-gt-MAX_WEIGHT
returns-then-context-weight-gt-MAX_WEIGHT c = λ (held : List Sub).
    let os = objects_in c.args.context.objects.now in
    let cs = c.args.context.hub.now.channels in
    let x = c.args.channel in
    let more : max_weight < weight (after (world_with cs os) (change.SetChan x)) = omega (arith, c.if-context-weight-gt-MAX_WEIGHT.true, c.weight_after-weight.ensures.value, weight_beside (put_in channel_before x cs) os, c.requires.kept.weighed) in
    says_beside cs os c.args.context.total c.requires.kept (omega (arith, c.requires.light, c.requires.channels)) _ (refusal_reply refusal.DatabaseFull) c.in_ok-refusal-2.refusal
    (too_heavy (world_with cs os) x (sym c.is_one_too_many.ensures ∙ c.if-is_one_too_many.false) more) c.in_ok-refusal-2.ensures

pub returns : goal.returns
returns c = λ (held : List Sub).
    let os = objects_in c.args.context.objects.now in
    let cs = c.args.context.hub.now.channels in
    let x = c.args.channel in
    let less : weight (after (world_with cs os) (change.SetChan x)) ≤ max_weight = omega (arith, c.if-context-weight-gt-MAX_WEIGHT.false, c.weight_after-weight.ensures.value, weight_beside (put_in channel_before x cs) os, c.requires.kept.weighed) in
    let frame_is : c.in_ok-count_frame.field-0 ≡ frame_text (number 1) = c.in_ok-count_frame.ensures in
    let part = put_part x cs in (
      record {
        reply = number 1;
        is = set (world_with cs os) x (sym c.is_one_too_many.ensures ∙ c.if-is_one_too_many.false) less;
        frame = frame_is;
        short = subst (λ (f : Bytes). length f ≤ max_reply) (sym frame_is) (count_fits 1 (lit< tt));
        sound = c.requires.sound;
        recorded = c.requires.recorded;
        length_is = c.channel_len-length.ensures.value ∙ sym (add-zero (len_of_channel x));
        small = omega (arith, part, c.channel_len-length.ensures.value, c.weight_after-weight.ensures.value, c.if-context-weight-gt-MAX_WEIGHT.false);
        weight_is = c.weight_after-weight.ensures.value;
      },
      omega (arith, c.if-context-weight-gt-MAX_WEIGHT.false),
    )
