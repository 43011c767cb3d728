use Rattle.std.proofs.Common.{◌≡◌, ◌≤◌, ◌+◌, ℕ, length, map, subst, ap, ◌∙◌, sym, lit<, add-zero, arith, List, [], ◌∷◌}
use Rattle.byte_text.specs.Names.{Bytes}
use Rattle.byte_text.specs.Replies.{number, frame_text}
use Rattle.world_data.specs.Limits.{max_reply}
use Rattle.world_data.specs.Records.{record_len}
use Rattle.fence_model.specs.Writes.{silent}
use Rattle.world_data.specs.declared.worlds.Change.TheVariants as change
use Rattle.world_model.specs.Effects.{changes}
use Rattle.world_model.specs.Subscriptions.{Sub}
use Rattle.delivery_model.specs.Staging.{records_len}
use Rattle.keyspace.specs.Entries.{objects_in}
use Rattle.record_writer.specs.Lengths.{len_of_channel}
use Rattle.object_plans.specs.Moves.{world_with}
use Rattle.object_plans.specs.Beside.{channels_weight}
use Rattle.channel_plans.specs.Planned.{without_names}
use Rattle.object_plans.specs.Answering.{count_fits}
use Rattle.channel_plans.proofs.ChannelEffects.{dropped_some, dropped_none}
use Rattle.record_writer.specs.ChannelSums.{taken_weight}
use Rattle.object_plans.specs.ChannelWeights.{says_beside}
use Rattle.channel_plans.proofs.channels.plan_delchan.Goals as goal

pub overflow_sub-result : goal.overflow_sub-result
overflow_sub-result c =
    let sum = taken_weight c.args.name c.args.context.hub.now.channels c.in-Some.channel.now c.len-count.ensures.by_name c.in-Some.ensures.some in
    omega (arith, sum, c.channel_len.ensures.value, c.requires.channels)

pub returns-in_ok-one_name-in-Some : goal.returns-in_ok-one_name-in-Some
returns-in_ok-one_name-in-Some c = λ (now : ℕ) (held : List Sub).
    let os = objects_in c.args.context.objects.now in
    let cs = c.args.context.hub.now.channels in
    let name = c.args.name in
    let old = c.in-Some.channel.now in
    let here = c.in-Some.ensures.some in
    let sum = taken_weight name cs old c.len-count.ensures.by_name here in
    let named : c.in_ok-one_name-in-Some.field-0 ≡ name ∷ [] = c.in_ok-one_name-in-Some.ensures in
    let frame_is : c.in_ok-count_frame-in-Some.field-0 ≡ frame_text (number 1) = c.in_ok-count_frame-in-Some.ensures in
    let one = count_fits 1 (lit< tt) in (
      record {
        reply = number 1;
        is = dropped_some (world_with cs os) now name old here ∙ ap (λ (ns : List Bytes). changes (number 1) (map (λ n. silent (change.DelChan n)) ns)) (sym named);
        frame = frame_is;
        short = subst (λ (f : Bytes). length f ≤ max_reply) (sym frame_is) one;
        sound = tt;
        recorded = tt;
        length_is = c.delchan_len.ensures.value ∙ sym (add-zero (record_len (change.DelChan name))) ∙ ap (λ (ns : List Bytes). records_len (map (λ n. silent (change.DelChan n)) ns)) (sym named);
        small = omega (arith, c.delchan_len.ensures.short);
        weight_is =
            let left : channels_weight (without_names (name ∷ []) cs) + len_of_channel old ≡ channels_weight cs = sum in
            let all : channels_weight (without_names c.in_ok-one_name-in-Some.field-0 cs) ≡ channels_weight (without_names (name ∷ []) cs) = ap (λ (ns : List Bytes). channels_weight (without_names ns cs)) named in
            omega (arith, left, all, c.channel_len.ensures.value, c.requires.channels);
      },
      omega (arith, sum, c.channel_len.ensures.value, c.requires.channels, c.requires.light),
    )

pub returns-in_ok-say_count-in-None : goal.returns-in_ok-say_count-in-None
returns-in_ok-say_count-in-None c = λ (now : ℕ) (held : List Sub).
    let os = objects_in c.args.context.objects.now in
    let cs = c.args.context.hub.now.channels in
    says_beside cs os c.args.context.total c.requires.kept (omega (arith, c.requires.light, c.requires.channels)) _ (number 0) c.in_ok-say_count-in-None.field-0 (dropped_none (world_with cs os) now c.args.name c.in-None.ensures.none) c.in_ok-say_count-in-None.ensures
