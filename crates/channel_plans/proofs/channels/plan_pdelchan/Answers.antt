use Rattle.std.proofs.Common.{◌≡◌, ◌≤◌, ◌+◌, ℕ, length, map, subst, ap, ◌∙◌, sym, arith, List}
use Rattle.std.specs.Prelude.{sum_by}
use Rattle.std.proofs.lemmas.List.{length-map}
use Rattle.byte_text.specs.Names.{Bytes}
use Rattle.byte_text.specs.Replies.{number, frame_text}
use Rattle.world_data.specs.Limits.{max_reply}
use Rattle.fence_model.specs.Writes.{silent}
use Rattle.world_data.specs.declared.channels.Channel.{Channel}
use Rattle.world_data.specs.declared.worlds.Change.TheVariants as change
use Rattle.world_model.specs.Effects.{changes}
use Rattle.world_model.specs.Subscriptions.{Sub}
use Rattle.delivery_model.specs.Staging.{records_len}
use Rattle.keyspace.specs.Entries.{objects_in}
use Rattle.channel_plans.specs.Dropping.{met_channels, drops}
use Rattle.record_writer.specs.Lengths.{len_of_channel}
use Rattle.object_plans.specs.Moves.{world_with}
use Rattle.channel_plans.specs.Planned.{without_names}
use Rattle.object_plans.specs.Answering.{count_fits, within_changes}
use Rattle.channel_plans.proofs.ChannelEffects.{dropped_each}
use Rattle.channel_plans.proofs.ChannelSums.{drops_of, left_weight}
use Rattle.channel_plans.proofs.channels.plan_pdelchan.Goals as goal

pub returns : goal.returns
returns c = λ (now : ℕ) (held : List Sub).
    let os = objects_in c.args.context.objects.now in
    let cs = c.args.context.hub.now.channels in
    let pattern = c.args.pattern.now in
    let gone = met_channels pattern cs in
    let d = c.in_ok-dropped.ensures in
    let names = c.in_ok-dropped.dropped.names in
    let count : c.len-count.result ≡ length gone = c.len-count.ensures ∙ ap (λ (ns : List Bytes). length ns) d.names ∙ length-map gone (λ (e : Channel). e.name) in
    let fits = subst (λ (n : ℕ). length (frame_text (number n)) ≤ max_reply) count (count_fits c.len-count.result c.len-count.type_inv) in
    let frame_is : c.in_ok-count_frame.field-0 ≡ frame_text (number (length gone)) = c.in_ok-count_frame.ensures ∙ ap (λ (n : ℕ). frame_text (number n)) count in
    let told : drops gone ≡ map (λ n. silent (change.DelChan n)) names = drops_of gone ∙ ap (map (λ (n : Bytes). silent (change.DelChan n))) (sym d.names) in
    let left : sum_by len_of_channel (without_names names cs) + sum_by len_of_channel gone ≡ sum_by len_of_channel cs =
    ap (λ (ns : List Bytes). sum_by len_of_channel (without_names ns cs) + sum_by len_of_channel gone) d.names ∙ left_weight pattern cs in
    let part = d.weight_is in
    let small = d.small in (
      record {
        reply = number (length gone);
        is = dropped_each (world_with cs os) now pattern ∙ within_changes (number (length gone)) (drops gone) fits ∙ ap (changes (number (length gone))) told;
        frame = frame_is;
        short = subst (λ (f : Bytes). length f ≤ max_reply) (sym frame_is) fits;
        sound = tt;
        recorded = tt;
        length_is = d.length_is ∙ ap records_len told;
        small = omega (arith, small, c.requires.light);
        weight_is = omega (arith, left, part, c.requires.channels);
      },
      omega (arith, small, c.requires.light),
    )
