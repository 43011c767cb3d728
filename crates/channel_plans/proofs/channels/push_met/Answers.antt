use Rattle.std.proofs.Common.{◌≡◌, ◌++◌, ◌∷◌, [], ◌+◌, true, false, sym, ◌∙◌, map, take}
use Rattle.std.proofs.lemmas.List.{map-append}
use Rattle.std.proofs.lemmas.Result.{IfOk-weaker, IfErr-weaker}
use Rattle.byte_text.specs.Globs.{glob_meets}
use Rattle.world_model.specs.Replies.{channel_reply}
use Rattle.channel_plans.specs.Dropping.{met_channels}
use Rattle.channel_plans.proofs.ChannelSums.{met_next, unmet_next}
use Rattle.object_plans.specs.ListingLaws.{items_more, items_long, fault_of}
use Rattle.channel_plans.proofs.channels.push_met.Goals as goal

step : (c : goal.After-push_channel) → met_channels c.args.pattern.now (take (c.args.i + 1) c.args.hub.now.channels) ≡ met_channels c.args.pattern.now (take c.args.i c.args.hub.now.channels) ++ c.at-channel.result.now ∷ []
step c =
    let meets : glob_meets c.args.pattern.now c.at-channel.result.now.name ≡ true = rw (← c.bytes.ensures.same, ← c.bytes-2.ensures.same) (sym c.glob_meets.ensures ∙ c.if-glob_meets.true) in
    met_next c.args.pattern.now c.at-channel.result.now c.args.hub.now.channels c.args.i c.at-channel.ensures meets

pub returns-then-glob_meets-clause-ok : goal.returns-then-glob_meets-clause-ok
returns-then-glob_meets-clause-ok c =
    let before = met_channels c.args.pattern.now (take c.args.i c.args.hub.now.channels) in
    rw (step c, map-append channel_reply before (c.at-channel.result.now ∷ [])) (IfOk-weaker c.push_channel.result _ _ (λ u is. items_more (map channel_reply before) (channel_reply c.at-channel.result.now) c.args.items.now c.push_channel.new.self c.requires.items is) c.push_channel.ensures.ok)

pub returns-then-glob_meets-clause-too_long : goal.returns-then-glob_meets-clause-too_long
returns-then-glob_meets-clause-too_long c =
    let before = met_channels c.args.pattern.now (take c.args.i c.args.hub.now.channels) in
    rw (step c, map-append channel_reply before (c.at-channel.result.now ∷ [])) (IfErr-weaker c.push_channel.result _ _ (λ f is. fault_of _ f (λ e. items_long (map channel_reply before) (channel_reply c.at-channel.result.now) c.args.items.now c.requires.items (is e))) c.push_channel.ensures.too_long)

pub returns-else-glob_meets-clause-ok : goal.returns-else-glob_meets-clause-ok
returns-else-glob_meets-clause-ok c =
    let meets : glob_meets c.args.pattern.now c.at-channel.result.now.name ≡ false = rw (← c.bytes.ensures.same, ← c.bytes-2.ensures.same) (sym c.glob_meets.ensures ∙ c.if-glob_meets.false) in
    rw (unmet_next c.args.pattern.now c.at-channel.result.now c.args.hub.now.channels c.args.i c.at-channel.ensures meets) c.requires.items
