use Rattle.std.proofs.Common.{◌∙◌, not, ap, map, rules, Bor}
use Rattle.std.proofs.lemmas.Fn.{filter_same}
use Rattle.world_data.specs.declared.channels.Channel.{Channel}
use Rattle.world_data.specs.Expiry.{is_channel_due}
use Rattle.channel_hub.proofs.Inserting.{map_filter}
use Rattle.channel_hub.proofs.candidates.Candidates.leave_out.Goals as goal

pub returns-in-Some : goal.returns-in-Some
returns-in-Some c =
    let now = λ (r : Bor Channel). r.now in
    rw (← c.self.view_is, c.in-Some.is) (ap (map now) (filter_same _ (λ (r : Bor Channel). not (is_channel_due c.in-Some.now r.now)) _ (λ x b f' k. search rules) _ _ c.retain.ensures.filtered)
    ∙ map_filter now (λ d. not (is_channel_due c.in-Some.now d)) c.self.inside.channels.items)
