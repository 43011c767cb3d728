-- Where no name is given, the first channel is the next one.
use Rattle.std.proofs.Common.{ap, ◌∙◌, sym}
use Rattle.std.specs.Prelude.{find}
use Rattle.world_store.specs.Copies.{is_next_channel, name_in}
use Rattle.world_store.proofs.Walking.{first_any}
use Rattle.world_store.proofs.copies.next_channel.Goals as goal

pub returns-in-None : goal.returns-in-None
returns-in-None c =
    let all = c.args.hub.now.channels in
    let none = c.in-None.is in
    c.channel_at-in-None.ensures ∙ first_any all ∙ ap (λ o. find (is_next_channel (name_in o)) all) (sym none)
