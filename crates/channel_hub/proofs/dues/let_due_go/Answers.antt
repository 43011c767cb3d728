use Rattle.std.proofs.Common.{◌≡◌, ◌∙◌, true, ap}
use Rattle.world_data.specs.Expiry.{is_channel_due}
use Rattle.channel_hub.specs.Dues.{left_at}
use Rattle.channel_hub.proofs.DuePlaces.{left_removed}
use Rattle.channel_hub.proofs.dues.let_due_go.Goals as goal

pub loop-at-preserved : goal.loop-at-preserved
loop-at-preserved c =
    let now = c.args.now in
    let due : is_channel_due now c.remove.result ≡ true = rw c.remove.ensures.taken at c.in-Some.ensures.due in
    record {
      left = ap (left_at now) c.remove.ensures.channels ∙ left_removed now c.loop-at.all.channels c.in-Some.at c.remove.result c.remove.ensures.taken due ∙ c.loop-at.invariant.left;
      prepared = c.remove.ensures.prepared ∙ c.loop-at.invariant.prepared;
    }
