use Rattle.std.specs.Prelude.{option_map, true}
use Rattle.std.proofs.Common.{◌≡◌, rules}
use Rattle.fence_table.proofs.Wants.{both}
use Rattle.fence_table.proofs.raises.raised_by_put.Goals as goal

pub returns : goal.returns
returns c =
    let set : c.args.fence.now.wanted.set ≡ true = search rules in
    both c.args.fence.now (option_map (λ o. o.now) c.args.old) c.args.new.now c.detections-found.result.first c.detections-found.result.second c.kept.result c.kept-2.result set c.detections-found.ensures c.kept.ensures c.kept-2.ensures
