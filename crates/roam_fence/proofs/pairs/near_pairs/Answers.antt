use Rattle.std.proofs.Common.{◌≡◌, ◌++◌, OnOk, sym, subst, option_map, List, Bool, true, rules}
use Rattle.fence_model.specs.Fences.{meets_fence}
use Rattle.byte_text.specs.Names.{Bytes}
use Rattle.roam_fence.proofs.Told.{roam_pairs}
use Rattle.roam_fence.proofs.pairs.near_pairs.Goals as goal

pub returns : goal.returns
returns g c =
    let meets : meets_fence c.args.fence.now c.args.new.now ≡ true = search rules in
    subst (λ (pairs : List (Bytes × Bool)). OnOk c.push_pairs.result (c.push_pairs.new.into ≡ c.args.into.now ++ pairs))
    (sym (roam_pairs c.args.fence.now c.in-Roam.field-0 c.in-Roam.pattern c.in-Roam.meters c.in-Roam.nodwell (option_map (λ o. o.now) c.args.old) c.args.new.now c.args.targets.now.objects c.in-Roam.is meets))
    c.push_pairs.ensures.pairs
