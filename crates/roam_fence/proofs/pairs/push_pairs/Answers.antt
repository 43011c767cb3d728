use Rattle.std.proofs.Common.{◌++◌, ap, ◌∙◌}
use Rattle.std.specs.Prelude.{option_map}
use Rattle.std.proofs.lemmas.Result.{on_ok_weaker}
use Rattle.roam_fence.specs.Pairs.{told_of_all}
use Rattle.roam_fence.proofs.Reached.{told_near}
use Rattle.roam_fence.proofs.pairs.push_pairs.Goals as goal

pub returns-clause-pairs : goal.returns-clause-pairs
returns-clause-pairs g c =
    let r = c.args.reach in
    let told = told_of_all r.pattern.now r.meters r.nodwell (option_map (λ o. o.now) c.args.old) c.args.new.now in
    let same = told_near r.pattern.now r.meters r.nodwell (option_map (λ o. o.now) c.args.old) c.args.new.now c.round_reach-round.result c.round_reach-round.ensures c.args.targets.now.objects c.met.ensures.whole in
    on_ok_weaker c.push_found.result (λ pushed. pushed ∙ ap (λ l. c.args.into.now ++ told l) c.in_ok-met.ensures.found ∙ ap (λ l. c.args.into.now ++ l) same) c.push_found.ensures
