use Rattle.std.proofs.Common.{◌≡◌, ◌++◌, drop}
use Rattle.std.specs.Prelude.{option_map}
use Rattle.roam_fence.specs.Pairs.{told_of_all}
use Rattle.roam_fence.proofs.pairs.push_found.Given as goal

-- what is told of those that are not read yet is still to come
abbrev pub invariant-loop-i : goal.invariant-loop-i
invariant-loop-i l = l.into ++ told_of_all l.fn.reach.pattern.now l.fn.reach.meters l.fn.reach.nodwell (option_map (λ o. o.now) l.fn.old) l.fn.new (drop l.i l.fn.targets)
    ≡ l.fn.into ++ told_of_all l.fn.reach.pattern.now l.fn.reach.meters l.fn.reach.nodwell (option_map (λ o. o.now) l.fn.old) l.fn.new l.fn.targets
