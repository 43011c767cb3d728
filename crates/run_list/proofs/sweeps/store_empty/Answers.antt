use Rattle.std.proofs.Common.{◌≡◌, ◌<◌, ◌∙◌, ℕ, List, ap, sym, subst, length, get_or, arith, rules}
use Rattle.std.proofs.lemmas.List.Edits.{get_or-remove_below}
use Rattle.run_list.specs.Runs.{flat}
use Rattle.run_list.proofs.Filters.{flat-emptied}
use Rattle.run_list.proofs.sweeps.store_empty.Goals as goal

pub loop-k-preserved : goal.loop-k-preserved
loop-k-preserved c =
    let rs = c.loop-k.runs.items in
    let k = c.loop-k.k in
    let run = c.index.result.now in
    let lt : k < length rs = search rules in
    let read = ap length c.index.ensures in
    let empty : length (get_or rs k run) ≡ 0 = omega (arith, read, c.len-in-loop-k.ensures.count) in
    let numbers : flat c.remove.new.self.items ≡ flat c.args.runs.now.items = ap flat c.remove.ensures.items ∙ flat-emptied rs k run lt empty ∙ c.loop-k.invariant.numbers in
    let filled : (j : ℕ) (d : List ℕ) → j < k → 0 < length (get_or c.remove.new.self.items j d) =
    λ j d low. subst (λ (z : List ℕ). 0 < length z) (sym (ap (λ z. get_or z j d) c.remove.ensures.items ∙ get_or-remove_below rs k d j low lt)) (c.loop-k.invariant.filled j d low) in
    search rules
