use Rattle.std.proofs.Common.{◌<◌, ◌∙◌, ap, get_or, length, subst, sym, List, ℕ}
use Rattle.run_list.specs.Runs.{flat, IsAt}
use Rattle.run_list.proofs.Flats.{read-at, run-is}
use Rattle.run_list.proofs.large.LargeList.at.Goals as goal

pub returns : goal.returns
returns c =
    let rs = c.self.inside.runs.items in
    let k = c.find-spot.result.run in
    let at = c.find-spot.result.at in
    let r = c.index-run.result.now in
    let found : IsAt rs c.args.i k at = rw (c.as_slice-2.ensures.value) at c.find-spot.ensures in
    let is = c.index-run.ensures in
    let in' : at < length r = subst (λ (z : List ℕ). at < length z) (sym (run-is rs k r found.within is)) found.inside in
    rw (← c.self.view_is) (c.at.ensures ∙ read-at rs k at 0 r found.within is in' ∙ ap (λ n. get_or (flat rs) n 0) found.is)
