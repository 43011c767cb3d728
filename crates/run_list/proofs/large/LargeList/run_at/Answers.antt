use Rattle.std.proofs.Common.{◌<◌, ◌≤◌, ◌+◌, ◌-◌, ◌∙◌, ap, take, drop, length, subst, sym, List, ℕ}
use Rattle.run_list.specs.Runs.{flat, IsAt}
use Rattle.run_list.proofs.Flats.{rest-read, rest-within, run-is}
use Rattle.run_list.proofs.large.LargeList.run_at.Goals as goal

pub returns-clause-numbers : goal.returns-clause-numbers
returns-clause-numbers c =
    let rs = c.self.inside.runs.items in
    let k = c.find-spot.result.run in
    let at = c.find-spot.result.at in
    let r = c.index-run.result.now in
    let found : IsAt rs c.args.i k at = rw (c.as_slice-2.ensures.value) at c.find-spot.ensures in
    let is = c.index-run.ensures in
    let in' : at < length r = subst (λ (z : List ℕ). at < length z) (sym (run-is rs k r found.within is)) found.inside in
    rw (← c.self.view_is, c.numbers.ensures) (rest-read rs k at r found.within is in' ∙ ap (λ n. take (length (take (length r - at) (drop at r))) (drop n (flat rs))) found.is)

pub returns-clause-within : goal.returns-clause-within
returns-clause-within c =
    let rs = c.self.inside.runs.items in
    let k = c.find-spot.result.run in
    let at = c.find-spot.result.at in
    let r = c.index-run.result.now in
    let found : IsAt rs c.args.i k at = rw (c.as_slice-2.ensures.value) at c.find-spot.ensures in
    let is = c.index-run.ensures in
    let in' : at < length r = subst (λ (z : List ℕ). at < length z) (sym (run-is rs k r found.within is)) found.inside in
    rw (← c.self.view_is, c.numbers.ensures) (subst (λ (n : ℕ). n + length (take (length r - at) (drop at r)) ≤ length (flat rs)) found.is (rest-within rs k at r found.within is in'))
