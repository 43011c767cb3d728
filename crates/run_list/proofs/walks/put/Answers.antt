use Rattle.std.proofs.Common.{◌<◌, ◌≤◌, ◌+◌, ◌∙◌, length, set, subst, sym, List, ℕ, rules, arith}
use Rattle.std.specs.List.{insert}
use Rattle.std.proofs.lemmas.List.{take-set, length-set}
use Rattle.run_list.proofs.RunEnds.{kept-ends, front-inserted, cut-count}
use Rattle.run_list.proofs.Flats.{put-cut, run-is, all-left}
use Rattle.run_list.proofs.walks.put.Goals as goal

pub returns-clause-numbers : goal.returns-clause-numbers
returns-clause-numbers c =
    let rs = c.args.runs.now.items in
    let k = c.args.spot.run in
    let r = c.index_mut-run.result.now in
    let lt : k < length rs = search rules in
    let is = c.index_mut-run.ensures.value in
    let le : c.args.spot.at ≤ length r = subst (λ (z : List ℕ). c.args.spot.at ≤ length z) (sym (run-is rs k r lt is)) c.requires.inside in
    rw (c.in-Ok.ensures.items) (put-cut rs k c.args.spot.at c.args.number r c.insert_halving.new.self c.insert_halving.new.upper lt is le c.insert_halving.ensures.numbers)

pub returns-clause-empty : goal.returns-clause-empty
returns-clause-empty c = all-left c.take_last-upper.new.self.items c.take_last-upper.result c.args.spares.now.items c.take_last-upper.ensures.items c.requires.empty

pub recount-requires-clause-kept : goal.recount-requires-clause-kept
recount-requires-clause-kept c =
    let rs = c.args.runs.now.items in
    let k = c.args.spot.run in
    let low = c.insert_halving.new.self in
    let lt : k < length rs = search rules in
    let count = length-set rs k low in
    let front = front-inserted (set rs k low) c.insert_halving.new.upper k (k + 1) (omega arith) (omega (arith, count, lt)) ∙ take-set rs k low in
    rw (c.as_slice.ensures.value, c.in-Ok.ensures.items) (kept-ends rs (insert (set rs k low) (k + 1) c.insert_halving.new.upper) c.args.ends.now.items k c.requires.ends (omega (arith, lt)) front)

pub recount-requires-clause-fits : goal.recount-requires-clause-fits
recount-requires-clause-fits c =
    let rs = c.args.runs.now.items in
    let k = c.args.spot.run in
    let r = c.index_mut-run.result.now in
    let lt : k < length rs = search rules in
    let is = c.index_mut-run.ensures.value in
    let le : c.args.spot.at ≤ length r = subst (λ (z : List ℕ). c.args.spot.at ≤ length z) (sym (run-is rs k r lt is)) c.requires.inside in
    let count = cut-count rs k c.args.spot.at c.args.number r c.insert_halving.new.self c.insert_halving.new.upper lt is le c.insert_halving.ensures.numbers in
    rw (c.as_slice.ensures.value, c.in-Ok.ensures.items) (omega (arith, count, c.requires.fits))
