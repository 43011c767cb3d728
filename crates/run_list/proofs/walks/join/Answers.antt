use Rattle.std.proofs.Common.{◌≡◌, ◌<◌, ◌+◌, ◌∙◌, ap, length, set, get_or, arith}
use Rattle.std.proofs.lemmas.List.{take-set}
use Rattle.std.specs.List.{remove}
use Rattle.run_list.proofs.Flats.{flat-joined, filled-joined}
use Rattle.run_list.proofs.RunEnds.{kept-ends, front-removed}
use Rattle.run_list.proofs.walks.join.Goals as goal

pub returns-clause-numbers : goal.returns-clause-numbers
returns-clause-numbers c =
    let rs = c.args.runs.now.items in
    let k = c.args.k in
    let r = c.index_mut-run.result.now in
    let u = c.remove-upper.result in
    let lt : k + 1 < length rs = omega arith in
    let is : r ≡ get_or (remove rs (k + 1)) k r = rw (c.remove-upper.ensures.items) at c.index_mut-run.ensures.value in
    rw (c.append.ensures.numbers, c.remove-upper.ensures.items) (flat-joined rs k r u lt is c.remove-upper.ensures.value)

pub returns-clause-filled : goal.returns-clause-filled
returns-clause-filled c =
    let rs = c.args.runs.now.items in
    let k = c.args.k in
    let r = c.index_mut-run.result.now in
    let u = c.remove-upper.result in
    let lt : k + 1 < length rs = omega arith in
    let is : r ≡ get_or (remove rs (k + 1)) k r = rw (c.remove-upper.ensures.items) at c.index_mut-run.ensures.value in
    rw (c.append.ensures.numbers, c.remove-upper.ensures.items) (filled-joined rs k r u c.requires.filled lt is)

pub recount-requires-clause-kept : goal.recount-requires-clause-kept
recount-requires-clause-kept c =
    let rs = c.args.runs.now.items in
    let k = c.args.k in
    let run = c.append.new.self in
    let lt : k + 1 < length rs = omega arith in
    let front = take-set (remove rs (k + 1)) k run ∙ front-removed rs k (k + 1) (omega arith) (omega (arith, lt)) in
    rw (c.as_slice.ensures.value, c.remove-upper.ensures.items) (kept-ends rs (set (remove rs (k + 1)) k run) c.args.ends.now.items k c.requires.ends (omega (arith, lt)) front)

pub recount-requires-clause-fits : goal.recount-requires-clause-fits
recount-requires-clause-fits c =
    let rs = c.args.runs.now.items in
    let k = c.args.k in
    let r = c.index_mut-run.result.now in
    let u = c.remove-upper.result in
    let lt : k + 1 < length rs = omega arith in
    let is : r ≡ get_or (remove rs (k + 1)) k r = rw (c.remove-upper.ensures.items) at c.index_mut-run.ensures.value in
    let same = ap length (flat-joined rs k r u lt is c.remove-upper.ensures.value) in
    rw (c.as_slice.ensures.value, c.append.ensures.numbers, c.remove-upper.ensures.items) (omega (arith, same, c.requires.fits))
