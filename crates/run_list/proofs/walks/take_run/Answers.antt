use Rattle.std.proofs.Common.{◌<◌, length, [], arith, rules}
use Rattle.std.specs.List.{remove}
use Rattle.run_list.proofs.Flats.{flat-dropped}
use Rattle.run_list.proofs.RunEnds.{kept-ends, front-removed, dropped-most}
use Rattle.run_list.proofs.walks.take_run.Goals as goal

pub returns-clause-numbers : goal.returns-clause-numbers
returns-clause-numbers c =
    let rs = c.args.runs.now.items in
    let k = c.args.k in
    let lt : k < length rs = search rules in
    rw (c.remove-run.ensures.items) (flat-dropped rs k [] lt)

pub recount-requires-clause-kept : goal.recount-requires-clause-kept
recount-requires-clause-kept c =
    let rs = c.args.runs.now.items in
    let k = c.args.k in
    let lt : k < length rs = search rules in
    let front = front-removed rs k k (omega arith) (omega (arith, lt)) in
    rw (c.as_slice.ensures.value, c.remove-run.ensures.items) (kept-ends rs (remove rs k) c.args.ends.now.items k c.requires.ends (omega (arith, lt)) front)

pub recount-requires-clause-fits : goal.recount-requires-clause-fits
recount-requires-clause-fits c =
    let rs = c.args.runs.now.items in
    let lt : c.args.k < length rs = search rules in
    let most = dropped-most rs c.args.k lt in
    rw (c.as_slice.ensures.value, c.remove-run.ensures.items) (omega (arith, most, c.requires.fits))
