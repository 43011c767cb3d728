use Rattle.std.proofs.Common.{rules, ◌≡◌, ◌<◌, ◌+◌, ◌*◌, ap, length, [], arith}
use Rattle.run_list.specs.Runs.{start}
use Rattle.run_list.proofs.Flats.{start-more, start-most}
use Rattle.run_list.proofs.store.pack.Goals as goal

pub loop-k-preserved-then-top_up : goal.loop-k-preserved-then-top_up
loop-k-preserved-then-top_up c =
    let rs = c.top_up.new.runs.items in
    let k = c.loop-k.k in
    let same = c.top_up.ensures.same c.if-top_up.true in
    let full = c.top_up.ensures.full c.if-top_up.true in
    let lt : k < length rs = omega (arith, same) in
    let more = start-more rs k [] lt in
    let inv = c.loop-k.invariant.full in
    let begin = c.top_up.ensures.start in
    let more-full : start rs (k + 1) ≡ (k + 1) * 1024 = omega (arith, more, begin, inv, full) in
    search rules

pub returns-clause-spare : goal.returns-clause-spare
returns-clause-spare c =
    let most = start-most c.loop-k.runs.items c.loop-k.k in
    let all = ap length c.loop-k.invariant.numbers in
    let full = c.loop-k.invariant.full in
    omega (arith, most, all, full)
