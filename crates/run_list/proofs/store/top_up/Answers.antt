use Rattle.std.proofs.Common.{◌≡◌, ◌<◌, ◌+◌, length, get_or, arith}
use Rattle.std.specs.List.{remove}
use Rattle.run_list.proofs.Flats.{flat-topped, flat-moved}
use Rattle.run_list.proofs.store.top_up.Goals as goal

pub returns-then-len-eq0-clause-numbers : goal.returns-then-len-eq0-clause-numbers
returns-then-len-eq0-clause-numbers c =
    let rs = c.args.runs.now.items in
    let k = c.args.k in
    let r = c.index_mut-run.result.now in
    let lt : k + 1 < length rs = omega arith in
    let is : r ≡ get_or (remove rs (k + 1)) k r = rw (c.remove-next.ensures.items) at c.index_mut-run.ensures.value in
    rw (c.remove-next.ensures.items) (flat-moved rs k r c.remove-next.result c.fill_from.new.self c.fill_from.new.other lt is c.remove-next.ensures.value c.fill_from.ensures.numbers (omega arith))

pub returns-clause-numbers : goal.returns-clause-numbers
returns-clause-numbers c =
    let rs = c.args.runs.now.items in
    let k = c.args.k in
    let r = c.index_mut-run.result.now in
    let lt : k + 1 < length rs = omega arith in
    let is : r ≡ get_or (remove rs (k + 1)) k r = rw (c.remove-next.ensures.items) at c.index_mut-run.ensures.value in
    rw (c.in-Ok.ensures.items, c.remove-next.ensures.items) (flat-topped rs k r c.remove-next.result c.fill_from.new.self c.fill_from.new.other lt is c.remove-next.ensures.value c.fill_from.ensures.numbers)
