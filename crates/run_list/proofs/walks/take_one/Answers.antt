use Rattle.std.proofs.Common.{◌≡◌, ◌<◌, ◌∙◌, length, set, vec_len, subst, sym, List, ℕ, arith, rules}
use Rattle.std.specs.List.{remove}
use Rattle.std.proofs.lemmas.List.{take-set as take-front, length-set}
use Rattle.std.proofs.lemmas.List.Edits.{length-remove}
use Rattle.run_list.proofs.Flats.{take-set, take-last, run-is, read-at, emptied}
use Rattle.run_list.specs.Runs.{IsShifted}
use Rattle.run_list.proofs.RunEnds.{shifted, end-some, kept-ends, front-removed, without-most}
use Rattle.run_list.proofs.walks.take_one.Goals as goal

pub returns-clause-numbers : goal.returns-clause-numbers
returns-clause-numbers c =
    let rs = c.args.runs.now.items in
    let k = c.args.spot.run in
    let r = c.index_mut-run.result.now in
    let lt : k < length rs = search rules in
    let is = c.index_mut-run.ensures.value in
    let in' : c.args.spot.at < length r = subst (λ (z : List ℕ). c.args.spot.at < length z) (sym (run-is rs k r lt is)) c.requires.inside in
    rw (c.remove.ensures.items) (take-last rs k c.args.spot.at r c.remove-number.new.self lt is in' c.remove-number.ensures.numbers (omega arith))

pub returns-clause-taken : goal.returns-clause-taken
returns-clause-taken c =
    let rs = c.args.runs.now.items in
    let k = c.args.spot.run in
    let r = c.index_mut-run.result.now in
    let lt : k < length rs = search rules in
    let is = c.index_mut-run.ensures.value in
    let in' : c.args.spot.at < length r = subst (λ (z : List ℕ). c.args.spot.at < length z) (sym (run-is rs k r lt is)) c.requires.inside in
    c.remove-number.ensures.taken ∙ read-at rs k c.args.spot.at 0 r lt is in'

pub keep-requires-clause-run : goal.keep-requires-clause-run
keep-requires-clause-run c =
    let rs = c.args.runs.now.items in
    let k = c.args.spot.run in
    let lt : k < length rs = search rules in
    emptied rs k c.remove-number.new.self c.remove.result lt c.remove.ensures.value (omega arith)

pub returns-then-len-gt0-clause-numbers : goal.returns-then-len-gt0-clause-numbers
returns-then-len-gt0-clause-numbers c =
    let rs = c.args.runs.now.items in
    let k = c.args.spot.run in
    let r = c.index_mut-run.result.now in
    let lt : k < length rs = search rules in
    let is = c.index_mut-run.ensures.value in
    let in' : c.args.spot.at < length r = subst (λ (z : List ℕ). c.args.spot.at < length z) (sym (run-is rs k r lt is)) c.requires.inside in
    rw (c.remove-number.ensures.numbers) (take-set rs k c.args.spot.at r lt is in')

pub returns-then-len-gt0-clause-taken : goal.returns-then-len-gt0-clause-taken
returns-then-len-gt0-clause-taken c =
    let rs = c.args.runs.now.items in
    let k = c.args.spot.run in
    let r = c.index_mut-run.result.now in
    let lt : k < length rs = search rules in
    let is = c.index_mut-run.ensures.value in
    let in' : c.args.spot.at < length r = subst (λ (z : List ℕ). c.args.spot.at < length z) (sym (run-is rs k r lt is)) c.requires.inside in
    c.remove-number.ensures.taken ∙ read-at rs k c.args.spot.at 0 r lt is in'

pub lower-requires : goal.lower-requires
lower-requires c = λ j d le lt.
    let rs = c.args.runs.now.items in
    let k = c.args.spot.run in
    let r = c.index_mut-run.result.now in
    let within : k < length rs = search rules in
    let is = c.index_mut-run.ensures.value in
    let in' : c.args.spot.at < length r = subst (λ (z : List ℕ). c.args.spot.at < length z) (sym (run-is rs k r within is)) c.requires.inside in
    end-some rs c.args.ends.now.items k j d r c.requires.ends within is (omega (arith, in')) le (omega (arith, lt))

pub returns-then-len-gt0-clause-ends : goal.returns-then-len-gt0-clause-ends
returns-then-len-gt0-clause-ends c =
    let rs = c.args.runs.now.items in
    let k = c.args.spot.run in
    let r = c.index_mut-run.result.now in
    let lt : k < length rs = search rules in
    let is = c.index_mut-run.ensures.value in
    let in' : c.args.spot.at < length r = subst (λ (z : List ℕ). c.args.spot.at < length z) (sym (run-is rs k r lt is)) c.requires.inside in
    let fewer = length-remove r c.args.spot.at in' in
    let all : vec_len c.args.ends.now ≡ length c.args.ends.now.items = omega arith in
    let shift = subst (λ (n : ℕ). IsShifted 1 0 c.args.ends.now.items c.lower.new.ends.items k n) all c.lower.ensures.ends in
    rw (c.remove-number.ensures.numbers) (shifted 1 0 rs k r (remove r c.args.spot.at) c.args.ends.now.items c.lower.new.ends.items c.requires.ends lt is (omega (arith, fewer)) shift)

pub recount-requires-clause-kept : goal.recount-requires-clause-kept
recount-requires-clause-kept c =
    let rs = c.args.runs.now.items in
    let k = c.args.spot.run in
    let left = c.remove-number.new.self in
    let lt : k < length rs = search rules in
    let count = length-set rs k left in
    let front = front-removed (set rs k left) k k (omega arith) (omega (arith, count, lt)) ∙ take-front rs k left in
    rw (c.as_slice.ensures.value, c.remove.ensures.items) (kept-ends rs (remove (set rs k left) k) c.args.ends.now.items k c.requires.ends (omega (arith, lt)) front)

pub recount-requires-clause-fits : goal.recount-requires-clause-fits
recount-requires-clause-fits c =
    let rs = c.args.runs.now.items in
    let k = c.args.spot.run in
    let lt : k < length rs = search rules in
    let most = without-most rs k c.remove-number.new.self lt in
    rw (c.as_slice.ensures.value, c.remove.ensures.items) (omega (arith, most, c.requires.fits))
