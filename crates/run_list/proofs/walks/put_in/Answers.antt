use Rattle.std.proofs.Common.{◌≡◌, ◌<◌, ◌≤◌, length, vec_len, subst, sym, List, ℕ, rules, arith}
use Rattle.std.specs.List.{insert}
use Rattle.std.proofs.lemmas.List.Edits.{length-insert}
use Rattle.run_list.specs.Runs.{IsShifted}
use Rattle.run_list.proofs.RunEnds.{shifted, end-most}
use Rattle.run_list.proofs.Flats.{put-set, run-is}
use Rattle.run_list.proofs.walks.put_in.Goals as goal

pub returns-clause-numbers : goal.returns-clause-numbers
returns-clause-numbers c =
    let rs = c.args.runs.now.items in
    let k = c.args.spot.run in
    let r = c.index_mut-run.result.now in
    let lt : k < length rs = search rules in
    let is = c.index_mut-run.ensures.value in
    let le : c.args.spot.at ≤ length r = subst (λ (z : List ℕ). c.args.spot.at ≤ length z) (sym (run-is rs k r lt is)) c.requires.inside in
    rw (c.insert.ensures) (put-set rs k c.args.spot.at c.args.number r lt is le)

pub raise-requires : goal.raise-requires
raise-requires c = λ j d lt. let most = end-most c.args.runs.now.items c.args.ends.now.items j d 4294967294 c.requires.ends (omega (arith, c.requires.fits)) (omega (arith, lt)) in omega (arith, most)

pub returns-clause-ends : goal.returns-clause-ends
returns-clause-ends c =
    let rs = c.args.runs.now.items in
    let k = c.args.spot.run in
    let r = c.index_mut-run.result.now in
    let lt : k < length rs = search rules in
    let is = c.index_mut-run.ensures.value in
    let le : c.args.spot.at ≤ length r = subst (λ (z : List ℕ). c.args.spot.at ≤ length z) (sym (run-is rs k r lt is)) c.requires.inside in
    let more = length-insert r c.args.spot.at c.args.number le in
    let all : vec_len c.args.ends.now ≡ length c.args.ends.now.items = omega arith in
    let shift = subst (λ (n : ℕ). IsShifted 0 1 c.args.ends.now.items c.raise.new.ends.items k n) all c.raise.ensures.ends in
    rw (c.insert.ensures) (shifted 0 1 rs k r (insert r c.args.spot.at c.args.number) c.args.ends.now.items c.raise.new.ends.items c.requires.ends lt is (omega (arith, more)) shift)
