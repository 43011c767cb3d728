use Rattle.std.proofs.Common.{◌≡◌, ◌<◌, ◌+◌, ◌-◌, ℕ, Bool, arith}
use Rattle.run_list.specs.Runs.{flat, start}
use Rattle.run_list.proofs.Cuts.{IsPlace, place-is, place-front, cut-behind}
use Rattle.run_list.proofs.RunEnds.{before-is}
use Rattle.run_list.proofs.large.LargeList.place_of.Given as given
use Rattle.run_list.proofs.large.LargeList.place_of.Goals as goal

-- where the answer stands among the runs
place_of : (g : given.Over) (c : goal.After-numbers_before g) → IsPlace (g.B.Before.before c.args.test.now) (flat c.self.inside.runs.items) (start c.self.inside.runs.items (c.runs_before-next.result - 1) + c.numbers_before.result)
place_of g c =
    let rs = c.self.inside.runs.items in
    let p : ℕ → Bool = g.B.Before.before c.args.test.now in
    let j = c.numbers_before.result in
    let next = c.runs_before-next.result in
    let r = c.index-run.result.now in
    let some : 0 < next = omega arith in
    let within = rw (c.as_slice.ensures.value) at c.runs_before-next.ensures.within in
    let front = rw (c.as_slice.ensures.value) at c.runs_before-next.ensures.front in
    let behind = rw (c.as_slice.ensures.value) at c.runs_before-next.ensures.behind in
    let inside = rw (c.numbers.ensures) at c.numbers_before.ensures.within in
    let low = rw (c.numbers.ensures) at c.numbers_before.ensures.front in
    let high = rw (c.numbers.ensures) at c.numbers_before.ensures.behind in
    place-is p rs next j r (record {
      filled = c.self.invariant.filled;
      some = some;
      within = within;
      first = front some;
      other = behind;
      is = c.index-run.ensures;
      inside = inside;
      front = low;
      behind = high;
    })

-- the answer itself
answer : (g : given.Over) (c : goal.After-numbers_before g) → IsPlace (g.B.Before.before c.args.test.now) (flat c.self.inside.runs.items) (c.before-front.result + c.numbers_before.result)
answer g c =
    let rs = c.self.inside.runs.items in
    let next = c.runs_before-next.result in
    let within = rw (c.as_slice.ensures.value) at c.runs_before-next.ensures.within in
    let ends = c.self.invariant.counted in
    let some = rw (c.as_slice-2.ensures.value) at c.before-front.ensures.some in
    let e : c.before-front.result ≡ start rs (next - 1) = before-is rs c.self.inside.ends.items (next - 1) c.before-front.result ends (omega (arith, within)) c.before-front.ensures.none some in
    rw e (place_of g c)

pub overflow_add-result : goal.overflow_add-result
overflow_add-result g c =
    let place = answer g c in
    let within = place.within in
    omega (arith, within, c.self.invariant.count, c.self.invariant.most)

pub returns-clause-within : goal.returns-clause-within
returns-clause-within g c = rw (← c.self.view_is) (answer g c).within

pub returns-clause-front : goal.returns-clause-front
returns-clause-front g c =
    let cut = rw (← c.self.view_is) at c.requires in
    rw (← c.self.view_is) (place-front (g.B.Before.before c.args.test.now) (flat c.self.inside.runs.items) (c.before-front.result + c.numbers_before.result) cut (answer g c))

pub returns-clause-behind : goal.returns-clause-behind
returns-clause-behind g c =
    let cut = rw (← c.self.view_is) at c.requires in
    rw (← c.self.view_is) (cut-behind (g.B.Before.before c.args.test.now) (flat c.self.inside.runs.items) (c.before-front.result + c.numbers_before.result) cut (answer g c).behind)
