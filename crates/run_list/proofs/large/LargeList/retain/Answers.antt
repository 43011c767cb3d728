use Rattle.std.proofs.Common.{◌≡◌, ◌≤◌, ◌∙◌, ℕ, Bool, ap, length, arith, rules}
use Rattle.run_list.specs.Runs.{flat, start, AreEnds}
use Rattle.run_list.proofs.Flats.{start-all}
use Rattle.run_list.proofs.RunEnds.{before-is}
use Rattle.run_list.proofs.Filters.{flat-filter, filter-most}
use Rattle.run_list.proofs.large.LargeList.retain.Goals as goal

pub recount-requires-clause-fits : goal.recount-requires-clause-fits
recount-requires-clause-fits g c =
    let p : ℕ → Bool = g.B.Before.before c.args.test.now in
    let rs = c.self.inside.runs.items in
    let same = ap length (c.store_empty.ensures.numbers ∙ ap flat c.retain_in_runs.ensures.runs ∙ flat-filter p rs) in
    let most = filter-most p (flat rs) in
    rw (c.as_slice.ensures.value) (omega (arith, same, most, c.self.invariant.count, c.self.invariant.room, c.self.invariant.most))

pub invariant_of-self : goal.invariant_of-self
invariant_of-self g c =
    let p : ℕ → Bool = g.B.Before.before c.args.test.now in
    let rs = c.self.inside.runs.items in
    let new = c.store_empty.new.runs.items in
    let same = ap length (c.store_empty.ensures.numbers ∙ ap flat c.retain_in_runs.ensures.runs ∙ flat-filter p rs) in
    let most = filter-most p (flat rs) in
    let counted : AreEnds new c.recount.new.ends.items = rw (c.as_slice.ensures.value) at c.recount.ensures.ends in
    let all : length new ≡ c.len.result = search rules in
    let some = rw (c.as_slice-2.ensures.value) at c.before-self-inside.ensures.some in
    let count : c.before-self-inside.result ≡ length (flat new) = before-is new c.recount.new.ends.items c.len.result c.before-self-inside.result counted (omega (arith, all)) c.before-self-inside.ensures.none some ∙ ap (λ n. start new n) (omega (arith, all)) ∙ start-all new in
    let less : c.before-self-inside.result ≤ c.self.inside.len = omega (arith, count, same, most, c.self.invariant.count) in
    search rules

pub returns-clause-items : goal.returns-clause-items
returns-clause-items g c =
    let p : ℕ → Bool = g.B.Before.before c.args.test.now in
    rw (← c.self.view_is) (c.store_empty.ensures.numbers ∙ ap flat c.retain_in_runs.ensures.runs ∙ flat-filter p c.self.inside.runs.items)

pub returns-clause-spare : goal.returns-clause-spare
returns-clause-spare g c =
    let p : ℕ → Bool = g.B.Before.before c.args.test.now in
    let rs = c.self.inside.runs.items in
    let new = c.store_empty.new.runs.items in
    let same = ap length (c.store_empty.ensures.numbers ∙ ap flat c.retain_in_runs.ensures.runs ∙ flat-filter p rs) in
    let most = filter-most p (flat rs) in
    let counted : AreEnds new c.recount.new.ends.items = rw (c.as_slice.ensures.value) at c.recount.ensures.ends in
    let all : length new ≡ c.len.result = search rules in
    let some = rw (c.as_slice-2.ensures.value) at c.before-self-inside.ensures.some in
    let count : c.before-self-inside.result ≡ length (flat new) = before-is new c.recount.new.ends.items c.len.result c.before-self-inside.result counted (omega (arith, all)) c.before-self-inside.ensures.none some ∙ ap (λ n. start new n) (omega (arith, all)) ∙ start-all new in
    rw (← c.self.view_is) (omega (arith, count, same, most, c.self.invariant.count, c.self.invariant.room, c.store_empty.ensures.owned, c.retain_in_runs.ensures.len))
