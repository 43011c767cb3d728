use Rattle.std.proofs.Common.{◌≡◌, ℕ, ◌<◌, ◌-◌, ◌*◌, ◌∙◌, List, length, ap, subst, arith}
use Rattle.std.specs.Prelude.{IfOk}
use Rattle.std.specs.List.{AllZip, range_with_len}
use Rattle.rayon.specs.Numbers.{nat_range}
use Rattle.rayon.proofs.ListFacts.{IfOk-then}
use Rattle.rayon.proofs.ToStd.{nat_range-All}
use Rattle.fence_backtest.specs.Standing.{IsStretchAt}
use Rattle.fence_backtest.proofs.Cutting.{collected}
use Rattle.fence_backtest.proofs.standing.each_stretch.Goals as goal

-- the closure's `requires` at each number of the range
pub collect-requires-clause-ready : goal.collect-requires-clause-ready
collect-requires-clause-ready g c κs within =
    let ends = c.into_par_iter.ensures in
    let inside = nat_range-All (λ i. i * c.args.cuts.size < length c.args.changes.now) 0 c.args.cuts.count (λ i low high. c.requires.cut.inside i high) in
    rw (c.map.ensures.base, c.map.ensures.f, c.with_min_len.ensures.base, ends.0, ends.1) (λ k d lt. (inside k d lt, λ y p. tt))

pub returns : goal.returns
returns g c =
    let ends = c.into_par_iter.ensures in
    let n = c.args.cuts.count in
    let whole : n - 0 ≡ n = omega arith in
    let R = IsStretchAt c.args.key.now c.args.changes.now c.args.cuts.size in
    IfOk-then c.collect.result _ _ c.collect.ensures (λ v h.
    let chain = rw (c.map.ensures.base, c.map.ensures.f, c.with_min_len.ensures.base) at h.1 in
    let places = chain.1 ∙ (λ i. nat_range (ends.0 i) (ends.1 i)) ∙ ap (range_with_len 0) whole in
    collected R (range_with_len 0 n) (λ all. all.items) v h.0 (subst (λ (l : List ℕ). AllZip (λ i r. IfOk r (R i)) l h.0) places chain.2) h.2)
