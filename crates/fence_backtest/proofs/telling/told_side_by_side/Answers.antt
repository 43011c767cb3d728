use Rattle.std.proofs.Common.{◌≡◌, ℕ, ◌<◌, ◌-◌, ◌∙◌, true, List, length, ap, subst, arith}
use Rattle.std.specs.Prelude.{IfOk}
use Rattle.std.specs.List.{AllZip, range_with_len}
use Rattle.rayon.specs.Numbers.{nat_range}
use Rattle.rayon.proofs.ListFacts.{IfOk-then}
use Rattle.rayon.proofs.ToStd.{nat_range-All}
use Rattle.byte_text.specs.Globs.{is_sound_glob}
use Rattle.fence_backtest.specs.Standing.{AreStretches}
use Rattle.fence_backtest.specs.Telling.{IsToldAt}
use Rattle.fence_backtest.proofs.Cutting.{collected}
use Rattle.fence_backtest.proofs.telling.told_side_by_side.Goals as goal

-- the closure's `requires` at each number of the range
pub collect-requires-clause-ready : goal.collect-requires-clause-ready
collect-requires-clause-ready g c κs within =
    let ends = c.into_par_iter.ensures in
    let list = c.args.stretches.now.list.items in
    let inside = nat_range-All (λ i. (is_sound_glob c.args.channel.now.fence.glob ≡ true) × AreStretches c.args.channel.now.fence.key c.args.changes.now c.args.stretches.now.size list × (i < length list)) 0 c.len.result
    (λ i low high. (c.requires.sound, c.requires.are, omega (arith, high, c.len.ensures))) in
    rw (c.map.ensures.base, c.map.ensures.f, c.with_min_len.ensures.base, ends.0, ends.1) (λ k d lt. (inside k d lt, λ y p. tt))

pub returns : goal.returns
returns g c =
    let ends = c.into_par_iter.ensures in
    let n = length c.args.stretches.now.list.items in
    let whole : c.len.result - 0 ≡ n = omega (arith, c.len.ensures) in
    let R = IsToldAt c.args.channel.now c.args.area c.args.changes.now c.args.stretches.now.size in
    IfOk-then c.collect.result _ _ c.collect.ensures (λ v h.
    let chain = rw (c.map.ensures.base, c.map.ensures.f, c.with_min_len.ensures.base) at h.1 in
    let places = chain.1 ∙ (λ i. nat_range (ends.0 i) (ends.1 i)) ∙ ap (range_with_len 0) whole in
    collected R (range_with_len 0 n) (λ all. all.items) v h.0 (subst (λ (l : List ℕ). AllZip (λ i r. IfOk r (R i)) l h.0) places chain.2) h.2)
