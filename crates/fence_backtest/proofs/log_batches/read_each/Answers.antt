use Rattle.std.proofs.Common.{ap, ◌∙◌}
use Rattle.std.specs.Prelude.{IfOk}
use Rattle.rayon.proofs.ListFacts.{IfOk-then}
use Rattle.rayon.proofs.ToStd.{slice-AllZip}
use Rattle.fence_backtest.specs.Replayed.{IsPartOf}
use Rattle.fence_backtest.proofs.Cutting.{collected}
use Rattle.fence_backtest.proofs.log_batches.read_each.Goals as goal

pub returns : goal.returns
returns g c =
    let slice = ap (λ it. it.base.slice.now) c.map.ensures.base ∙ ap (λ it. it.slice.now) c.with_min_len.ensures.base ∙ c.par_iter.ensures in
    IfOk-then c.collect.result _ _ c.collect.ensures (λ v h.
    let chain = rw c.map.ensures.f at h.1 in
    collected (IsPartOf c.args.version) c.args.batches.now (λ parts. parts.items) v h.0 (slice-AllZip chain.0 c.args.batches.now (chain.1 ∙ slice) (λ batch r. IfOk r (IsPartOf c.args.version batch)) h.0 chain.2) h.2)
