use Rattle.std.proofs.Common.{◌≡◌, ◌<◌, ◌+◌, ◌∙◌, ℕ, ap, sym, length, get_or, arith, rules, inl, inr}
use Rattle.std.proofs.lemmas.Bool.{cases_lt}
use Rattle.std.proofs.lemmas.List.{get_or_append_left, get_or_push}
use Rattle.run_list.specs.Runs.{start}
use Rattle.run_list.proofs.Flats.{start-more, start-most}
use Rattle.run_list.proofs.ends.recount.Goals as goal

pub overflow_add-count : goal.overflow_add-count
overflow_add-count c =
    let rs = c.args.runs.now in
    let k = c.loop-k.k in
    let lt : k < length rs = omega arith in
    let more = start-more rs k c.index-runs-k.result lt in
    let read = ap length c.index-runs-k.is in
    let inv = c.loop-k.invariant.count in
    let here : c.loop-k.count + c.len-count.result ≡ start rs (k + 1) = omega (arith, more, read, inv) in
    let most = start-most rs (k + 1) in
    omega (arith, most, here)

pub loop-k-preserved : goal.loop-k-preserved
loop-k-preserved c =
    let es = c.loop-k.ends.items in
    let rs = c.args.runs.now in
    let k = c.loop-k.k in
    let lt : k < length rs = omega arith in
    let more = start-more rs k c.index-runs-k.result lt in
    let read = ap length c.index-runs-k.is in
    let inv = c.loop-k.invariant.count in
    let here : c.loop-k.count + c.len-count.result ≡ start rs (k + 1) = omega (arith, more, read, inv) in
    let len : length es ≡ k = omega (arith, c.loop-k.invariant.len) in
    let each : (j d : ℕ) → j < k + 1 → get_or c.push_reserved.new.self.items j d ≡ start rs (j + 1) =
    λ j d lt. ap (λ z. get_or z j d) c.push_reserved.ensures.items ∙ elim (cases_lt j k) [
      | inl low ↦ get_or_append_left es _ d j (omega (arith, low, len)) ∙ c.loop-k.invariant.each j d low
      | inr high ↦ let at : j ≡ k = omega (arith, lt, high) in get_or_push es _ d j (omega (arith, at, len)) ∙ here ∙ ap (λ n. start rs (n + 1)) (sym at)
    ] in
    search rules
