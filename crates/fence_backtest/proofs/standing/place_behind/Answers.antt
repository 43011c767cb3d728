use Rattle.std.proofs.Common.{◌≡◌, ◌∙◌, ℕ, Option, Some, take, sym, ap}
use Rattle.std.specs.Prelude.{slice_get}
use Rattle.std.proofs.lemmas.Option.{slice_get-get_or}
use Rattle.std.proofs.Math.Numerals.{add-one}
use Rattle.byte_text.specs.Names.{Bytes}
use Rattle.fence_backtest.specs.Standing.{behind_at, nowhere, places_behind}
use Rattle.fence_backtest.proofs.LineLaws.{take_more}
use Rattle.fence_backtest.proofs.Tables.{places_more}
use Rattle.fence_backtest.proofs.standing.place_behind.Goals as goal

pub loop-stretch-preserved : goal.loop-stretch-preserved
loop-stretch-preserved c =
    let stretches = c.args.stretches.now in
    let id = c.args.id.now in
    let i = c.loop-stretch.stretch-index in
    let s = c.stretch-item.result in
    let here : slice_get stretches i ≡ Some s = slice_get-get_or stretches i s c.loop-stretch-test.true ∙ ap Some (sym c.stretch-item.is) in
    let more = ap (λ n. take n stretches) (add-one i) ∙ take_more stretches i s here in
    c.behind-place.ensures ∙ ap (behind_at s id) c.loop-stretch.invariant
    ∙ sym (ap (λ (f : Bytes → Option ℕ). f id) (ap (places_behind nowhere) more ∙ places_more nowhere (take i stretches) s))
