use Rattle.std.proofs.Common.{◌≡◌, ◌∙◌, ◌++◌, ℕ, List, Some, drop, length, replicate, take, refl, sym, ap, subst, arith}
use Rattle.std.specs.Prelude.{slice_get}
use Rattle.std.specs.Vec.{with_items}
use Rattle.std.proofs.lemmas.List.{length-replicate}
use Rattle.std.proofs.lemmas.Option.{slice_get-get_or}
use Rattle.byte_text.specs.Names.{Bytes}
use Rattle.fence_backtest.specs.Telling.{AreAdded}
use Rattle.fence_backtest.specs.declared.telling.Told.{Told}
use Rattle.fence_backtest.proofs.ReportLaws.{refilled, told_at, told_joined, told_none, zeros_at}
use Rattle.fence_backtest.proofs.telling.joined.Goals as goal

pub loop-next-init : goal.loop-next-init
loop-next-init c =
    let counts = c.in_ok-counts.counts in
    let none : Told = record { text = c.new-text.result; total = 0; counts = counts } in
    let zeros : counts.items ≡ replicate 64 0 = c.in_ok-counts.ensures.items_if_clones_equal (λ y is. is) in
    let long : length counts.items ≡ 64 = ap (λ (l : List _). length l) zeros ∙ length-replicate {A = ℕ} 64 0 in
    record {
      long = long;
      told = λ channel area all size are. told_none channel area all size none c.new-text.ensures refl long (zeros_at counts.items zeros);
    }

pub loop-next-preserved : goal.loop-next-preserved
loop-next-preserved c =
    let told = c.args.told.now in
    let i = c.loop-next.next-index in
    let next = c.next-item.result in
    let before = c.loop-next.counts in
    let written = c.add_each.new.numbers in
    let here : slice_get told i ≡ Some next = slice_get-get_or told i next c.loop-next-test.true ∙ ap Some (sym c.next-item.is) in
    let added : AreAdded before.items next.counts.items written =
    subst (λ l. AreAdded l next.counts.items written) c.deref_mut.ensures.value (subst (λ l. AreAdded c.deref_mut.result.now l written) c.as_slice.ensures.value c.in_ok-add_each.ensures) in
    let as_long : before.len ≡ length before.items = omega (arith, before.ok.0) in
    let items : take before.len (written ++ drop (length written) before.items) ≡ written = refilled before.len before.items written as_long added.long in
    let first : Told = record { text = c.loop-next.text; total = c.loop-next.total; counts = before } in
    let sum : Told = record { text = c.push.new.self; total = c.in_ok-total.total; counts = with_items before written } in
    record {
      long = ap (λ l. length l) items ∙ added.long ∙ c.loop-next.invariant.long;
      told = λ channel area all size are.
          let inside = are.cut.inside i c.loop-next-test.true in
          told_joined channel area all size i first next sum (omega (arith, inside)) (c.loop-next.invariant.told channel area all size are)
          (told_at channel area all size told i next are here)
          (c.in_ok-push.ensures.ok ∙ ap (λ (l : Bytes). c.loop-next.text ++ l) c.bytes.ensures) c.in_ok-total.ensures
          (subst (AreAdded before.items next.counts.items) (sym items) added);
    }
