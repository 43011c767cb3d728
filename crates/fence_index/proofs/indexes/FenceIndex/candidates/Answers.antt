use Rattle.std.proofs.Common.{◌∙◌, ap, sym, subst, List}
use Rattle.std.specs.List.{sum_by}
use Rattle.std.proofs.lemmas.Result.{IfOk-weaker}
use Rattle.fence_index.specs.declared.key_boxes.KeyBoxes.{KeyBoxes}
use Rattle.fence_index.specs.Boxed.{AreFound}
use Rattle.fence_index.specs.Numbered.{Indexed}
use Rattle.fence_index.proofs.Found.{found_named, found_none}
use Rattle.fence_index.proofs.indexes.FenceIndex.candidates.Goals as goal

pub numbers_near-requires : goal.numbers_near-requires
numbers_near-requires g c = rw c.as_slice.ensures.value c.self.invariant.by_key

pub returns-in-Some-clause-numbers : goal.returns-in-Some-clause-numbers
returns-in-Some-clause-numbers g c =
    let key = c.args.key.now in
    let same = c.as_slice.ensures.value ∙ ap (λ (h : Indexed). h.boxes) c.self.view_is in
    IfOk-weaker c.numbers_near.result (AreFound key c.in-Some.round c.is_some.result c.as_slice.result.now) _
    (λ found are marks numbers boxed.
    found_named marks numbers c.args.self.now.boxes boxed key c.args.old c.args.new c.in-Some.round c.is_some.result found (sym c.round_of.ensures ∙ c.in-Some.is) c.is_some.ensures
    (subst (λ (boxes : List KeyBoxes). AreFound key c.in-Some.round c.is_some.result boxes found) same are))
    c.numbers_near.ensures.found

pub returns-in-None-clause-numbers : goal.returns-in-None-clause-numbers
returns-in-None-clause-numbers g c = λ marks numbers boxed v.
    ap (sum_by v) (c.new.ensures ∙ sym (found_none marks c.args.key.now c.args.old c.args.new numbers (sym c.round_of.ensures ∙ c.in-None.is)))
