-- The index has each channel under its slot, as a channel comes, goes, or takes the place of another.
use Rattle.std.proofs.Common.{◌≡◌, ◌≢◌, ℕ, true, refl, ap, ◌∙◌, List, [], ◌∷◌, arith}
use Rattle.std.specs.Prelude.{Option, Some, option_map, slice_get}
use Rattle.std.specs.List.{list_all, sum_by, insert, remove}
use Rattle.std.proofs.lemmas.List.Sums.{sum_by-cons, sum_by-insert}
use Rattle.ordered_lists.specs.Lists.{ascends}
use Rattle.ordered_lists.specs.Reading.{both_of}
use Rattle.byte_text.specs.Names.{Bytes}
use Rattle.rtree.specs.Pairs.{Pair}
use Rattle.world_data.specs.declared.channels.Channel.{Channel}
use Rattle.fence_index.specs.declared.key_boxes.KeyBoxes.{KeyBoxes}
use Rattle.fence_index.specs.Boxed.{AreSame, IsAmong, IsOneMore, weight_on}
use Rattle.fence_index.specs.Marks.{mark_of}
use Rattle.fence_index.specs.Numbered.{AreBoxed, weight_if}
use Rattle.fence_index.specs.Reasons.{Reason}
use Rattle.fence_index.specs.SumLaws.{sum_remove}
use Rattle.channel_hub.specs.Hubs.{mark_in}
use Rattle.ordered_lists.specs.Slots.{are_other, differs, others_apart}

-- what the channel in a slot weighs under it
abbrev weight : (ℕ → Option Channel) → Reason → Bytes → (Pair → ℕ) → ℕ → ℕ
weight f r key w s = weight_if r key w s (mark_in f s)

here_weighs : (f : ℕ → Option Channel) (s : ℕ) (c : Channel) (r : Reason) (key : Bytes) (w : Pair → ℕ) → f s ≡ Some c → weight f r key w s ≡ weight_on r key w (mark_of c) s
here_weighs f s c r key w is = rw is refl

pub same_boxed : (f : ℕ → Option Channel) (order : List ℕ) (old new : List KeyBoxes) → AreSame old new → AreBoxed (mark_in f) order old → AreBoxed (mark_in f) order new
same_boxed f order old new same boxed = λ r key w. same r key w ∙ boxed r key w

-- the channel in a slot is among them
pub is_among : (f : ℕ → Option Channel) (order : List ℕ) (boxes : List KeyBoxes) (at s : ℕ) (c : Channel) → slice_get order at ≡ Some s → f s ≡ Some c → AreBoxed (mark_in f) order boxes → IsAmong (mark_of c) s boxes
is_among f order boxes at s c is has boxed = λ r w.
    let key = c.fence.key in
    let a = sum_remove (weight f r key w) order at s is in
    let b = boxed r key w in
    let d = here_weighs f s c r key w has in
    omega (arith, a, b, d)

module _ (f g : ℕ → Option Channel) (slot : ℕ) (others : (other : ℕ) → other ≢ slot → g other ≡ f other) where
  sums_there : (r : Reason) (key : Bytes) (w : Pair → ℕ) (order : List ℕ) → list_all (are_other slot) order ≡ true → sum_by (weight g r key w) order ≡ sum_by (weight f r key w) order
  sums_there r key w [] all = refl
  sums_there r key w (s ∷ order) all =
      let p = both_of (are_other slot s) (list_all (are_other slot) order) all in
      let a = sum_by-cons (weight g r key w) s order in
      let b = sum_by-cons (weight f r key w) s order in
      let here : weight g r key w s ≡ weight f r key w s = ap (λ (o : Option Channel). weight_if r key w s (option_map mark_of o)) (others s (differs slot s p.0)) in
      let ih = sums_there r key w order p.1 in
      omega (arith, a, b, here, ih)

  -- one more
  pub boxed_insert : (order : List ℕ) (few many : List KeyBoxes) (at : ℕ) (c : Channel) → list_all (are_other slot) order ≡ true → g slot ≡ Some c → IsOneMore (mark_of c) slot few many
      → AreBoxed (mark_in f) order few → AreBoxed (mark_in g) (insert order at slot) many
  boxed_insert order few many at c other has more boxed = λ r key w.
      let a = more r key w in
      let b = boxed r key w in
      let d = sum_by-insert (weight g r key w) order at slot in
      let e = sums_there r key w order other in
      let h = here_weighs g slot c r key w has in
      omega (arith, a, b, d, e, h)

  -- one less
  pub boxed_remove : (order : List ℕ) (few many : List KeyBoxes) (at : ℕ) (c : Channel) → slice_get order at ≡ Some slot → ascends are_other order ≡ true → f slot ≡ Some c → IsOneMore (mark_of c) slot few many
      → AreBoxed (mark_in f) order many → AreBoxed (mark_in g) (remove order at) few
  boxed_remove order few many at c is apart has more boxed = λ r key w.
      let a = more r key w in
      let b = boxed r key w in
      let d = sum_remove (weight f r key w) order at slot is in
      let e = sums_there r key w (remove order at) (others_apart order at slot is apart) in
      let h = here_weighs f slot c r key w has in
      omega (arith, a, b, d, e, h)

  -- one in the place of another
  pub boxed_set : (order : List ℕ) (old left new : List KeyBoxes) (at : ℕ) (c d : Channel) → slice_get order at ≡ Some slot → ascends are_other order ≡ true → f slot ≡ Some c → g slot ≡ Some d
      → IsOneMore (mark_of c) slot left old → IsOneMore (mark_of d) slot left new → AreBoxed (mark_in f) order old → AreBoxed (mark_in g) order new
  boxed_set order old left new at c d is apart has gets less more boxed = λ r key w.
      let a = less r key w in
      let b = more r key w in
      let e = boxed r key w in
      let h = sum_remove (weight f r key w) order at slot is in
      let i = sum_remove (weight g r key w) order at slot is in
      let j = sums_there r key w (remove order at) (others_apart order at slot is apart) in
      let k = here_weighs f slot c r key w has in
      let l = here_weighs g slot d r key w gets in
      omega (arith, a, b, e, h, i, j, k, l)
