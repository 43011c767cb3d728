-- The numbers that a search of the boxes finds are those of the channels that a change names.
use Rattle.std.proofs.Common.{◌≡◌, ◌+◌, ℕ, ℤ, Bool, true, false, cond, refl, sym, ap, ◌∙◌, List, [], ◌∷◌, arith}
use Rattle.std.specs.Prelude.{Option, Some, None, filter, is_some, is_none, int_le, if◌then◌else◌, ◌&&◌, ◌||◌}
use Rattle.std.specs.List.{sum_by}
use Rattle.byte_text.specs.Names.{Bytes}
use Rattle.planar_geom.specs.Points.{Bounds, boxes_meet, ranges_meet}
use Rattle.fence_index.specs.declared.marks.Mark.{Mark}
use Rattle.fence_index.specs.declared.key_boxes.KeyBoxes.{KeyBoxes}
use Rattle.fence_index.specs.Held.{weight_of}
use Rattle.fence_index.specs.Marks.{is_of_key}
use Rattle.fence_index.specs.Reasons.{Near, spot}
use Rattle.fence_index.specs.Boxed.{AreFound, met_weight, other_box, other_reason, weight_on}
use Rattle.fence_index.specs.Numbered.{AreBoxed, weight_if}
use Rattle.fence_index.specs.Candidates.{both_meet, concerns, is_named, round_of}
use Rattle.fence_index.proofs.Sums.{same_sums, sum_both, sum_passing}

ranges_turned : (a b c d : ℤ) → ranges_meet a b c d ≡ ranges_meet c d a b
ranges_turned a b c d = by_tests (int_le a d) (int_le c b)
  where
    by_tests : (p q : Bool) → (p && q) ≡ (q && p)
    by_tests true true = refl
    by_tests true false = refl
    by_tests false true = refl
    by_tests false false = refl

meet_turned : (b c : Bounds) → boxes_meet b c ≡ boxes_meet c b
meet_turned b c = rw (ranges_turned b.min.x b.max.x c.min.x c.max.x, ranges_turned b.min.y b.max.y c.min.y c.max.y) refl

module _ (round : Bounds) (v : ℕ → ℕ) (n : ℕ) where
  put_weighs : (on out : Bool) (area : Option Bounds)
      → cond on (weight_of (met_weight round v) (if out then None else area) n) 0 + cond on (weight_of (met_weight spot v) (if is_none area || out then Some spot else None) n) 0
      ≡ cond (on && ((true && (is_none area || out)) || both_meet (Some round) area)) (v n) 0
  put_weighs false out area = omega arith
  put_weighs true true None = omega arith
  put_weighs true true (Some b) = omega arith
  put_weighs true false None = omega arith
  put_weighs true false (Some b) = rw (meet_turned b round) (omega arith)

  del_weighs : (on out : Bool) (area : Option Bounds)
      → cond on (weight_of (met_weight round v) (if out then None else area) n) 0 + cond on (weight_of (met_weight round v) (if out then area else None) n) 0
      ≡ cond (on && ((false && (is_none area || out)) || both_meet (Some round) area)) (v n) 0
  del_weighs false out area = omega arith
  del_weighs true true None = omega arith
  del_weighs true true (Some b) = rw (meet_turned b round) (omega arith)
  del_weighs true false None = omega arith
  del_weighs true false (Some b) = rw (meet_turned b round) (omega arith)

weighs : (round : Bounds) (v : ℕ → ℕ) (put : Bool) (key : Bytes) (m : Mark) (n : ℕ)
    → weight_on Near key (met_weight round v) m n + weight_on (other_reason put) key (met_weight (other_box put round) v) m n ≡ cond (is_of_key key m && concerns (Some round) put m) (v n) 0
weighs round v true key m n = put_weighs round v n (is_of_key key m) m.outside m.area
weighs round v false key m n = del_weighs round v n (is_of_key key m) m.outside m.area

-- and of a number that may have no channel
weighs_if : (round : Bounds) (v : ℕ → ℕ) (put : Bool) (key : Bytes) (n : ℕ) (o : Option Mark)
    → weight_if Near key (met_weight round v) n o + weight_if (other_reason put) key (met_weight (other_box put round) v) n o ≡ cond (is_named key (Some round) put o) (v n) 0
weighs_if round v put key n None = omega arith
weighs_if round v put key n (Some m) = weighs round v put key m n

module _ (marks : ℕ → Option Mark) (numbers : List ℕ) (boxes : List KeyBoxes) (boxed : AreBoxed marks numbers boxes) (key : Bytes) where
  found_near : (round : Bounds) (put : Bool) (ns : List ℕ) → AreFound key round put boxes ns → (v : ℕ → ℕ) → sum_by v ns ≡ sum_by v (filter (λ n. is_named key (Some round) put (marks n)) numbers)
  found_near round put ns are v =
      let near : ℕ → ℕ = λ n. weight_if Near key (met_weight round v) n (marks n) in
      let other : ℕ → ℕ = λ n. weight_if (other_reason put) key (met_weight (other_box put round) v) n (marks n) in
      let a = boxed Near key (met_weight round v) in
      let b = boxed (other_reason put) key (met_weight (other_box put round) v) in
      let c = sum_both near other numbers in
      let d = same_sums (λ n. near n + other n) (λ n. cond (is_named key (Some round) put (marks n)) (v n) 0) numbers (λ n. weighs_if round v put key n (marks n)) in
      let e = sum_passing (λ n. is_named key (Some round) put (marks n)) v numbers in
      let f = are v in
      omega (arith, a, b, c, d, e, f)

  pub found_named : (old new : Option Bounds) (round : Bounds) (put : Bool) (ns : List ℕ) → round_of old new ≡ Some round → put ≡ is_some new → AreFound key round put boxes ns
      → (v : ℕ → ℕ) → sum_by v ns ≡ sum_by v (filter (λ n. is_named key (round_of old new) (is_some new) (marks n)) numbers)
  found_named old new round put ns r p are v =
      found_near round put ns are v
      ∙ ap (λ (o : Option Bounds). sum_by v (filter (λ n. is_named key o put (marks n)) numbers)) (sym r)
      ∙ ap (λ (b : Bool). sum_by v (filter (λ n. is_named key (round_of old new) b (marks n)) numbers)) p

-- a change that moves nothing names none

none_of_none : (key : Bytes) (o : Option Mark) → is_named key None false o ≡ false
none_of_none key None = refl
none_of_none key (Some m) = neither (is_of_key key m)
  where
    neither : (a : Bool) → (a && false) ≡ false
    neither true = refl
    neither false = refl

none_named : (marks : ℕ → Option Mark) (key : Bytes) (numbers : List ℕ) → filter (λ n. is_named key None false (marks n)) numbers ≡ []
none_named marks key [] = refl
none_named marks key (n ∷ numbers) = rw (none_of_none key (marks n)) (none_named marks key numbers)

pub found_none : (marks : ℕ → Option Mark) (key : Bytes) (old new : Option Bounds) (numbers : List ℕ) → round_of old new ≡ None → filter (λ n. is_named key (round_of old new) (is_some new) (marks n)) numbers ≡ []
found_none marks key None None numbers none = none_named marks key numbers
found_none marks key None (Some b) numbers none = absurd (cc)
found_none marks key (Some b) None numbers none = absurd (cc)
found_none marks key (Some b) (Some c) numbers none = absurd (cc)
