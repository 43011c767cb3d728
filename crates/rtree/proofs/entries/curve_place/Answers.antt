use Rattle.std.proofs.Common.{◌≡◌, ◌<◌, ◌≤◌, ◌^◌, ◌*◌, ◌+◌, ◌-◌, ◌%◌, ℕ, zero, suc, sym, subst, ◌∙◌, ap, refl, arith, sub-one}
use Rattle.std.proofs.Math.Nat.{two-pow-succ, mul-le-mul_right, mul-le-mul, mul-le-mul_left, mod-eq_of_lt}
use Rattle.std.proofs.Math.Pow.{pow_mono}
use Rattle.rtree.specs.Curve.{curve_place as place_on_curve, turned as turned_point}
use Rattle.rtree.proofs.entries.curve_place.Goals as goal

doubled : (n : ℕ) → 0 < n → 2 ^ n ≡ 2 * 2 ^ (n - 1)
doubled zero h = absurd (omega arith)
doubled (suc k) h = rw (sub-one) (omega (arith, two-pow-succ k))

none : (n x y : ℕ) → n ≡ 0 → place_on_curve n x y ≡ 0
unfolding place_on_curve
none n x y h = rw (h) refl

step : (n k x y : ℕ) → n ≡ suc k → place_on_curve n x y ≡ (turned_point (2 ^ k) x y).quarter * (2 ^ k * 2 ^ k) + place_on_curve k (turned_point (2 ^ k) x y).x (turned_point (2 ^ k) x y).y
unfolding place_on_curve
step n k x y h = rw (h) refl

small : (n : ℕ) → n ≤ 31 → 0 < n → 2 ^ (n - 1) ≤ 2 ^ 30
small n h k = pow_mono {i = n - 1} {j = 30} (omega arith)

-- what the shift gives
shifted : (n : ℕ) → n ≤ 31 → 0 < n → 1 * 2 ^ (n - 1) % 4294967296 ≡ 2 ^ (n - 1)
shifted n h k = mod-eq_of_lt {n = 1 * 2 ^ (n - 1)} (omega (arith, small n h k)) ∙ omega arith

-- the places of the whole curve are few
few : (n : ℕ) → n ≤ 31 → 2 ^ n * 2 ^ n ≤ 2 ^ 62
few n h =
    let s : 2 ^ n ≤ 2 ^ 31 = pow_mono {i = n} {j = 31} h in
    let m : 2 ^ n * 2 ^ n ≤ 2 ^ 31 * 2 ^ 31 = mul-le-mul s s in
    omega (arith, m)

-- a power of two is at least one, and so are its squares
square-pos : (k : ℕ) → 1 ≤ 2 ^ k * 2 ^ k
square-pos k =
    let one : 1 ≤ 2 ^ k = pow_mono {i = 0} {j = k} (omega arith) in
    let m : 1 * 1 ≤ 2 ^ k * 2 ^ k = mul-le-mul one one in
    omega (arith, m)

-- of four quarters each is within the square
quartered : (place quarter half side all : ℕ) → side ≡ 2 * half → quarter ≤ 3 → (place + 1) * (side * side) ≤ all → (4 * place + quarter + 1) * (half * half) ≤ all
quartered place quarter half side all h k below =
    let m : (4 * place + quarter + 1) * (half * half) ≤ (4 * place + 4) * (half * half) = mul-le-mul_right (half * half) (omega (arith, k)) in
    let b : (place + 1) * ((2 * half) * (2 * half)) ≤ all = subst (λ n. (place + 1) * (n * n) ≤ all) h below in
    omega (arith, m, b)

-- a factor of a product that is bounded
factor : (a s all : ℕ) → 1 ≤ s → a * s ≤ all → a ≤ all
factor a s all h k =
    let m : a * 1 ≤ a * s = mul-le-mul_left a h in
    omega (arith, m, k)

-- the place within a square is that within its quarter, behind the quarters before
nearer : (place quarter half side rest at all : ℕ) → side ≡ 2 * half → at ≡ quarter * (half * half) + rest → place * (side * side) + at ≡ all → (4 * place + quarter) * (half * half) + rest ≡ all
nearer place quarter half side rest at all h e k =
    let b : place * ((2 * half) * (2 * half)) + at ≡ all = subst (λ n. place * (n * n) + at ≡ all) h k in
    omega (arith, b, e)

pub loop-left-init : goal.loop-left-init
loop-left-init c = record {
  fewer = omega arith;
  x_within = c.requires.x_within;
  y_within = c.requires.y_within;
  value = omega arith;
  below = omega arith;
}

pub overflow_shl-left : goal.overflow_shl-left
overflow_shl-left c = omega (arith, c.loop-left.invariant.fewer, c.requires.most_levels)

pub turn-turned-requires-clause-half_small : goal.turn-turned-requires-clause-half_small
turn-turned-requires-clause-half_small c =
    let n = c.loop-left.left in
    let most : n ≤ 31 = omega (arith, c.loop-left.invariant.fewer, c.requires.most_levels) in
    omega (arith, shifted n most c.loop-left-test.true, small n most c.loop-left-test.true)

pub turn-turned-requires-clause-x_within : goal.turn-turned-requires-clause-x_within
turn-turned-requires-clause-x_within c =
    let n = c.loop-left.left in
    let most : n ≤ 31 = omega (arith, c.loop-left.invariant.fewer, c.requires.most_levels) in
    omega (arith, shifted n most c.loop-left-test.true, doubled n c.loop-left-test.true, c.loop-left.invariant.x_within)

pub turn-turned-requires-clause-y_within : goal.turn-turned-requires-clause-y_within
turn-turned-requires-clause-y_within c =
    let n = c.loop-left.left in
    let most : n ≤ 31 = omega (arith, c.loop-left.invariant.fewer, c.requires.most_levels) in
    omega (arith, shifted n most c.loop-left-test.true, doubled n c.loop-left-test.true, c.loop-left.invariant.y_within)

-- the place after the step, and what it is less than
bounded : (levels left place quarter : ℕ) → levels ≤ 31 → 0 < left → quarter ≤ 3 → (place + 1) * (2 ^ left * 2 ^ left) ≤ 2 ^ levels * 2 ^ levels → 4 * place + quarter + 1 ≤ 2 ^ 62
bounded levels left place quarter most some least below =
    let all = 2 ^ levels * 2 ^ levels in
    let part = quartered place quarter (2 ^ (left - 1)) (2 ^ left) all (doubled left some) least below in
    omega (arith, factor (4 * place + quarter + 1) (2 ^ (left - 1) * 2 ^ (left - 1)) all (square-pos (left - 1)) part, few levels most)

pub overflow_mul-place : goal.overflow_mul-place
overflow_mul-place c = omega (arith, bounded c.args.levels c.loop-left.left c.loop-left.place c.turn-turned.result.quarter c.requires.most_levels c.loop-left-test.true c.turn-turned.ensures.quarter c.loop-left.invariant.below)

pub overflow_add-place : goal.overflow_add-place
overflow_add-place c = omega (arith, bounded c.args.levels c.loop-left.left c.loop-left.place c.turn-turned.result.quarter c.requires.most_levels c.loop-left-test.true c.turn-turned.ensures.quarter c.loop-left.invariant.below)

pub loop-left-preserved : goal.loop-left-preserved
loop-left-preserved c =
    let n = c.loop-left.left in
    let place = c.loop-left.place in
    let t = c.turn-turned.result in
    let half = 2 ^ (n - 1) in
    let most : n ≤ 31 = omega (arith, c.loop-left.invariant.fewer, c.requires.most_levels) in
    let is = shifted n most c.loop-left-test.true in
    let turned = subst (λ h. t ≡ turned_point h c.loop-left.x c.loop-left.y) is c.turn-turned.ensures.value in
    let at = subst (λ u. place_on_curve n c.loop-left.x c.loop-left.y ≡ u.quarter * (half * half) + place_on_curve (n - 1) u.x u.y) (sym turned) (step n (n - 1) c.loop-left.x c.loop-left.y (omega (arith, c.loop-left-test.true))) in record {
      fewer = omega (arith, c.loop-left.invariant.fewer);
      x_within = subst (λ h. t.x < h) is c.turn-turned.ensures.x_within;
      y_within = subst (λ h. t.y < h) is c.turn-turned.ensures.y_within;
      value = nearer place t.quarter half (2 ^ n) (place_on_curve (n - 1) t.x t.y) (place_on_curve n c.loop-left.x c.loop-left.y) (place_on_curve c.args.levels c.args.x c.args.y) (doubled n c.loop-left-test.true) at c.loop-left.invariant.value;
      below = quartered place t.quarter half (2 ^ n) (2 ^ c.args.levels * 2 ^ c.args.levels) (doubled n c.loop-left-test.true) c.turn-turned.ensures.quarter c.loop-left.invariant.below;
    }

-- nothing is left
at_end : (place left x y all most : ℕ) → left ≡ 0 → place * (2 ^ left * 2 ^ left) + place_on_curve left x y ≡ all → (place + 1) * (2 ^ left * 2 ^ left) ≤ most → (place ≡ all) × (place < most)
at_end place left x y all most h value below =
    let one : 2 ^ left * 2 ^ left ≡ 1 = ap (λ n. 2 ^ n * 2 ^ n) h in
    let v : place * 1 + place_on_curve left x y ≡ all = subst (λ n. place * n + place_on_curve left x y ≡ all) one value in
    let b : (place + 1) * 1 ≤ most = subst (λ n. (place + 1) * n ≤ most) one below in
    (omega (arith, v, none left x y h), omega (arith, b))

pub returns-clause-value : goal.returns-clause-value
returns-clause-value c = (at_end c.loop-left.place c.loop-left.left c.loop-left.x c.loop-left.y (place_on_curve c.args.levels c.args.x c.args.y) (2 ^ c.args.levels * 2 ^ c.args.levels) (omega (arith, c.loop-left-test.false)) c.loop-left.invariant.value c.loop-left.invariant.below).0

pub returns-clause-below : goal.returns-clause-below
returns-clause-below c = (at_end c.loop-left.place c.loop-left.left c.loop-left.x c.loop-left.y (place_on_curve c.args.levels c.args.x c.args.y) (2 ^ c.args.levels * 2 ^ c.args.levels) (omega (arith, c.loop-left-test.false)) c.loop-left.invariant.value c.loop-left.invariant.below).1
