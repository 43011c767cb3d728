-- A ledger that tells the count tells it after one visit more.
use Rattle.std.proofs.Common.{◌≡◌, ℕ, ◌+◌, ◌≤◌, List, [], ◌∷◌, ◌++◌, length, refl, ap, ◌∙◌, arith, length-append}
use Rattle.std.specs.Prelude.{Option, Some, None}
use Rattle.rtree.specs.Ledgers.{one_more, told_more, Tells, IsRead}

pub tells_more : (told : Option ℕ) (count : ℕ) → Tells told count → Tells (told_more told) (one_more count)
tells_more None count is = refl
tells_more (Some n) count is = ap one_more is

-- one item more was read from the node at hand
pub read_one : (short i from count : ℕ) (old new : List ℕ) (n : ℕ) → new ≡ old ++ n ∷ [] → IsRead (short + i) (length old) from count → IsRead (short + (i + 1)) (length new) from count
read_one short i from count old new n is read below =
    let size : length new ≡ length old + 1 = ap length is ∙ length-append old (n ∷ []) in
    omega (arith, size, read below)

-- more was read from nodes below
pub read_below : (short i from mid after : ℕ) (old new : List ℕ) → mid ≤ after → IsRead (short + i) (length old) from mid → IsRead (length old) (length new) mid after → IsRead (short + (i + 1)) (length new) from after
read_below short i from mid after old new later read more below = omega (arith, read (omega (arith, later, below)), more below)

-- nothing was read from a slot
pub read_none : (short i from count : ℕ) (old : List ℕ) → IsRead (short + i) (length old) from count → IsRead (short + (i + 1)) (length old) from count
read_none short i from count old read below = omega (arith, read below)

pub le-trans : {a b c : ℕ} → a ≤ b → b ≤ c → a ≤ c
le-trans {a} {b} {c} h k = omega (arith, h, k)
