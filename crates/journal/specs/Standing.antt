-- Which side is in use, beside what stands on the other one.
use Rattle.std.specs.Prelude.{nat_lt, if◌then◌else◌}
use Rattle.std.proofs.Common.{◌≡◌, ◌⊎◌, ◌+◌, ◌≤◌, ◌<◌, ◌∙◌, ◌==◌, ◌||◌, ℕ, Bool, true, false, not, List, [], ◌∷◌, length, refl, sym, ap, subst, inl}
use Rattle.std.proofs.Common.{inr, arith, eqb-true}
use Rattle.std.proofs.lemmas.Bool.{le-ltb, ltb-false}
use Rattle.std.proofs.lemmas.Bool.Decides.{nat_tests}
use Rattle.byte_text.specs.Names.{Bytes}
use Rattle.outside.specs.declared.sides.Side.{Side}
use Rattle.outside.specs.declared.sides.Side.TheVariants.{A, B}
use Rattle.outside.specs.Sides.{Sides, side_of, other_side}
use Rattle.log_sides.specs.Texts.{StandsFor, open_gate, newest, max_side}
use Rattle.log_sides.specs.Making.{IsShut, IsNotOpen}
use Rattle.log_sides.specs.Closing.{shut_closed}
use Rattle.log_sides.specs.Crashing.{other_other}
use Rattle.append_log.specs.Heads.{head_of, start_of}
use Rattle.append_log.specs.Once.{if_false, stands_head}
use Rattle.append_log.specs.Logs.{StandsIn}
use Rattle.append_log.specs.declared.side_heads.Head.{Head}
use Rattle.append_log.specs.declared.side_heads.Head.TheVariants.{TooLong, Shut, Wrong, Open}
use Rattle.append_log.specs.declared.side_heads.Start.TheVariants.{Standing, Damaged}
use Rattle.journal.specs.Logs.{leaves_in_use, IsBehind, HoldsLog, HoldsOf, HoldsOrNew, HoldsRound}

if_true : {X : Type 0} (b : Bool) (x y : X) → b ≡ true → (if b then x else y) ≡ x
if_true true x y e = refl
if_true false x y e = absurd (let clash : false ≡ true = e in cc)

not_equal : (x y : ℕ) → nat_lt y x ≡ true → (x == y) ≡ false
not_equal x y e = grind (arith, nat_tests)

not_equal_too : (x y : ℕ) → nat_lt y x ≡ true → (y == x) ≡ false
not_equal_too x y e = grind (arith, nat_tests)

not_after : (x y : ℕ) → nat_lt y x ≡ true → nat_lt x y ≡ false
not_after x y e = grind (arith, nat_tests)

below : (x y : ℕ) → x < y → nat_lt x y ≡ true
below x y e = grind (arith, nat_tests)

first : (b : Head) (v g n : ℕ) → leaves_in_use g b ≡ true → start_of (Open v g n) b ≡ Standing A v g n
first TooLong v g n e = absurd (let clash : false ≡ true = e in cc)
first (Shut m) v g n e = refl
first (Wrong place) v g n e = absurd (let clash : false ≡ true = e in cc)
first (Open w h m) v g n e = if_false (g == h) (Damaged B 8) _ (not_equal g h e) ∙ if_true (nat_lt h g) (Standing A v g n) (Standing B w h m) e

second : (a : Head) (v g n : ℕ) → leaves_in_use g a ≡ true → start_of a (Open v g n) ≡ Standing B v g n
second TooLong v g n e = absurd (let clash : false ≡ true = e in cc)
second (Shut m) v g n e = refl
second (Wrong place) v g n e = absurd (let clash : false ≡ true = e in cc)
second (Open w h m) v g n e = if_false (h == g) (Damaged B 8) _ (not_equal_too g h e)
    ∙ if_false (nat_lt g h) (Standing A w h m) (Standing B v g n) (not_after g h e)

-- a side that stands, beside one that leaves it in use
pub stands_in : (c : Sides) (side : Side) (v g : ℕ) (batches : List Bytes) → StandsFor v g batches (side_of c side)
    → IsBehind g (side_of c (other_side side))
    → StandsIn c side v g batches
stands_in c A v g batches stands behind = record {
  used = ap (λ (h : Head). start_of h (head_of c.b)) (stands_head v g batches c.a stands)
      ∙ first (head_of c.b) v g (length c.a) behind;
  stands = stands;
}
stands_in c B v g batches stands behind = record {
  used = ap (λ (h : Head). start_of (head_of c.a) h) (stands_head v g batches c.b stands)
      ∙ second (head_of c.a) v g (length c.b) behind;
  stands = stands;
}

closed_by : (t u : Bool) → (t ≡ false → u ≡ true → ⊥) → (t || not u) ≡ true
closed_by true u f = refl
closed_by false false f = refl
closed_by false true f = absurd (f refl refl)

-- a side that is not open leaves any other one in use
pub not_open_head : (side : Bytes) → IsNotOpen side → head_of side ≡ Shut (length side)
not_open_head [] closed = refl
not_open_head (b ∷ bytes) closed =
    let len = length (b ∷ bytes) in
    let shut : (nat_lt len 17 || not (b == open_gate)) ≡ true =
    closed_by (nat_lt len 17) (b == open_gate)
    (λ long opened. closed.shut (record { long = ltb-false len 17 long; gate = eqb-true b open_gate opened })) in
    if_false (nat_lt max_side len) TooLong _ (le-ltb max_side len closed.short) ∙ if_true (nat_lt len 17 || not (b == open_gate)) (Shut len) _ shut

pub not_open_behind : (g : ℕ) (side : Bytes) → IsNotOpen side → IsBehind g side
not_open_behind g side closed = ap (leaves_in_use g) (not_open_head side closed)

pub shut_behind : (g : ℕ) (side : Bytes) → IsShut side → IsBehind g side
shut_behind g side shut = not_open_behind g side (shut_closed side shut)

-- an older side does
pub older_behind : (v g h : ℕ) (batches : List Bytes) (side : Bytes) → g < h → StandsFor v g batches side → IsBehind h side
older_behind v g h batches side less stands = ap (leaves_in_use h) (stands_head v g batches side stands) ∙ below g h less

not_long : (t : Bool) (h : Head) (g : ℕ) → leaves_in_use g (if t then TooLong else h) ≡ true → t ≡ false
not_long true h g e = sym e
not_long false h g e = refl

-- and none that does is too long
pub behind_short : (g : ℕ) (side : Bytes) → IsBehind g side → length side ≤ max_side
behind_short g side behind = ltb-false max_side (length side) (not_long (nat_lt max_side (length side)) _ g behind)

-- so the sides hold its batches
pub holds_of : (c : Sides) (side : Side) (v g : ℕ) (batches : List Bytes) → StandsFor v g batches (side_of c side) → IsBehind g (side_of c (other_side side))
    → HoldsOf v g batches c
holds_of c side v g batches stands behind = (side, stands_in c side v g batches stands behind)

-- of some generation
pub of_any : (c : Sides) (v g : ℕ) (batches : List Bytes) → HoldsOf v g batches c → HoldsLog v batches c
of_any c v g batches holds = inl (holds.0, g, holds.1)

pub holds : (c : Sides) (side : Side) (v g : ℕ) (batches : List Bytes) → StandsFor v g batches (side_of c side) → IsBehind g (side_of c (other_side side))
    → HoldsLog v batches c
holds c side v g batches stands behind = of_any c v g batches (holds_of c side v g batches stands behind)

pub holds_round : (c : Sides) (side : Side) (v g : ℕ) (batches others : List Bytes)
    → StandsFor v g batches (side_of c side) ⊎ StandsFor v g others (side_of c side)
    → IsBehind g (side_of c (other_side side)) → HoldsRound v g batches others c
holds_round c side v g batches others (inl stands) behind = inl (holds_of c side v g batches stands behind)
holds_round c side v g batches others (inr stands) behind = inr (holds_of c side v g others stands behind)

-- the new side is not open yet, or is in use
pub holds_opened : (c : Sides) (side : Side) (v g n : ℕ) (batches copied : List Bytes) → n ≡ g + 1 → StandsFor v g batches (side_of c side)
    → IsShut (side_of c (other_side side)) ⊎ StandsFor newest n copied (side_of c (other_side side)) → HoldsOrNew v g batches copied c
holds_opened c side v g n batches copied next stands (inl shut) =
    inl (holds_of c side v g batches stands (shut_behind g (side_of c (other_side side)) shut))
holds_opened c side v g n batches copied next stands (inr opened) =
    inr (subst (λ (m : ℕ). HoldsOf newest m copied c) next
    (holds_of c (other_side side) newest n copied opened
    (older_behind v g n batches (side_of c (other_side (other_side side))) (omega (arith, next))
    (subst (λ (s : Side). StandsFor v g batches (side_of c s)) (sym (other_other side)) stands))))
