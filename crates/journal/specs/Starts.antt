-- What stands on both sides, by what their first bytes say.
use Rattle.std.specs.Prelude.{nat_lt, if◌then◌else◌}
use Rattle.std.proofs.Common.{◌≡◌, ◌≤◌, ◌==◌, ℕ, Bool, true, false, length, refl, ap, subst, arith, eqb-true}
use Rattle.std.proofs.lemmas.Bool.Decides.{nat_tests}
use Rattle.outside.specs.declared.sides.Side.{Side}
use Rattle.outside.specs.declared.sides.Side.TheVariants.{A, B}
use Rattle.outside.specs.Sides.{Sides, side_of, other_side}
use Rattle.log_sides.specs.Texts.{max_side}
use Rattle.append_log.specs.Heads.{head_of, start_of}
use Rattle.append_log.specs.Logs.{IsFresh}
use Rattle.append_log.specs.declared.side_heads.Head.{Head}
use Rattle.append_log.specs.declared.side_heads.Head.TheVariants.{TooLong, Shut, Wrong, Open}
use Rattle.append_log.specs.declared.side_heads.Start.TheVariants.{Fresh, Standing, Damaged}
use Rattle.journal.specs.Logs.{leaves_in_use, IsBehind}
use Rattle.journal.specs.Standing.{behind_short}

-- what stands beside a side in use
not_standing : (t : Bool) (side : Side) (v g n : ℕ) → (if t then Fresh else Damaged A 0) ≡ Standing side v g n → ⊥
not_standing true side v g n e = absurd (cc e)
not_standing false side v g n e = absurd (cc e)

both_open : (v h k w n m g j u : ℕ) (t b : Bool) → (if t then Damaged B 8 else if b then Standing A v h n else Standing B w k m) ≡ Standing A u g j
    → (b ≡ true) × (h ≡ g)
both_open v h k w n m g j u true b e = absurd (cc e)
both_open v h k w n m g j u false true e = (refl, cc e)
both_open v h k w n m g j u false false e = absurd (cc e)

both_open_b : (v h k w n m g j u : ℕ) (t b : Bool) → (if t then Damaged B 8 else if b then Standing A v h n else Standing B w k m) ≡ Standing B u g j
    → (t ≡ false) × (b ≡ false) × (k ≡ g)
both_open_b v h k w n m g j u true b e = absurd (cc e)
both_open_b v h k w n m g j u false true e = absurd (cc e)
both_open_b v h k w n m g j u false false e = (refl, refl, cc e)

beside_a : (a b : Head) (v g n : ℕ) → start_of a b ≡ Standing A v g n → leaves_in_use g b ≡ true
beside_a TooLong b v g n e = absurd (cc e)
beside_a (Shut k) TooLong v g n e = absurd (cc e)
beside_a (Wrong k) TooLong v g n e = absurd (cc e)
beside_a (Open u h k) TooLong v g n e = absurd (cc e)
beside_a (Wrong k) (Shut m) v g n e = absurd (cc e)
beside_a (Wrong k) (Wrong m) v g n e = absurd (cc e)
beside_a (Wrong k) (Open u h m) v g n e = absurd (cc e)
beside_a (Shut k) (Wrong m) v g n e = absurd (cc e)
beside_a (Open u h k) (Wrong m) v g n e = absurd (cc e)
beside_a (Open u h k) (Open w i m) v g n e =
    let both = both_open u h i w k m g n v (h == i) (nat_lt i h) e in subst (λ (j : ℕ). nat_lt i j ≡ true) both.1 both.0
beside_a (Open u h k) (Shut m) v g n e = refl
beside_a (Shut k) (Open u h m) v g n e = absurd (cc e)
beside_a (Shut k) (Shut m) v g n e = absurd (not_standing (m == 0) A v g n e)

less_than : (h i : ℕ) → (h == i) ≡ false → nat_lt i h ≡ false → nat_lt h i ≡ true
less_than h i apart after = grind (arith, nat_tests)

beside_b : (a b : Head) (v g n : ℕ) → start_of a b ≡ Standing B v g n → leaves_in_use g a ≡ true
beside_b TooLong b v g n e = absurd (cc e)
beside_b (Shut k) b v g n e = refl
beside_b (Wrong k) TooLong v g n e = absurd (cc e)
beside_b (Open u h k) TooLong v g n e = absurd (cc e)
beside_b (Wrong k) (Shut m) v g n e = absurd (cc e)
beside_b (Wrong k) (Wrong m) v g n e = absurd (cc e)
beside_b (Wrong k) (Open u h m) v g n e = absurd (cc e)
beside_b (Open u h k) (Wrong m) v g n e = absurd (cc e)
beside_b (Open u h k) (Open w i m) v g n e = let both = both_open_b u h i w k m g n v (h == i) (nat_lt i h) e
    in subst (λ (j : ℕ). nat_lt h j ≡ true) both.2 (less_than h i both.0 both.1)
beside_b (Open u h k) (Shut m) v g n e = absurd (cc e)

pub beside_used : (s : Sides) (side : Side) (v g n : ℕ) → start_of (head_of s.a) (head_of s.b) ≡ Standing side v g n
    → IsBehind g (side_of s (other_side side))
beside_used s A v g n e = beside_a (head_of s.a) (head_of s.b) v g n e
beside_used s B v g n e = beside_b (head_of s.a) (head_of s.b) v g n e

-- a disk on which no log was begun: no side is open, and the second one has no byte
not_fresh : (v g w h n m : ℕ) (t u : Bool) → (if t then Damaged B 8 else if u then Standing A v g n else Standing B w h m) ≡ Fresh → ⊥
not_fresh v g w h n m true u e = absurd (cc e)
not_fresh v g w h n m false true e = absurd (cc e)
not_fresh v g w h n m false false e = absurd (cc e)

no_byte : (m : ℕ) (t : Bool) → (m == 0) ≡ t → (if t then Fresh else Damaged A 0) ≡ Fresh → m ≡ 0
no_byte m true is e = eqb-true m 0 is
no_byte m false is e = absurd (cc e)

pub fresh_is : (a b : Head) → start_of a b ≡ Fresh → (n : ℕ) × (a ≡ Shut n) × (b ≡ Shut 0)
fresh_is TooLong b e = absurd (cc e)
fresh_is (Shut n) TooLong e = absurd (cc e)
fresh_is (Shut n) (Shut m) e = (n, refl, ap Shut (no_byte m (m == 0) refl e))
fresh_is (Shut n) (Wrong m) e = absurd (cc e)
fresh_is (Shut n) (Open w h m) e = absurd (cc e)
fresh_is (Wrong n) TooLong e = absurd (cc e)
fresh_is (Wrong n) (Shut m) e = absurd (cc e)
fresh_is (Wrong n) (Wrong m) e = absurd (cc e)
fresh_is (Wrong n) (Open w h m) e = absurd (cc e)
fresh_is (Open v g n) TooLong e = absurd (cc e)
fresh_is (Open v g n) (Shut m) e = absurd (cc e)
fresh_is (Open v g n) (Wrong m) e = absurd (cc e)
fresh_is (Open v g n) (Open w h m) e = absurd (not_fresh v g w h n m (g == h) (nat_lt h g) e)

pub fresh_shut : (a b : Head) (k : ℕ) → start_of a b ≡ Fresh → start_of (Shut k) b ≡ Fresh
fresh_shut a b k e = ap (start_of (Shut k)) (fresh_is a b e).2

pub fresh_behind : (s : Sides) (g : ℕ) → IsFresh s → IsBehind g s.b
fresh_behind s g fresh = ap (leaves_in_use g) (fresh_is (head_of s.a) (head_of s.b) fresh).2

pub fresh_short : (s : Sides) → IsFresh s → length s.a ≤ max_side
fresh_short s fresh = behind_short 0 s.a (ap (leaves_in_use 0) (fresh_is (head_of s.a) (head_of s.b) fresh).1)
