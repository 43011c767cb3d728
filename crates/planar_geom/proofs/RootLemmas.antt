-- The root of a number, bit by bit.
use Rattle.std.proofs.Common.{◌≡◌, ℕ, zero, suc, ◌+◌, ◌*◌, ◌^◌, ◌<◌, ◌≤◌, arith, sym, subst, inl, inr}
use Rattle.std.proofs.Math.Nat.{mul-le-mul, two-pow-succ}
use Rattle.std.specs.Prelude.{◌↔◌}
use Rattle.std.proofs.lemmas.Bool.Decides.{leb_tells}
use Rattle.planar_geom.specs.Points.{root_above, floor_root, IsFloorRoot}

squares_rise : (a b : ℕ) → a ≤ b → a * a ≤ b * b
squares_rise a b h = mul-le-mul h h

-- what lies between the squares of two numbers that follow each other has the smaller for its root
pub root_from : (n m : ℕ) → m * m ≤ n → n < (m + 1) * (m + 1) → IsFloorRoot n m
root_from n m fits over =
    record {
      fits = fits;
      greatest = λ k small. elim (leb_tells (m + 1) k) [ inl h ↦ absurd (omega (arith, squares_rise (m + 1) k h.1)) | inr h ↦ omega (arith, h.1) ];
    }

-- a number has one root at most
one_root : (n a b : ℕ) → IsFloorRoot n a → IsFloorRoot n b → a ≡ b
one_root n a b first second = omega (arith, first.greatest b second.fits, second.greatest a first.fits)

-- the bits below 2 ^ k find the root that stands less than 2 ^ k above m
root_above_is : (k n m : ℕ) → m * m ≤ n → n < (m + 2 ^ k) * (m + 2 ^ k) → IsFloorRoot n (root_above k n m)
root_above_is zero n m fits over = root_from n m fits over
root_above_is (suc k) n m fits over =
    let twice : 2 ^ suc k ≡ 2 ^ k + 2 ^ k = two-pow-succ k in
    elim (leb_tells ((m + 2 ^ k) * (m + 2 ^ k)) n) [
      | inl h ↦ rw h.0 (root_above_is k n (m + 2 ^ k) h.1 (let e : m + 2 ^ suc k ≡ m + 2 ^ k + 2 ^ k = omega (arith, twice) in subst (λ t. n < t * t) e over))
      | inr h ↦ rw h.0 (root_above_is k n m fits h.1)
    ]

floor_root-is : (n : ℕ) → n < 2 ^ 66 → IsFloorRoot n (floor_root n)
unfolding floor_root
floor_root-is n small = root_above_is 33 n 0 (omega arith) (omega (arith, small))

-- below 2 ^ 66 a number has one root, the one that is found bit by bit
pub one_floor_root : (n m : ℕ) → n < 2 ^ 66 → IsFloorRoot n m ↔ (m ≡ floor_root n)
one_floor_root n m small = (λ root. one_root n m (floor_root n) root (floor_root-is n small), λ same. subst (IsFloorRoot n) (sym same) (floor_root-is n small))
