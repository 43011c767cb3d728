-- Points, coordinates and boxes.
use Rattle.std.proofs.Common.{◌≡◌, ℕ, ◌+◌, ◌<◌, ℤ, pos, negsuc, ◌+ℤ◌, ◌*ℤ◌, ◌≤ℤ◌, arith, refl, sym, ap, ◌∙◌, List, [], ◌∷◌, length, get_or, drop, suc, add-one, drop-cons}
use Rattle.std.specs.Prelude.{None, unwrap_or, fold, flat_map}
use Rattle.std.proofs.lemmas.List.Sums.{fold-append}
use Rattle.std.specs.Int.{int_div_euclid}
use Rattle.std.proofs.lemmas.Int.{ints}
use Rattle.planar_geom.specs.Points.{Point, pt, bounds, IsCoordinate, grown, square}
use Rattle.planar_geom.specs.GrownBoxes.{fold-grown}
use Rattle.planar_geom.specs.Figures.{dot}
use Rattle.planar_geom.specs.Shapes.{box_of_points}

-- half of what lies between -2 and 2 thousand million is a coordinate
half_in : (z : ℤ) → negsuc 1999999999 ≤ℤ z → z ≤ℤ pos 2000000000 → IsCoordinate (int_div_euclid z (pos 2))
half_in (pos n) low high = record { low = omega (arith, ints); high = omega (arith, ints) }
half_in (negsuc n) low high = record { low = omega (arith, ints); high = omega (arith, ints) }

-- the middle of two coordinates is one
pub middle_in : (a b : ℤ) → IsCoordinate a → IsCoordinate b → IsCoordinate (int_div_euclid (a +ℤ b) (pos 2))
middle_in a b a_in b_in = half_in (a +ℤ b) (omega (arith, ints)) (omega (arith, ints))

-- a product from its factors
pub product_from : (r d e a b : ℤ) → r ≡ d *ℤ e → d ≡ a → e ≡ b → r ≡ a *ℤ b
product_from r d e a b r_is d_is e_is = r_is ∙ rw (d_is, e_is) refl

-- points of equal coordinates are equal
pub pt_is : (a b a' b' : ℤ) → a ≡ a' → b ≡ b' → pt a b ≡ pt a' b'
pt_is a b a' b' p q = cc

-- boxes of equal corners are equal
pub bounds_are : (a b c d a' b' c' d' : ℤ) → a ≡ a' → b ≡ b' → c ≡ c' → d ≡ d' → bounds (pt a b) (pt c d) ≡ bounds (pt a' b') (pt c' d')
bounds_are a b c d a' b' c' d' p q r s = cc

-- to fold over what the items from the i-th on give is to fold over what that one gives, and then over the rest
pub fold-rest : {X A B : Type 0} (f : B → A → B) (g : X → List A) (a : B) (xs : List X) (i : ℕ) (x : X) → i < length xs → x ≡ get_or xs i x → fold f (fold f a (g x)) (flat_map g (drop (i + 1) xs)) ≡ fold f a (flat_map g (drop i xs))
fold-rest f g a xs i x h e =
    let rest : drop i xs ≡ x ∷ drop (i + 1) xs = rw add-one (drop-cons xs i x h ∙ ap (λ y. y ∷ drop (suc i) xs) (sym e)) in
    sym (fold-append f a (g x) (flat_map g (drop (i + 1) xs))) ∙ ap (λ ys. fold f a (flat_map g ys)) (sym rest)

-- the box grown from nothing round points is the least box round them
pub grown-box : (ps : List Point) → unwrap_or (fold grown None ps) (bounds (pt (pos 0) (pos 0)) (pt (pos 0) (pos 0))) ≡ box_of_points ps
grown-box [] = refl
grown-box (p ∷ ps) = ap (λ o. unwrap_or o (bounds (pt (pos 0) (pos 0)) (pt (pos 0) (pos 0)))) (fold-grown (bounds p p) ps)

-- a number times itself is its size times itself
pub square_is : (a : ℤ) → a *ℤ a ≡ pos (square a)
square_is (pos n) = refl
square_is (negsuc n) = refl

-- the scalar product of a way with itself is the square of its length
pub dot-self : (d : Point) → dot d d ≡ pos (square d.x + square d.y)
dot-self d = rw (square_is d.x, square_is d.y) refl

pub dot-self-not_negative : (d : Point) → pos 0 ≤ℤ dot d d
dot-self-not_negative d = rw (dot-self d) (omega (arith, ints))
