-- Points and boxes that were read, and the stored texts byte by byte.
use Rattle.std.proofs.Common.{◌≡◌, ℕ, ◌≤◌, ℤ, pos, negsuc, ◌≤ℤ◌, int_le, Bool, true, false, true≢false, List, [], ◌∷◌, ◌++◌, map, refl, sym, ap, ◌∙◌, append_assoc, arith, to_z, of_z}
use Rattle.std.specs.Prelude.{Option, Some, None, ◌&&◌, if◌then◌else◌}
use Rattle.std.specs.Fmt.{signed_decimal}
use Rattle.std.proofs.lemmas.Int.{ints, to_z-of_z}
use mir.Val.{SFits}
use mir.Syntax.{w64}
use Rattle.planar_geom.specs.Points.{Point, Bounds, pt, bounds, same_int, same_point, is_coordinate, is_low_of, point_at, bounds_of, IsCoordinate, InPlane, IsBox}
use Rattle.planar_geom.specs.declared.shapes.Part.TheVariants.{Spot, Face}
use Rattle.geo_text.specs.Texts.{with_commas, position_text, point_text, corners, bounds_text, stored_shape}
use Rattle.geo_text.specs.StoredLaws.{point_back, bounds_back, others_none}
use Rattle.geojson_model.specs.Stored.{position_then, point_head, bounds_head, point_form, five_form, bounds_form}

-- ---- tests and what they test

both_of : (a b : Bool) → (a && b) ≡ true → (a ≡ true) × (b ≡ true)
both_of true b e = (refl, e)
both_of false b e = absurd (true≢false (sym e))

true_le : (a b : ℤ) → int_le a b ≡ true → a ≤ℤ b
true_le a b e = omega (arith, ints)

fits : (z : ℤ) → IsCoordinate z → SFits w64 z
fits (pos n) c = let h : pos n ≤ℤ pos 1000000000 = c.high in let l : n ≤ 9223372036854775807 = omega (arith, ints) in record { sfits = omega (arith, l) }
fits (negsuc n) c = let h : negsuc 999999999 ≤ℤ negsuc n = c.low in let l : n ≤ 9223372036854775807 = omega (arith, ints) in record { sfits = omega (arith, l) }

pub x_fits : (p : Point) → InPlane p → SFits w64 p.x
x_fits p h = fits p.x h.x_in

pub y_fits : (p : Point) → InPlane p → SFits w64 p.y
y_fits p h = fits p.y h.y_in

some_if : {A : Type 0} (b : Bool) (x y : A) → ◌≡◌ {A = Option A} (Some x) (if b then Some y else None) → x ≡ y
some_if true x y e = cc (e)
some_if false x y e = absurd (cc (e))

pt_is : (a b c d : ℤ) → a ≡ c → b ≡ d → pt a b ≡ pt c d
pt_is a b c d p q = cc

-- the point that was made has these coordinates
point_made : (p : Point) (x y : ℤ) → Some p ≡ point_at x y → p ≡ pt x y
point_made p x y e = some_if (is_coordinate x && is_coordinate y) p (pt x y) e

-- the point that was made of the numbers of another is that one
pub made_from : (p q : Point) (x y : ℤ) → InPlane q → x ≡ q.x → y ≡ q.y → Some p ≡ point_at (to_z w64 (of_z w64 x)) (to_z w64 (of_z w64 y)) → p ≡ q
made_from p q x y inside a b e =
    let xs : to_z w64 (of_z w64 x) ≡ q.x = ap (λ z. to_z w64 (of_z w64 z)) a ∙ to_z-of_z w64 q.x (x_fits q inside) in
    let ys : to_z w64 (of_z w64 y) ≡ q.y = ap (λ z. to_z w64 (of_z w64 z)) b ∙ to_z-of_z w64 q.y (y_fits q inside) in
    let made : pt (to_z w64 (of_z w64 x)) (to_z w64 (of_z w64 y)) ≡ q = rw (xs, ys) refl in
    point_made p (to_z w64 (of_z w64 x)) (to_z w64 (of_z w64 y)) e ∙ made

same_int_is : (a b : ℤ) → same_int a b ≡ true → a ≡ b
same_int_is a b e = let h = both_of (int_le a b) (int_le b a) e in antisym a b (true_le a b h.0) (true_le b a h.1)
  where
    antisym : (a b : ℤ) → a ≤ℤ b → b ≤ℤ a → a ≡ b
    antisym (pos m) (pos n) p q = ap pos (omega (arith, ints))
    antisym (pos m) (negsuc n) p q = absurd (omega (arith, ints))
    antisym (negsuc m) (pos n) p q = absurd (omega (arith, ints))
    antisym (negsuc m) (negsuc n) p q = ap negsuc (omega (arith, ints))

-- points that agree are one
same_point_is : (p q : Point) → same_point p q ≡ true → p ≡ q
same_point_is p q e = let h = both_of (same_int p.x q.x) (same_int p.y q.y) e in rw (same_int_is p.x q.x h.0, same_int_is p.y q.y h.1) refl

-- corners that agree with a box's are its corners
pub corners_agree : (b : Bounds) (low beside high above last : Point) → Some b ≡ bounds_of low high → same_point beside (pt high.x low.y) ≡ true → same_point above (pt low.x high.y) ≡ true → same_point last b.min ≡ true
    → low ∷ beside ∷ high ∷ above ∷ last ∷ [] ≡ corners b
corners_agree b low beside high above last made p q r =
    let is : b ≡ bounds low high = some_if (is_low_of low high) b (bounds low high) made in
    let lows : b.min ≡ low = ap (λ (c : Bounds). c.min) is in
    rw (same_point_is beside _ p, same_point_is above _ q, same_point_is last _ r ∙ lows, is) refl

pub corners_are : (b : Bounds) (p q r s t : Point) → p ≡ b.min → q ≡ pt b.max.x b.min.y → r ≡ b.max → s ≡ pt b.min.x b.max.y → t ≡ b.min → p ∷ q ∷ r ∷ s ∷ t ∷ [] ≡ corners b
corners_are b p q r s t k l m n o = rw (k, l, m, n, o) refl

-- ---- the texts from the left

position_is : (p : Point) (rest : List ℕ) → position_text p ++ rest ≡ position_then p rest
position_is p rest =
    let x : List ℕ = signed_decimal p.x in
    let y : List ℕ = signed_decimal p.y in
    let one : (((x ++ 44 ∷ []) ++ y) ++ 93 ∷ []) ++ rest ≡ x ++ 44 ∷ (y ++ 93 ∷ rest) =
    append_assoc ((x ++ 44 ∷ []) ++ y) (93 ∷ []) rest ∙ append_assoc (x ++ 44 ∷ []) y (93 ∷ rest) ∙ append_assoc x (44 ∷ []) (y ++ 93 ∷ rest) in
    ap (λ (t : List ℕ). 91 ∷ t) one

next_is : (p : Point) (others tail whole_rest : List ℕ) → others ++ tail ≡ whole_rest → (position_text p ++ 44 ∷ others) ++ tail ≡ position_then p (44 ∷ whole_rest)
next_is p others tail whole_rest e = append_assoc (position_text p) (44 ∷ others) tail ∙ position_is p (44 ∷ (others ++ tail)) ∙ ap (λ (t : List ℕ). position_then p (44 ∷ t)) e

pub point_text_is : (p : Point) → point_text p ≡ point_form p
point_text_is p = append_assoc point_head (position_text p) (125 ∷ []) ∙ ap (λ (t : List ℕ). point_head ++ t) (position_is p (125 ∷ []))

ring_is : (p q r s t : Point) → with_commas (map position_text (p ∷ q ∷ r ∷ s ∷ t ∷ [])) ++ (93 ∷ 93 ∷ 125 ∷ []) ≡ five_form p q r s t
ring_is p q r s t =
    let tail : List ℕ = 93 ∷ 93 ∷ 125 ∷ [] in
    let four : List ℕ = position_text s ++ 44 ∷ position_text t in
    let three : List ℕ = position_text r ++ 44 ∷ four in
    let two : List ℕ = position_text q ++ 44 ∷ three in
    next_is p two tail _ (next_is q three tail _ (next_is r four tail _ (next_is s (position_text t) tail _ (position_is t tail))))

pub bounds_text_is : (b : Bounds) → bounds_text b ≡ bounds_form b
bounds_text_is b =
    append_assoc bounds_head (with_commas (map position_text (corners b))) (93 ∷ 93 ∷ 125 ∷ [])
    ∙ ap (λ (t : List ℕ). bounds_head ++ t) (ring_is b.min (pt b.max.x b.min.y) b.max (pt b.min.x b.max.y) b.min)

-- ---- the shapes of stored texts

pub beside_in : (b : Bounds) → IsBox b → InPlane (pt b.max.x b.min.y)
beside_in b h = record { x_in = h.max_in_plane.x_in; y_in = h.min_in_plane.y_in }

pub above_in : (b : Bounds) → IsBox b → InPlane (pt b.min.x b.max.y)
above_in b h = record { x_in = h.min_in_plane.x_in; y_in = h.max_in_plane.y_in }

pub point_stored : (text : List ℕ) (p : Point) → InPlane p → text ≡ point_form p → stored_shape text ≡ Some (Spot p ∷ [])
point_stored text p h is = ap stored_shape (is ∙ sym (point_text_is p)) ∙ point_back p h

pub bounds_stored : (text : List ℕ) (b : Bounds) → IsBox b → text ≡ bounds_form b → stored_shape text ≡ Some (Face (corners b ∷ []) ∷ [])
bounds_stored text b h is = ap stored_shape (is ∙ sym (bounds_text_is b)) ∙ bounds_back b h

-- a text that is neither form is not a stored one
pub none_stored : (text : List ℕ) → ((p : Point) → InPlane p → text ≡ point_form p → ⊥) → ((b : Bounds) → IsBox b → text ≡ bounds_form b → ⊥) → stored_shape text ≡ None
none_stored text point box = others_none text (λ p h is. point p h (is ∙ point_text_is p)) (λ b h is. box b h (is ∙ bounds_text_is b))

pub is_there : false ≡ true → ⊥
is_there e = true≢false (sym e)

-- what stands behind each corner of a stored box
abbrev pub behind_last : List ℕ
behind_last = 93 ∷ 93 ∷ 125 ∷ []

abbrev pub behind_above : Bounds → List ℕ
behind_above b = 44 ∷ position_then b.min behind_last

abbrev pub behind_high : Bounds → List ℕ
behind_high b = 44 ∷ position_then (pt b.min.x b.max.y) (behind_above b)

abbrev pub behind_beside : Bounds → List ℕ
behind_beside b = 44 ∷ position_then b.max (behind_high b)

abbrev pub behind_low : Bounds → List ℕ
behind_low b = 44 ∷ position_then (pt b.max.x b.min.y) (behind_beside b)
