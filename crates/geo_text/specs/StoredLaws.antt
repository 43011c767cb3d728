-- The stored texts are read back.
use Rattle.std.proofs.Common.{◌≡◌, ◌≢◌, ◌<◌, ◌≤◌, ◌^◌, ◌+◌, ◌%◌, length-append, ℕ, suc, ℤ, pos, negsuc, Bool, true, false, refl, sym, ◌∙◌, ap, List}
use Rattle.std.proofs.Common.{[], ◌∷◌, ◌++◌, length, decimal, nat_lt, arith, rules, append_assoc, ◌≤ℤ◌}
use Rattle.std.specs.Prelude.{filter, map, int_le, Some, None, ◌&&◌, if◌then◌else◌}
use Rattle.std.specs.List.{list_all, AllByRecursion}
use Rattle.std.specs.Fmt.{signed_decimal}
use Rattle.std.proofs.lemmas.Bool.Decides.{nat_tests}
use Rattle.std.proofs.lemmas.Fmt.{decimal_by_steps}
use mir.Val.{SFits}
use mir.Syntax.{w64}
use Rattle.std.specs.Cmp.Derive.{both_true}
use Rattle.byte_text.specs.TestLaws.{both_of, is_le}
use Rattle.byte_text.specs.Names.{Bytes, same}
use Rattle.byte_text.specs.Numbers.{signed_value}
use Rattle.byte_text.specs.ByteOrder.{same_refl, same_equal}
use Rattle.byte_text.specs.NumberLaws.{AreDigits, AreDigits-decimal, signed_back}
use Rattle.planar_geom.specs.Points.{Point, Bounds, pt, bounds, InPlane, IsCoordinate, IsBox, is_coordinate, is_low_of}
use Rattle.planar_geom.specs.declared.shapes.Part.TheVariants.{Spot, Face}
use Rattle.geo_text.specs.Texts.{Shape, is_of_number, joins_first, digit_runs, numbers_in, in_plane, is_box, position_text, point_text, bounds_text}
use Rattle.geo_text.specs.Texts.{corners, with_commas, stored_by, stored_shape}

le_is : (a b : ℤ) → a ≤ℤ b → int_le a b ≡ true
le_is a b le = search rules

fits_in : (a : ℤ) → IsCoordinate a → SFits w64 a
fits_in a c = search rules

digit : (b : ℕ) → 48 ≤ b → b < 58 → is_of_number b ≡ true
digit b low high = grind (arith, nat_tests)

digits_all : (w : Bytes) → AreDigits w → list_all is_of_number w ≡ true
digits_all [] all = refl
digits_all (b ∷ w) all = let ih = digits_all w all.1 in let here = digit b all.0.0 all.0.1 in grind arith

signed_all : (z : ℤ) → SFits w64 z → list_all is_of_number (signed_decimal z) ≡ true
signed_all (pos n) fits = digits_all (decimal n) (let limit = fits.sfits in AreDigits-decimal n (grind arith))
signed_all (negsuc n) fits = digits_all (decimal (suc n)) (let limit = fits.sfits in AreDigits-decimal (suc n) (grind arith))

some_digit : (n : ℕ) → n < 2 ^ 64 → 0 < length (decimal n)
some_digit = decimal_by_steps (λ n ds. 0 < length ds) (λ n l. grind arith) (λ n ds l h. let e = length-append ds ((48 + n % 10) ∷ []) in grind arith)

some_byte : (z : ℤ) → SFits w64 z → nat_lt 0 (length (signed_decimal z)) ≡ true
some_byte (pos n) fits = let limit = fits.sfits in let h = some_digit n (grind arith) in grind (arith, nat_tests)
some_byte (negsuc n) fits = grind (arith, nat_tests)

-- a run of a number's bytes, with another byte behind it
one_run : (w : Bytes) (b : ℕ) (rest : Bytes) → list_all is_of_number w ≡ true → is_of_number b ≡ false
    → digit_runs (w ++ b ∷ rest) ≡ w ∷ digit_runs rest
one_run [] b rest all other = grind arith
one_run (a ∷ w) b rest all other =
    let ih : list_all is_of_number w ≡ true → digit_runs (w ++ b ∷ rest) ≡ w ∷ digit_runs rest = λ more. one_run w b rest more other in
    grind arith

abbrev is_some_byte : Bytes → Bool
is_some_byte w = nat_lt 0 (length w)

-- a number in front
number_first : (z : ℤ) (b : ℕ) (rest : Bytes) → SFits w64 z → is_of_number b ≡ false → numbers_in (signed_decimal z ++ b ∷ rest) ≡ z ∷ numbers_in rest
number_first z b rest fits other =
    let ws = digit_runs rest in
    ap (λ (stretched : List Bytes). map signed_value (filter is_some_byte stretched)) (one_run (signed_decimal z) b rest (signed_all z fits) other)
    ∙ ap (λ (t : Bool). map signed_value (if t then signed_decimal z ∷ filter is_some_byte ws else filter is_some_byte ws)) (some_byte z fits)
    ∙ ap (λ (y : ℤ). y ∷ numbers_in rest) (signed_back z fits)

unfolded : (p : Point) (b : ℕ) (rest : Bytes) → position_text p ++ b ∷ rest ≡ 91 ∷ (signed_decimal p.x ++ 44 ∷ (signed_decimal p.y ++ 93 ∷ b ∷ rest))
unfolded p b rest =
    let x = signed_decimal p.x in
    let y = signed_decimal p.y in
    let one : (((x ++ 44 ∷ []) ++ y) ++ 93 ∷ []) ++ b ∷ rest ≡ x ++ 44 ∷ (y ++ 93 ∷ b ∷ rest) =
    append_assoc ((x ++ 44 ∷ []) ++ y) (93 ∷ []) (b ∷ rest) ∙ append_assoc (x ++ 44 ∷ []) y (93 ∷ b ∷ rest)
    ∙ append_assoc x (44 ∷ []) (y ++ 93 ∷ b ∷ rest) in
    ap (λ (t : Bytes). 91 ∷ t) one

other_byte : (b : ℕ) (rest : Bytes) → is_of_number b ≡ false → numbers_in (b ∷ rest) ≡ numbers_in rest
other_byte b rest other = ap (λ (t : Bool). map signed_value
    (filter is_some_byte (if t then joins_first b (digit_runs rest) else [] ∷ digit_runs rest))) other

-- a position in front
position_first : (p : Point) (b : ℕ) (rest : Bytes) → InPlane p → is_of_number b ≡ false
    → numbers_in (position_text p ++ b ∷ rest) ≡ p.x ∷ p.y ∷ numbers_in rest
position_first p b rest in_p other =
    ap numbers_in (unfolded p b rest)
    ∙ number_first p.x 44 (signed_decimal p.y ++ 93 ∷ b ∷ rest) (fits_in p.x in_p.x_in) refl
    ∙ ap (λ ns. p.x ∷ ns) (number_first p.y 93 (b ∷ rest) (fits_in p.y in_p.y_in) refl ∙ ap (λ ns. p.y ∷ ns) (other_byte b rest other))

plane_is : (p : Point) → InPlane p → in_plane p ≡ true
plane_is p h =
    let a = le_is _ _ h.x_in.low in
    let b = le_is _ _ h.x_in.high in
    let c = le_is _ _ h.y_in.low in
    let d = le_is _ _ h.y_in.high in
    grind arith

box_is : (b : Bounds) → IsBox b → is_box b ≡ true
box_is b h =
    let low = plane_is b.min h.min_in_plane in
    let high = plane_is b.max h.max_in_plane in
    let x = le_is _ _ h.x_ordered in
    let y = le_is _ _ h.y_ordered in
    grind arith

coordinate_in : (a : ℤ) → is_coordinate a ≡ true → IsCoordinate a
coordinate_in a e = record { low = is_le _ _ (both_of _ _ e).0; high = is_le _ _ (both_of _ _ e).1 }

is_plane : (p : Point) → in_plane p ≡ true → InPlane p
is_plane p e = record { x_in = coordinate_in p.x (both_of _ _ e).0; y_in = coordinate_in p.y (both_of _ _ e).1 }

stored : (test : Bool) (shape : Shape) → test ≡ true → (if test then Some shape else None) ≡ Some shape
stored test shape e = ap (λ (t : Bool). if t then Some shape else None) e

-- the text of a point is read back
pub point_back : (p : Point) → InPlane p → stored_shape (point_text p) ≡ Some (Spot p ∷ [])
point_back p h =
    let numbers : numbers_in (point_text p) ≡ p.x ∷ p.y ∷ [] = position_first p 125 [] h refl in
    ap (stored_by (point_text p)) numbers
    ∙ stored (in_plane p && same (point_text p) (point_text p)) (Spot p ∷ []) (both_true (plane_is p h) (same_refl (point_text p)))

abbrev coordinates_of : List Point → List ℤ
coordinates_of [] = []
coordinates_of (p ∷ ps) = p.x ∷ p.y ∷ coordinates_of ps

abbrev AllInPlane : List Point → Type 0
AllInPlane ps = AllByRecursion InPlane ps

positions_first : (p : Point) (ps : List Point) (rest : Bytes) → AllInPlane (p ∷ ps)
    → numbers_in (with_commas (map position_text (p ∷ ps)) ++ 93 ∷ rest) ≡ coordinates_of (p ∷ ps) ++ numbers_in rest
positions_first p [] rest all = position_first p 93 rest all.0 refl
positions_first p (q ∷ ps) rest all =
    ap numbers_in (append_assoc (position_text p) (44 ∷ with_commas (map position_text (q ∷ ps))) (93 ∷ rest))
    ∙ position_first p 44 (with_commas (map position_text (q ∷ ps)) ++ 93 ∷ rest) all.0 refl
    ∙ ap (λ ns. p.x ∷ p.y ∷ ns) (positions_first q ps rest all.1)

corners_in : (b : Bounds) → IsBox b → AllInPlane (corners b)
corners_in b h =
    let side : InPlane (pt b.max.x b.min.y) = record { x_in = h.max_in_plane.x_in; y_in = h.min_in_plane.y_in } in
    let top : InPlane (pt b.min.x b.max.y) = record { x_in = h.min_in_plane.x_in; y_in = h.max_in_plane.y_in } in
    (h.min_in_plane, (side, (h.max_in_plane, (top, (h.min_in_plane, tt)))))

-- the text of a box is read back
pub bounds_back : (b : Bounds) → IsBox b → stored_shape (bounds_text b) ≡ Some (Face (corners b ∷ []) ∷ [])
bounds_back b h =
    let numbers : numbers_in (bounds_text b) ≡ coordinates_of (corners b)
    ++ [] = positions_first b.min (pt b.max.x b.min.y ∷ b.max ∷ pt b.min.x b.max.y ∷ b.min ∷ []) (93 ∷ 125 ∷ []) (corners_in b h) in
    ap (stored_by (bounds_text b)) numbers
    ∙ stored (is_box b && same (bounds_text b) (bounds_text b)) (Face (corners b ∷ []) ∷ []) (both_true (box_is b h) (same_refl (bounds_text b)))

-- what no point and no box is stored as

no_point : (text : Bytes) → ((p : Point) → InPlane p → text ≢ point_text p) → (p : Point) → (a b : Bool) → in_plane p ≡ a
    → same (point_text p) text ≡ b → (if a && b then Some (Spot p ∷ []) else None) ≡ None
no_point text none p true true e f = absurd (none p (is_plane p e) (sym (same_equal (point_text p) text f)))
no_point text none p true false e f = refl
no_point text none p false b e f = refl

low_is : (b : Bounds) → is_low_of b.min b.max ≡ true → in_plane b.min ≡ true → in_plane b.max ≡ true → IsBox b
low_is b e low high = record {
  min_in_plane = is_plane b.min low;
  max_in_plane = is_plane b.max high;
  x_ordered =
      is_le _ _ (both_of _ _ e).0;
  y_ordered = is_le _ _ (both_of _ _ e).1;
}

is_boxed : (b : Bounds) → is_box b ≡ true → IsBox b
is_boxed b e =
    let parts = both_of (in_plane b.min && in_plane b.max) (is_low_of b.min b.max) e in
    let corners = both_of (in_plane b.min) (in_plane b.max) parts.0 in
    low_is b parts.1 corners.0 corners.1

no_box : (text : Bytes) → ((b : Bounds) → IsBox b → text ≢ bounds_text b) → (c : Bounds) → (a b : Bool) → is_box c ≡ a → same (bounds_text c) text ≡ b
    → (if a && b then Some (Face (corners c ∷ []) ∷ []) else None) ≡ None
no_box text none c true true e f = absurd (none c (is_boxed c e) (sym (same_equal (bounds_text c) text f)))
no_box text none c true false e f = refl
no_box text none c false b e f = refl

by_numbers : (text : Bytes) (ns : List ℤ) → ((p : Point) → InPlane p → text ≢ point_text p) → ((b : Bounds) → IsBox b → text ≢ bounds_text b)
    → stored_by text ns ≡ None
by_numbers text [] points boxes = refl
by_numbers text (x ∷ []) points boxes = refl
by_numbers text (x ∷ y ∷ []) points boxes = no_point text points (pt x y) _ _ refl refl
by_numbers text (x ∷ y ∷ z ∷ []) points boxes = refl
by_numbers text (x ∷ y ∷ z ∷ u ∷ []) points boxes = refl
by_numbers text (x ∷ y ∷ z ∷ u ∷ v ∷ []) points boxes = refl
by_numbers text (a ∷ b ∷ c ∷ beside ∷ above ∷ d ∷ others) points boxes = no_box text boxes (bounds (pt a b) (pt c d)) _ _ refl refl

pub others_none : (text : Bytes) → ((p : Point) → InPlane p → text ≢ point_text p) → ((b : Bounds) → IsBox b → text ≢ bounds_text b)
    → stored_shape text ≡ None
others_none text points boxes = by_numbers text (numbers_in text) points boxes
