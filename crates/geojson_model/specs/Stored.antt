-- The texts that are stored for points and boxes, byte by byte from the left.
use Rattle.std.specs.Prelude.{◌≢◌, ℕ, ℤ, List, [], ◌∷◌, ◌++◌, codes}
use Rattle.std.specs.List.{AllByRecursion}
use Rattle.std.specs.Fmt.{signed_decimal}
use Rattle.planar_geom.specs.Points.{Point, Bounds, pt}

-- a number, the byte that ends it, and what follows
abbrev pub ended : ℤ → ℕ → List ℕ → List ℕ
ended z end rest = signed_decimal z ++ end ∷ rest

-- a position, and what follows
abbrev pub position_then : Point → List ℕ → List ℕ
position_then p rest = 91 ∷ ended p.x 44 (ended p.y 93 rest)

abbrev pub point_head : List ℕ
point_head = codes "{\"type\":\"Point\",\"coordinates\":"

abbrev pub bounds_head : List ℕ
bounds_head = codes "{\"type\":\"Polygon\",\"coordinates\":[["

abbrev pub point_form : Point → List ℕ
point_form p = point_head ++ position_then p (125 ∷ [])

-- five positions with commas between them, and the end of the text
abbrev pub five_form : Point → Point → Point → Point → Point → List ℕ
five_form p q r s t = position_then p (44 ∷ position_then q (44 ∷ position_then r (44 ∷ position_then s (44 ∷ position_then t (93 ∷ 93 ∷ 125 ∷ [])))))

-- the corners of a box, from its min round to its min
abbrev pub ring_form : Bounds → List ℕ
ring_form b = five_form b.min (pt b.max.x b.min.y) b.max (pt b.min.x b.max.y) b.min

abbrev pub bounds_form : Bounds → List ℕ
bounds_form b = bounds_head ++ ring_form b

-- a text without this byte
abbrev pub Without : ℕ → List ℕ → Type 0
Without end text = AllByRecursion (λ b. b ≢ end) text
