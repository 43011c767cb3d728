-- Parts that touch have boxes that meet, and a part that lies in a face has its box in the face's.
use Rattle.std.proofs.Common.{◌≡◌, Bool, true, false, refl, sym, ap, ◌∙◌, subst, arith, pos, ◌≤ℤ◌, List, [], ◌∷◌}
use Rattle.std.specs.Prelude.{◌&&◌, ◌||◌, int_le, fold}
use Rattle.std.specs.List.{list_any, list_all}
use Rattle.std.proofs.lemmas.Int.{ints, clamps}
use Rattle.std.proofs.lemmas.List.Folds.{list_all-append}
use Rattle.planar_geom.specs.Points.{Point, Bounds, bounds, in_box, boxes_meet, ranges_meet, same_int, with_point}
use Rattle.planar_geom.specs.Figures.{Segment, segment, segments_from, edges, ring_points, meets, sides, box_of_segment, is_poly, in_poly}
use Rattle.planar_geom.specs.Shapes.{vertices, segments, is_part, box_of_points}
use Rattle.planar_geom.specs.Relations.{in_part, face_of, touch, lies_in}
use Rattle.planar_geom.specs.declared.shapes.Part.{Part}
use Rattle.planar_geom.specs.declared.shapes.Part.TheVariants.{Spot, Chain, Face}
use Rattle.planar_geom.proofs.BoolLemmas.{and-left, and-right, and-both, or-elim}
use Rattle.planar_geom.proofs.BoxLaws.{Inside, inside, in_box-from, from_le, to_le, box_of_points-all, meet-at}
use Rattle.planar_geom.proofs.ParityLaws.{on_chain-inside, in_poly-inside}
use Rattle.planar_geom.proofs.SegmentLaws.{boxes_meet-swap}
use Rattle.planar_geom.proofs.WithinLaws.{with_vertex, lies-vertices}

no : {P : Type 0} → false ≡ true → P
no h = absurd (let no' : false ≡ true = h in cc)

-- both ends of a segment are in a box
abbrev pub ends_in : Bounds → Segment → Bool
ends_in b s = in_box b s.a && in_box b s.b

chain-ends : (b : Bounds) (q : Point) (qs : List Point) → list_all (in_box b) (q ∷ qs) ≡ true → list_all (ends_in b) (segments_from q qs) ≡ true
chain-ends b q [] held = refl
chain-ends b q (r ∷ rs) held =
    let rest = and-right (in_box b q) (list_all (in_box b) (r ∷ rs)) held in
    and-both (ends_in b (segment q r)) (list_all (ends_in b) (segments_from r rs)) (and-both (in_box b q) (in_box b r) (and-left (in_box b q) (list_all (in_box b) (r ∷ rs)) held) (and-left (in_box b r) (list_all (in_box b) rs) rest)) (chain-ends b r rs rest)

ring-ends : (b : Bounds) (rings : List (List Point)) → list_all (in_box b) (ring_points rings) ≡ true → list_all (ends_in b) (edges rings) ≡ true
ring-ends b [] held = refl
ring-ends b ([] ∷ rings) held = ring-ends b rings held
ring-ends b ((q ∷ qs) ∷ rings) held =
    let both = sym (list_all-append (in_box b) (q ∷ qs) (ring_points rings)) ∙ held in
    list_all-append (ends_in b) (segments_from q qs) (edges rings)
    ∙ and-both (list_all (ends_in b) (segments_from q qs)) (list_all (ends_in b) (edges rings)) (chain-ends b q qs (and-left (list_all (in_box b) (q ∷ qs)) (list_all (in_box b) (ring_points rings)) both)) (ring-ends b rings (and-right (list_all (in_box b) (q ∷ qs)) (list_all (in_box b) (ring_points rings)) both))

pub part-ends : (b : Bounds) (part : Part) → list_all (in_box b) (vertices part) ≡ true → list_all (ends_in b) (segments part) ≡ true
part-ends b (Spot p) held = refl
part-ends b (Chain []) held = refl
part-ends b (Chain (q ∷ qs)) held = chain-ends b q qs held
part-ends b (Face rings) held = ring-ends b rings held

-- boxes that hold two segments meet where the segments do
held-meet : (b c : Bounds) (s t : Segment) → ends_in b s ≡ true → ends_in c t ≡ true → meets s t ≡ true → boxes_meet b c ≡ true
held-meet b c s t in_b in_c met =
    let box = box_of_segment s in
    let other = box_of_segment t in
    let boxes = and-left (boxes_meet box other) (int_le (sides s t) (pos 0)) (and-left (boxes_meet box other && int_le (sides s t) (pos 0)) (int_le (sides t s) (pos 0)) met) in
    let x_met = and-left (ranges_meet box.min.x box.max.x other.min.x other.max.x) (ranges_meet box.min.y box.max.y other.min.y other.max.y) boxes in
    let y_met = and-right (ranges_meet box.min.x box.max.x other.min.x other.max.x) (ranges_meet box.min.y box.max.y other.min.y other.max.y) boxes in
    let x₁ : box.min.x ≤ℤ other.max.x = from_le (and-left (int_le box.min.x other.max.x) (int_le other.min.x box.max.x) x_met) in
    let x₂ : other.min.x ≤ℤ box.max.x = from_le (and-right (int_le box.min.x other.max.x) (int_le other.min.x box.max.x) x_met) in
    let y₁ : box.min.y ≤ℤ other.max.y = from_le (and-left (int_le box.min.y other.max.y) (int_le other.min.y box.max.y) y_met) in
    let y₂ : other.min.y ≤ℤ box.max.y = from_le (and-right (int_le box.min.y other.max.y) (int_le other.min.y box.max.y) y_met) in
    let a = inside b s.a (and-left (in_box b s.a) (in_box b s.b) in_b) in
    let a' = inside b s.b (and-right (in_box b s.a) (in_box b s.b) in_b) in
    let d = inside c t.a (and-left (in_box c t.a) (in_box c t.b) in_c) in
    let d' = inside c t.b (and-right (in_box c t.a) (in_box c t.b) in_c) in
    let u₁ : b.min.x ≤ℤ c.max.x = omega (arith, ints, clamps, x₁, a.left, a'.left, d.right, d'.right) in
    let u₂ : c.min.x ≤ℤ b.max.x = omega (arith, ints, clamps, x₂, a.right, a'.right, d.left, d'.left) in
    let v₁ : b.min.y ≤ℤ c.max.y = omega (arith, ints, clamps, y₁, a.bottom, a'.bottom, d.top, d'.top) in
    let v₂ : c.min.y ≤ℤ b.max.y = omega (arith, ints, clamps, y₂, a.top, a'.top, d.bottom, d'.bottom) in
    rw (to_le u₁, to_le u₂, to_le v₁, to_le v₂) refl

one-meets : (b c : Bounds) (s : Segment) (ts : List Segment) → ends_in b s ≡ true → list_all (ends_in c) ts ≡ true → list_any (meets s) ts ≡ true → boxes_meet b c ≡ true
one-meets b c s [] in_b in_c met = no met
one-meets b c s (t ∷ ts) in_b in_c met =
    or-elim (meets s t) (list_any (meets s) ts) met
    (λ h. held-meet b c s t in_b (and-left (ends_in c t) (list_all (ends_in c) ts) in_c) h)
    (λ h. one-meets b c s ts in_b (and-right (ends_in c t) (list_all (ends_in c) ts) in_c) h)

some-meet : (b c : Bounds) (ss ts : List Segment) → list_all (ends_in b) ss ≡ true → list_all (ends_in c) ts ≡ true → list_any (λ s. list_any (meets s) ts) ss ≡ true → boxes_meet b c ≡ true
some-meet b c [] ts in_b in_c met = no met
some-meet b c (s ∷ ss) ts in_b in_c met =
    or-elim (list_any (meets s) ts) (list_any (λ s. list_any (meets s) ts) ss) met
    (λ h. one-meets b c s ts (and-left (ends_in b s) (list_all (ends_in b) ss) in_b) in_c h)
    (λ h. some-meet b c ss ts (and-right (ends_in b s) (list_all (ends_in b) ss) in_b) in_c h)

-- a point of a part is in each box that holds the part's points
pub in_part-held : (part : Part) (p : Point) (b : Bounds) → is_part part ≡ true → list_all (in_box b) (vertices part) ≡ true → in_part part p ≡ true → Inside b p
in_part-held (Spot q) p b whole held is_in =
    let at_q = inside b q (and-left (in_box b q) true held) in
    let x_same = and-left (same_int q.x p.x) (same_int q.y p.y) is_in in
    let y_same = and-right (same_int q.x p.x) (same_int q.y p.y) is_in in
    let x₁ : q.x ≤ℤ p.x = from_le (and-left (int_le q.x p.x) (int_le p.x q.x) x_same) in
    let x₂ : p.x ≤ℤ q.x = from_le (and-right (int_le q.x p.x) (int_le p.x q.x) x_same) in
    let y₁ : q.y ≤ℤ p.y = from_le (and-left (int_le q.y p.y) (int_le p.y q.y) y_same) in
    let y₂ : p.y ≤ℤ q.y = from_le (and-right (int_le q.y p.y) (int_le p.y q.y) y_same) in
    record { left = omega (arith, ints, at_q.left, x₁); right = omega (arith, ints, at_q.right, x₂); bottom = omega (arith, ints, at_q.bottom, y₁); top = omega (arith, ints, at_q.top, y₂) }
in_part-held (Chain []) p b whole held is_in = no whole
in_part-held (Chain (q ∷ qs)) p b whole held is_in = on_chain-inside p q qs b held is_in
in_part-held (Face rings) p b whole held is_in = in_poly-inside p rings b whole held is_in

in_part-inside : (part : Part) (p : Point) → is_part part ≡ true → in_part part p ≡ true → Inside (box_of_points (vertices part)) p
in_part-inside part p whole is_in = in_part-held part p (box_of_points (vertices part)) whole (box_of_points-all (vertices part)) is_in

some-in : (b : Bounds) (part : Part) (ps : List Point) → is_part part ≡ true → list_all (in_box b) ps ≡ true → list_any (in_part part) ps ≡ true → boxes_meet b (box_of_points (vertices part)) ≡ true
some-in b part [] whole held is_in = no is_in
some-in b part (p ∷ ps) whole held is_in =
    or-elim (in_part part p) (list_any (in_part part) ps) is_in
    (λ h. meet-at b (box_of_points (vertices part)) p (inside b p (and-left (in_box b p) (list_all (in_box b) ps) held)) (in_part-inside part p whole h))
    (λ h. some-in b part ps whole (and-right (in_box b p) (list_all (in_box b) ps) held) h)

-- parts that touch have boxes that meet
touch-boxes : (a b : Part) → is_part a ≡ true → is_part b ≡ true → touch a b ≡ true → boxes_meet (box_of_points (vertices a)) (box_of_points (vertices b)) ≡ true
touch-boxes a b a_whole b_whole touching =
    let box = box_of_points (vertices a) in
    let other = box_of_points (vertices b) in
    let held = box_of_points-all (vertices a) in
    let other_held = box_of_points-all (vertices b) in
    or-elim (list_any (λ s. list_any (meets s) (segments b)) (segments a) || list_any (in_part b) (vertices a)) (list_any (in_part a) (vertices b)) touching
    (λ first. or-elim (list_any (λ s. list_any (meets s) (segments b)) (segments a)) (list_any (in_part b) (vertices a)) first
    (λ h. some-meet box other (segments a) (segments b) (part-ends box a held) (part-ends other b other_held) h)
    (λ h. some-in box b (vertices a) b_whole held h))
    (λ h. boxes_meet-swap box other ∙ some-in other a (vertices b) a_whole other_held h)

-- parts whose boxes do not meet do not touch
pub apart-touch : (a b : Part) → is_part a ≡ true → is_part b ≡ true → boxes_meet (box_of_points (vertices a)) (box_of_points (vertices b)) ≡ false → touch a b ≡ false
apart-touch a b a_whole b_whole apart = by_test (touch a b) refl
  where
    by_test : (t : Bool) → touch a b ≡ t → touch a b ≡ false
    by_test false e = e
    by_test true e = no (sym apart ∙ touch-boxes a b a_whole b_whole e)

-- a box that holds points holds both corners of the box round them
corners-held : (b box : Bounds) (ps : List Point) → Inside b box.min → Inside b box.max → list_all (in_box b) ps ≡ true → (in_box b (fold with_point box ps).min && in_box b (fold with_point box ps).max) ≡ true
corners-held b box [] low high held = and-both (in_box b box.min) (in_box b box.max) (in_box-from b box.min low) (in_box-from b box.max high)
corners-held b box (p ∷ ps) low high held =
    let h = inside b p (and-left (in_box b p) (list_all (in_box b) ps) held) in
    corners-held b (with_point box p) ps
    (record { left = omega (arith, ints, clamps, low.left, h.left); right = omega (arith, ints, clamps, low.right, h.right); bottom = omega (arith, ints, clamps, low.bottom, h.bottom); top = omega (arith, ints, clamps, low.top, h.top) })
    (record { left = omega (arith, ints, clamps, high.left, h.left); right = omega (arith, ints, clamps, high.right, h.right); bottom = omega (arith, ints, clamps, high.bottom, h.bottom); top = omega (arith, ints, clamps, high.top, h.top) })
    (and-right (in_box b p) (list_all (in_box b) ps) held)

-- what all points of a list pass that another test implies
all-imply : (test other : Point → Bool) (ps : List Point) → ((p : Point) → test p ≡ true → other p ≡ true) → list_all test ps ≡ true → list_all other ps ≡ true
all-imply test other [] implies all = refl
all-imply test other (p ∷ ps) implies all =
    and-both (other p) (list_all other ps) (implies p (and-left (test p) (list_all test ps) all)) (all-imply test other ps implies (and-right (test p) (list_all test ps) all))

-- a part that lies in a face has its box in the face's box
lies-boxes : (part : Part) (rings : List (List Point)) → is_part part ≡ true → is_poly rings ≡ true → lies_in part rings ≡ true → (in_box (box_of_points (ring_points rings)) (box_of_points (vertices part)).min && in_box (box_of_points (ring_points rings)) (box_of_points (vertices part)).max) ≡ true
lies-boxes part rings whole poly lies =
    let b = box_of_points (ring_points rings) in
    let all : list_all (in_box b) (vertices part) ≡ true = all-imply (in_poly rings) (in_box b) (vertices part) (λ p h. in_box-from b p (in_poly-inside p rings b poly (box_of_points-all (ring_points rings)) h)) (lies-vertices part rings lies) in
    with_vertex part whole (λ v vs e.
    let P : List Point → Type 0 = λ ps. (in_box b (box_of_points ps).min && in_box b (box_of_points ps).max) ≡ true in
    let held = ap (list_all (in_box b)) (sym e) ∙ all in
    let first = inside b v (and-left (in_box b v) (list_all (in_box b) vs) held) in
    subst P (sym e) (corners-held b (bounds v v) vs first first (and-right (in_box b v) (list_all (in_box b) vs) held)))

-- a part whose box is not in the face's box does not lie in the face
pub outside-lies : (part : Part) (rings : List (List Point)) → is_part part ≡ true → is_poly rings ≡ true → (in_box (box_of_points (ring_points rings)) (box_of_points (vertices part)).min && in_box (box_of_points (ring_points rings)) (box_of_points (vertices part)).max) ≡ false → lies_in part rings ≡ false
outside-lies part rings whole poly outside = by_test (lies_in part rings) refl
  where
    by_test : (t : Bool) → lies_in part rings ≡ t → lies_in part rings ≡ false
    by_test false e = e
    by_test true e = no (sym outside ∙ lies-boxes part rings whole poly e)

-- the face of a box is a polygon
pub face-is_part : (b : Bounds) → is_part (face_of b) ≡ true
face-is_part b = rw (to_le {a = b.min.x} {b = b.min.x} (omega (arith, ints)), to_le {a = b.min.y} {b = b.min.y} (omega (arith, ints))) refl

-- boxes that do not meet, under other names
pub boxes-apart : (a b x y : Bounds) (met : Bool) → x ≡ a → y ≡ b → met ≡ boxes_meet x y → met ≡ false → boxes_meet a b ≡ false
boxes-apart a b x y met x_is y_is met_is none = sym (met_is ∙ rw (x_is, y_is) refl) ∙ none
