-- Searches through parts, and the relations that they decide.
use Rattle.std.proofs.Common.{◌≡◌, ℕ, Bool, true, false, refl, sym, ap, ◌∙◌, List, [], ◌∷◌, arith}
use Rattle.std.specs.Prelude.{not, ◌&&◌, ◌||◌, map}
use Rattle.std.specs.List.{list_any, list_all}
use Rattle.std.proofs.lemmas.List.Folds.{list_any-append}
use Rattle.std.proofs.lemmas.Int.{ints, clamps}
use Rattle.planar_geom.specs.Points.{Point, Bounds, boxes_meet, IsBox}
use Rattle.planar_geom.specs.Figures.{Segment, edges, in_poly, crosses, doubled, doubled_middle}
use Rattle.planar_geom.specs.Shapes.{vertices, segments, all_vertices, all_segments, box_of}
use Rattle.planar_geom.specs.Relations.{in_part, in_disc, segment_near, reaches_disc, face_of}
use Rattle.planar_geom.specs.declared.shapes.Part.{Part}
use Rattle.planar_geom.proofs.PointLemmas.{bounds_are}

-- a search that has one item
pub or-false : (p : Bool) → (p || false) ≡ p
or-false true = refl
or-false false = refl

-- no item fails where all pass
pub not-any : {X : Type 0} (test : X → Bool) (xs : List X) → not (list_any (λ x. not (test x)) xs) ≡ list_all test xs
not-any test [] = refl
not-any test (x ∷ xs) = elim (test x) as (λ b. not (not b || list_any (λ y. not (test y)) xs) ≡ (b && list_all test xs)) [ true ↦ not-any test xs | false ↦ refl ]

-- no item passes where all fail
pub not-any-not : {X : Type 0} (test : X → Bool) (xs : List X) → not (list_any test xs) ≡ list_all (λ x. not (test x)) xs
not-any-not test [] = refl
not-any-not test (x ∷ xs) = elim (test x) as (λ b. not (b || list_any test xs) ≡ (not b && list_all (λ y. not (test y)) xs)) [ true ↦ refl | false ↦ not-any-not test xs ]

-- two tests of all items are one test of each
all-both : {X : Type 0} (test other : X → Bool) (xs : List X) → list_all (λ x. test x && other x) xs ≡ (list_all test xs && list_all other xs)
all-both test other [] = refl
all-both test other (x ∷ xs) =
    ap (λ b. (test x && other x) && b) (all-both test other xs) ∙ both_pairs (test x) (other x) (list_all test xs) (list_all other xs)
  where
    both_pairs : (a b c d : Bool) → ((a && b) && (c && d)) ≡ ((a && c) && (b && d))
    both_pairs true true c d = refl
    both_pairs true false true d = refl
    both_pairs true false false d = refl
    both_pairs false b c d = refl

list_any-same : {X : Type 0} (test other : X → Bool) (xs : List X) → ((x : X) → test x ≡ other x) → list_any test xs ≡ list_any other xs
list_any-same test other [] same = refl
list_any-same test other (x ∷ xs) same = rw (same x, list_any-same test other xs same) refl

-- no segment leaves a face where the middles of all are in it and none crosses an edge
pub no_segment_leaves : (rings : List (List Point)) (ss : List Segment) → not (list_any (λ s. not (in_poly (map (map doubled) rings) (doubled_middle s)) || list_any (crosses s) (edges rings)) ss) ≡ (list_all (λ s. in_poly (map (map doubled) rings) (doubled_middle s)) ss && list_all (λ s. list_all (λ t. not (crosses s t)) (edges rings)) ss)
no_segment_leaves rings ss =
    let holds = λ (s : Segment). in_poly (map (map doubled) rings) (doubled_middle s) in
    let clear = λ (s : Segment). list_all (λ t. not (crosses s t)) (edges rings) in
    let leaves = λ (s : Segment). not (holds s) || list_any (crosses s) (edges rings) in
    ap not (list_any-same leaves (λ s. not (holds s && clear s)) ss (λ s. each (holds s) (list_any (crosses s) (edges rings)) (clear s) (not-any-not (crosses s) (edges rings))))
    ∙ not-any (λ s. holds s && clear s) ss
    ∙ all-both holds clear ss
  where
    each : (a b c : Bool) → not b ≡ c → (not a || b) ≡ not (a && c)
    each true true c e = ap not e
    each true false c e = ap not e
    each false b c e = refl

-- a list of one more is met by what meets its one
pub any-single : {X Y : Type 0} (test : X → Y → Bool) (y : Y) (xs : List X) → list_any (λ x. list_any (test x) (y ∷ [])) xs ≡ list_any (λ x. test x y) xs
any-single test y xs = list_any-same (λ x. list_any (test x) (y ∷ [])) (λ x. test x y) xs (λ x. or-false (test x y))

-- the box round the face of a box is that box
pub box_of-face : (b : Bounds) → IsBox b → box_of (face_of b ∷ []) ≡ b
box_of-face b is_box =
    let x_ordered = is_box.x_ordered in
    let y_ordered = is_box.y_ordered in
    bounds_are _ _ _ _ b.min.x b.min.y b.max.x b.max.y (omega (arith, ints, clamps)) (omega (arith, ints, clamps)) (omega (arith, ints, clamps)) (omega (arith, ints, clamps))

-- three tests of all parts are one test of each
or_triples : (a b c x y z : Bool) → ((a || b || c) || (x || y || z)) ≡ ((a || x) || (b || y) || (c || z))
or_triples true b c x y z = refl
or_triples false true c true y z = refl
or_triples false true c false y z = refl
or_triples false false true true y z = refl
or_triples false false true false true z = refl
or_triples false false true false false z = refl
or_triples false false false x y z = refl

-- a part reaches a disc where one of the three tests of the whole shape passes
pub any-reaches : (c : Point) (r : ℕ) (parts : List Part) → list_any (λ part. reaches_disc part c r) parts ≡ (list_any (λ part. in_part part c) parts || list_any (in_disc c r) (all_vertices parts) || list_any (segment_near c r) (all_segments parts))
any-reaches c r [] = refl
any-reaches c r (part ∷ parts) =
    ap (λ b. reaches_disc part c r || b) (any-reaches c r parts)
    ∙ or_triples (in_part part c) (list_any (in_disc c r) (vertices part)) (list_any (segment_near c r) (segments part)) (list_any (λ p. in_part p c) parts) (list_any (in_disc c r) (all_vertices parts)) (list_any (segment_near c r) (all_segments parts))
    ∙ ap (λ b. (in_part part c || list_any (λ p. in_part p c) parts) || b || (list_any (segment_near c r) (segments part) || list_any (segment_near c r) (all_segments parts))) (sym (list_any-append (in_disc c r) (vertices part) (all_vertices parts)))
    ∙ ap (λ b. (in_part part c || list_any (λ p. in_part p c) parts) || list_any (in_disc c r) (all_vertices (part ∷ parts)) || b) (sym (list_any-append (segment_near c r) (segments part) (all_segments parts)))

-- the boxes of a shape and of a box's face meet where the shape's box meets the box
pub face_met : (box b : Bounds) (met : Bool) → IsBox b → met ≡ boxes_meet box b → boxes_meet box (box_of (face_of b ∷ [])) ≡ met
face_met box b met is_box met_is = ap (boxes_meet box) (box_of-face b is_box) ∙ sym met_is

-- a search that has one item in one list
pub only_one : (p : Bool) → p ≡ (p || false || false)
only_one true = refl
only_one false = refl
