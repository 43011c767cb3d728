-- What lies in an area meets it.
use Rattle.std.proofs.Common.{◌≡◌, suc, Bool, true, false, refl, sym, ap, ◌∙◌, List, [], ◌∷◌, ◌++◌}
use Rattle.std.specs.Prelude.{◌&&◌, ◌||◌, not, map, nat_lt, length}
use Rattle.std.specs.List.{list_any, list_all}
use Rattle.std.proofs.lemmas.List.Folds.{list_all-append}
use Rattle.planar_geom.specs.Points.{Point, Bounds, in_box, boxes_meet}
use Rattle.planar_geom.specs.Figures.{edges, ring_points, crosses, doubled, doubled_middle, in_poly, is_poly, is_ring}
use Rattle.planar_geom.specs.Shapes.{vertices, segments, all_vertices, all_segments, box_of, is_part, has_allowed_size, is_shape}
use Rattle.planar_geom.specs.Relations.{in_part, in_disc, segment_near, face_of, touch, intersects, within, lies_in, lies_in_part, no_hole_inside, IsArea}
use Rattle.planar_geom.specs.Figures.{meets}
use Rattle.planar_geom.specs.declared.shapes.Part.{Part}
use Rattle.planar_geom.specs.declared.shapes.Part.TheVariants.{Spot, Chain, Face}
use Rattle.planar_geom.specs.declared.shapes.Area.{Area}
use Rattle.planar_geom.specs.declared.shapes.Area.TheVariants.{Rect, Disc, Figure}
use Rattle.planar_geom.proofs.BoolLemmas.{and-left, and-right, and-both, or-left, or-right, or-elim}
use Rattle.planar_geom.proofs.BoxLaws.{Inside, inside, box_of_points-all, meet-at}
use Rattle.planar_geom.proofs.FaceLaws.{face-holds}
use Rattle.planar_geom.proofs.ParityLaws.{in_poly-inside}
use Rattle.planar_geom.proofs.RelationLemmas.{box_of-face}

clash : false ≡ true → ⊥
clash h = cc

-- each part has a vertex
pub with_vertex : {P : Type 0} (part : Part) → is_part part ≡ true → ((v : Point) (vs : List Point) → vertices part ≡ v ∷ vs → P) → P
with_vertex (Spot p) whole k = k p [] refl
with_vertex (Chain []) whole k = absurd (clash whole)
with_vertex (Chain (v ∷ vs)) whole k = k v vs refl
with_vertex (Face []) whole k = absurd (clash whole)
with_vertex (Face ([] ∷ rings)) whole k = absurd (clash (and-left false (list_all is_ring rings) (and-right (nat_lt 0 (suc (length rings))) (list_all is_ring ([] ∷ rings)) whole)))
with_vertex (Face ((v ∷ vs) ∷ rings)) whole k = k v (vs ++ ring_points rings) refl

-- what all vertices pass, the first does
first-passes : (test : Point → Bool) (points : List Point) (v : Point) (vs : List Point) → points ≡ v ∷ vs → list_all test points ≡ true → test v ≡ true
first-passes test points v vs e all = and-left (test v) (list_all test vs) (ap (list_all test) (sym e) ∙ all)

-- what the first vertex passes, one does
one-passes : (test : Point → Bool) (points : List Point) (v : Point) (vs : List Point) → points ≡ v ∷ vs → test v ≡ true → list_any test points ≡ true
one-passes test points v vs e h = ap (list_any test) e ∙ or-left (test v) (list_any test vs) h

-- what all vertices of a shape pass, those of its first part do
part-passes : (test : Point → Bool) (part : Part) (parts : List Part) → list_all test (all_vertices (part ∷ parts)) ≡ true → list_all test (vertices part) ≡ true
part-passes test part parts all = and-left (list_all test (vertices part)) (list_all test (all_vertices parts)) (sym (list_all-append test (vertices part) (all_vertices parts)) ∙ all)

rest-passes : (test : Point → Bool) (part : Part) (parts : List Part) → list_all test (all_vertices (part ∷ parts)) ≡ true → list_all test (all_vertices parts) ≡ true
rest-passes test part parts all = and-right (list_all test (vertices part)) (list_all test (all_vertices parts)) (sym (list_all-append test (vertices part) (all_vertices parts)) ∙ all)

-- parts touch where a vertex of the first is in the second
touch-at : (a b : Part) (v : Point) (vs : List Point) → vertices a ≡ v ∷ vs → in_part b v ≡ true → touch a b ≡ true
touch-at a b v vs e h =
    or-left (list_any (λ s. list_any (meets s) (segments b)) (segments a) || list_any (in_part b) (vertices a)) (list_any (in_part a) (vertices b))
    (or-right (list_any (λ s. list_any (meets s) (segments b)) (segments a)) (list_any (in_part b) (vertices a)) (one-passes (in_part b) (vertices a) v vs e h))

-- a part that lies in a face has its vertices there
pub lies-vertices : (part : Part) (rings : List (List Point)) → lies_in part rings ≡ true → list_all (in_poly rings) (vertices part) ≡ true
lies-vertices part rings lies =
    let middles = list_all (λ s. in_poly (map (map doubled) rings) (doubled_middle s)) (segments part) in
    let clear = list_all (λ s. list_all (λ t. not (crosses s t)) (edges rings)) (segments part) in
    and-left (list_all (in_poly rings) (vertices part)) middles
    (and-left (list_all (in_poly rings) (vertices part) && middles) clear
    (and-left (list_all (in_poly rings) (vertices part) && middles && clear) (no_hole_inside rings part) lies))

-- a part that lies in one of the others touches it
touches-other : (part : Part) (v : Point) (vs : List Point) → vertices part ≡ v ∷ vs → (others : List Part) → list_any (lies_in_part part) others ≡ true → list_any (touch part) others ≡ true
touches-other part v vs e [] lies = absurd (clash lies)
touches-other part v vs e (Spot p ∷ others) lies = or-right (touch part (Spot p)) (list_any (touch part) others) (touches-other part v vs e others lies)
touches-other part v vs e (Chain line ∷ others) lies = or-right (touch part (Chain line)) (list_any (touch part) others) (touches-other part v vs e others lies)
touches-other part v vs e (Face rings ∷ others) lies =
    or-elim (lies_in part rings) (list_any (lies_in_part part) others) lies
    (λ h. or-left (touch part (Face rings)) (list_any (touch part) others) (touch-at part (Face rings) v vs e (first-passes (in_poly rings) (vertices part) v vs e (lies-vertices part rings h))))
    (λ h. or-right (touch part (Face rings)) (list_any (touch part) others) (touches-other part v vs e others h))

-- its vertices are in each box that holds the others
lies-inside : (part : Part) (v : Point) (vs : List Point) → vertices part ≡ v ∷ vs → (others : List Part) (b : Bounds) → list_all is_part others ≡ true → list_all (in_box b) (all_vertices others) ≡ true → list_any (lies_in_part part) others ≡ true → Inside b v
lies-inside part v vs e [] b whole held lies = absurd (clash lies)
lies-inside part v vs e (Spot p ∷ others) b whole held lies = lies-inside part v vs e others b whole (rest-passes (in_box b) (Spot p) others held) lies
lies-inside part v vs e (Chain line ∷ others) b whole held lies = lies-inside part v vs e others b (and-right (is_part (Chain line)) (list_all is_part others) whole) (rest-passes (in_box b) (Chain line) others held) lies
lies-inside part v vs e (Face rings ∷ others) b whole held lies =
    or-elim (lies_in part rings) (list_any (lies_in_part part) others) lies
    (λ h. in_poly-inside v rings b (and-left (is_poly rings) (list_all is_part others) whole) (part-passes (in_box b) (Face rings) others held) (first-passes (in_poly rings) (vertices part) v vs e (lies-vertices part rings h)))
    (λ h. lies-inside part v vs e others b (and-right (is_part (Face rings)) (list_all is_part others) whole) (rest-passes (in_box b) (Face rings) others held) h)

-- what lies in an area meets it
pub within-intersects : (shape : List Part) (area : Area) → is_shape shape ≡ true → IsArea area → within shape area ≡ true → intersects shape area ≡ true
unfolding within intersects
within-intersects [] area whole area_whole lies = absurd (clash whole)
within-intersects (part ∷ parts) (Rect b) whole area_whole lies =
    with_vertex part (and-left (is_part part) (list_all is_part parts) (and-right (has_allowed_size (part ∷ parts)) (list_all is_part (part ∷ parts)) whole))
    (λ v vs e.
    let shape = part ∷ parts in
    let face = face_of b in
    let in_b = inside b v (first-passes (in_box b) (vertices part) v vs e (part-passes (in_box b) part parts lies)) in
    let in_own = inside (box_of shape) v (first-passes (in_box (box_of shape)) (vertices part) v vs e (part-passes (in_box (box_of shape)) part parts (box_of_points-all (all_vertices shape)))) in
    and-both (boxes_meet (box_of shape) (box_of (face ∷ []))) (list_any (λ p. list_any (touch p) (face ∷ [])) shape)
    (ap (boxes_meet (box_of shape)) (box_of-face b area_whole) ∙ meet-at (box_of shape) b v in_own in_b)
    (or-left (list_any (touch part) (face ∷ [])) (list_any (λ p. list_any (touch p) (face ∷ [])) parts) (or-left (touch part face) false (touch-at part face v vs e (face-holds b v in_b)))))
within-intersects (part ∷ parts) (Disc c r) whole area_whole lies =
    with_vertex part (and-left (is_part part) (list_all is_part parts) (and-right (has_allowed_size (part ∷ parts)) (list_all is_part (part ∷ parts)) whole))
    (λ v vs e.
    let shape = part ∷ parts in
    or-left (list_any (λ p. in_part p c) shape || list_any (in_disc c r) (all_vertices shape)) (list_any (segment_near c r) (all_segments shape))
    (or-right (list_any (λ p. in_part p c) shape) (list_any (in_disc c r) (all_vertices shape)) (one-passes (in_disc c r) (all_vertices shape) v (vs ++ all_vertices parts) (ap (λ points. points ++ all_vertices parts) e) (first-passes (in_disc c r) (vertices part) v vs e (part-passes (in_disc c r) part parts lies)))))
within-intersects (part ∷ parts) (Figure other) whole area_whole lies =
    with_vertex part (and-left (is_part part) (list_all is_part parts) (and-right (has_allowed_size (part ∷ parts)) (list_all is_part (part ∷ parts)) whole))
    (λ v vs e.
    let shape = part ∷ parts in
    let one = and-left (list_any (lies_in_part part) other) (list_all (λ p. list_any (lies_in_part p) other) parts) lies in
    let in_other = lies-inside part v vs e other (box_of other) (and-right (has_allowed_size other) (list_all is_part other) area_whole) (box_of_points-all (all_vertices other)) one in
    let in_own = inside (box_of shape) v (first-passes (in_box (box_of shape)) (vertices part) v vs e (part-passes (in_box (box_of shape)) part parts (box_of_points-all (all_vertices shape)))) in
    and-both (boxes_meet (box_of shape) (box_of other)) (list_any (λ p. list_any (touch p) other) shape)
    (meet-at (box_of shape) (box_of other) v in_own in_other)
    (or-left (list_any (touch part) other) (list_any (λ p. list_any (touch p) other) parts) (touches-other part v vs e other one)))

-- shapes whose boxes do not meet do not meet
pub boxes_apart : (shape other : List Part) → boxes_meet (box_of shape) (box_of other) ≡ false → intersects shape (Figure other) ≡ false
unfolding intersects
boxes_apart shape other apart = rw apart refl
