-- The parity of edges, met one after another.
use Rattle.std.proofs.Common.{◌≡◌, ℕ, suc, ◌+◌, ◌%◌, Bool, true, false, refl, sym, ap, ◌∙◌, arith, List, [], ◌∷◌, cond, append-nil}
use Rattle.std.proofs.lemmas.List.Sums.{sum_by-cons}
use Rattle.std.specs.Prelude.{Some, None, not, ◌||◌, ◌&&◌, ◌==◌, fold, map, count_by, unwrap_or, if◌then◌else◌}
use Rattle.std.specs.List.{list_any}
use Rattle.std.proofs.lemmas.Bool.Decides.{nat_tests}
use Rattle.planar_geom.specs.Points.{Point}
use Rattle.planar_geom.specs.Figures.{Segment, chain_segments, edges, differ, on_segment, passes_right, in_poly, strictly_in, on_edge, is_odd}
use Rattle.planar_geom.proofs.BoolLemmas.{and-true, and-false}
use Rattle.planar_geom.specs.Standings.{on_grid, with_edge, parity}
use Rattle.planar_geom.specs.declared.polygons.Grid.TheVariants.{Whole}

-- once a point is on an edge, no further edge matters
fold-with_edge-none : (p : Point) (es : List Segment) → fold (with_edge p) None es ≡ None
fold-with_edge-none p [] = refl
fold-with_edge-none p (e ∷ es) = fold-with_edge-none p es

pub odd-suc : (n : ℕ) → (suc n % 2 == 1) ≡ not (n % 2 == 1)
odd-suc n = grind (arith, nat_tests)

not-not : (b : Bool) → not (not b) ≡ b
not-not true = refl
not-not false = refl

pub count_by-cons : {X : Type 0} (test : X → Bool) (x : X) (xs : List X) → count_by test (x ∷ xs) ≡ (if test x then suc (count_by test xs) else count_by test xs)
count_by-cons test x xs =
    sum_by-cons (λ y. cond (test y) 1 0) x xs ∙ elim (test x) as (λ b. cond b 1 0 + count_by test xs ≡ (if b then suc (count_by test xs) else count_by test xs)) [ true ↦ omega arith | false ↦ omega arith ]

-- the parity after one more edge
pub differ-count : (odd right : Bool) (n : ℕ) → differ (differ odd right) (n % 2 == 1) ≡ differ odd ((if right then suc n else n) % 2 == 1)
differ-count true true n = rw (odd-suc n) (sym (not-not (n % 2 == 1)))
differ-count true false n = refl
differ-count false true n = sym (odd-suc n)
differ-count false false n = refl

-- the edges met one after another give their parity, from the one before on
fold-with_edge : (p : Point) (odd : Bool) (es : List Segment) → fold (with_edge p) (Some odd) es ≡ (if list_any (on_segment p) es then None else Some (differ odd (count_by (passes_right p) es % 2 == 1)))
fold-with_edge p true [] = refl
fold-with_edge p false [] = refl
fold-with_edge p odd (e ∷ es) =
    let right = passes_right p e in
    let more : differ (differ odd right) (count_by (passes_right p) es % 2 == 1) ≡ differ odd (count_by (passes_right p) (e ∷ es) % 2 == 1) = differ-count odd right (count_by (passes_right p) es) ∙ ap (λ n. differ odd (n % 2 == 1)) (sym (count_by-cons (passes_right p) e es)) in
    elim (on_segment p e) as (λ hit. fold (with_edge p) (if hit then None else Some (differ odd right)) es ≡ (if hit || list_any (on_segment p) es then None else Some (differ odd (count_by (passes_right p) (e ∷ es) % 2 == 1)))) [
      | true ↦ fold-with_edge-none p es
      | false ↦ fold-with_edge p (differ odd right) es ∙ ap (λ b. if list_any (on_segment p) es then None else Some b) more
    ]

-- from no edge on, they give their parity
pub fold-parity : (p : Point) (es : List Segment) → fold (with_edge p) (Some false) es ≡ parity es p
fold-parity p es = fold-with_edge p false es

-- on the whole grid each point stands where it does
map-whole : (points : List Point) → map (on_grid Whole) points ≡ points
map-whole [] = refl
map-whole (p ∷ ps) = ap (λ qs. p ∷ qs) (map-whole ps)

pub map-map-whole : (rings : List (List Point)) → map (map (on_grid Whole)) rings ≡ rings
map-map-whole [] = refl
map-map-whole (ring ∷ rings) = rw (map-whole ring, map-map-whole rings) refl

-- a point is in a polygon where it is on an edge or the parity is odd
pub unwrap_or-parity : (rings : List (List Point)) (p : Point) → unwrap_or (parity (edges rings) p) true ≡ in_poly rings p
unwrap_or-parity rings p = elim (on_edge rings p) as (λ b. unwrap_or (if b then None else Some (is_odd rings p)) true ≡ (b || is_odd rings p)) [ true ↦ refl | false ↦ refl ]

-- the edges of one ring of the whole grid give the parity of its polygon
pub fold-ring : (p : Point) (ring : List Point) → fold (with_edge p) (Some false) (chain_segments (map (on_grid Whole) ring)) ≡ parity (edges (ring ∷ [])) p
fold-ring p ring =
    ap (λ points. fold (with_edge p) (Some false) (chain_segments points)) (map-whole ring) ∙ fold-parity p (chain_segments ring) ∙ ap (λ es. parity es p) (sym (append-nil (chain_segments ring)))

-- a point is strictly in a polygon where it is on no edge and the parity is odd
pub unwrap_or-parity_strictly : (rings : List (List Point)) (p : Point) → unwrap_or (parity (edges rings) p) false ≡ strictly_in rings p
unwrap_or-parity_strictly rings p = elim (on_edge rings p) as (λ b. unwrap_or (if b then None else Some (is_odd rings p)) false ≡ (is_odd rings p && not b)) [ true ↦ sym (and-false (is_odd rings p)) | false ↦ sym (and-true (is_odd rings p)) ]
