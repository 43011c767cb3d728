-- A walk counts the positions of the parts that it finds, and finds no more than one object may have.
use Rattle.std.proofs.Common.{◌≡◌, ◌≢◌, ℕ, ◌+◌, ◌≤◌, ◌<◌, Bool, true, false, List, [], ◌∷◌, ◌++◌, length, nat_lt, flat_map, Option, Result, Ok, Err, codes, refl, sym, ap, ◌∙◌, subst, arith, Ordering, Less, Equal, Greater}
use Rattle.std.specs.Prelude.{if◌then◌else◌}
use Rattle.std.specs.Ordering.{match_ordering, nat_cmp}
use Rattle.std.specs.Cmp.Lexicographic.{slice_cmp}
use Rattle.std.proofs.lemmas.List.Concat.{flat_map-append}
use Rattle.std.proofs.lemmas.List.{length-append}
use Rattle.std.proofs.lemmas.Bool.{le-leb}
use borrow.Author.Tests.{ltb-true}
use Rattle.serde_json.specs.Data.{Data, null, boolean, number, string, array, object, Items, no_items, item, Members, no_members, member}
use Rattle.serde_json.specs.Find.{get}
use Rattle.planar_geom.specs.Points as plane
use Rattle.planar_geom.specs.Figures.{ring_points}
use Rattle.planar_geom.specs.Shapes.{vertices, positions, has_allowed_size, shape_of_parts}
use Rattle.planar_geom.specs.declared.shapes.Part.{Part}
use Rattle.geo_text.specs.declared.faults.GeoFault.{GeoFault}
use Rattle.geo_text.specs.declared.faults.GeoFault.TheVariants.{TooFew, TooMany, BadRing}
use Rattle.planar_geom.specs.declared.shapes.Part.TheVariants as parts
use Rattle.planar_geom.specs.declared.shapes.TheConstants.{MAX_POSITIONS}
use Rattle.geo_text.specs.declared.types.Base.{Base}
use Rattle.geo_text.specs.declared.types.GeoType.{GeoType}
use Rattle.geo_text.specs.declared.types.GeoType.TheVariants.{Point, MultiPoint, LineString, MultiLineString, Polygon, MultiPolygon, GeometryCollection, Feature, FeatureCollection}
use Rattle.geo_text.specs.declared.types.Base.TheVariants.{Spot, Chain, Face}
use Rattle.geo_text.specs.Walks.{◌>>=◌, array_of, each, point, position, positions_of, line, ring, is_closed, polygon}
use Rattle.geo_text.specs.Geometries.{part, single, many, Walk, go, there, object_only, array_at, coordinates, single_at, many_at, type_of, of_type, geometry, inner, walk_of, geometries, feature, only_feature, feature_item, parts_of_each, features, top_of}
use Rattle.geojson_model.specs.Behind.{behind}
use Rattle.geojson_model.proofs.FaultLaws.{ok_is, not_ok}
use Rattle.geojson_model.proofs.Loops.{behind_nothing}

-- what came before an answer
opened : {A B : Type 0} (r : Result A GeoFault) (f : A → Result B GeoFault) (x : B) → r >>= f ≡ Ok x → (a : A) × (r ≡ Ok a) × (f a ≡ Ok x)
opened (Ok a) f x e = (a, refl, e)
opened (Err q) f x e = absurd (not_ok e)

-- of a test that lets an answer through or refuses it
passed : {A : Type 0} (test : Bool) (f : GeoFault) (r : Result A GeoFault) (x : A) → (if test then Err f else r) ≡ Ok x → r ≡ Ok x
passed true f r x e = absurd (not_ok e)
passed false f r x e = e

passed_or : {A : Type 0} (test : Bool) (f : GeoFault) (r : Result A GeoFault) (x : A) → (if test then r else Err f) ≡ Ok x → r ≡ Ok x
passed_or true f r x e = e
passed_or false f r x e = absurd (not_ok e)

passing : {A : Type 0} (test : Bool) (f : GeoFault) (r : Result A GeoFault) (x : A) → (if test then r else Err f) ≡ Ok x → test ≡ true
passing true f r x e = refl
passing false f r x e = absurd (not_ok e)

-- after `count` positions `size` more were found, which makes `n`, and no more than one object may have
pub record Counted (count size n : ℕ) : Type 0 where
  pub total : n ≡ count + size
  pub few : count ≤ MAX_POSITIONS → n ≤ MAX_POSITIONS

nothing : (count : ℕ) → Counted count 0 count
nothing count = record { total = omega arith; few = λ h. h }

both : (count size more n m : ℕ) → Counted count size n → Counted n more m → Counted count (size + more) m
both count size more n m first second =
    record { total = omega (arith, first.total, second.total); few = λ h. second.few (first.few h) }

-- a walk that counts what it finds
abbrev Counts : {A : Type 0} → (A → ℕ) → (ℕ → Result (A × ℕ) GeoFault) → Type 0
Counts {A} size walk = (count n : ℕ) (a : A) → walk count ≡ Ok (a, n) → Counted count (size a) n

position_counts : (d : Data) → Counts (λ p. 1) (position d)
unfolding position
position_counts d count n p e =
    let o = opened (if nat_lt count MAX_POSITIONS then Ok (count + 1) else Err TooMany) (λ c. point d >>= λ q. Ok (q, c)) (p, n) e in
    let c : count + 1 ≡ o.0 = ok_is (passed_or (nat_lt count MAX_POSITIONS) TooMany (Ok (count + 1)) o.0 o.1) in
    let room : count < MAX_POSITIONS = ltb-true count MAX_POSITIONS (passing (nat_lt count MAX_POSITIONS) TooMany (Ok (count + 1)) o.0 o.1) in
    let q = opened (point d) (λ q. Ok (q, o.0)) (p, n) o.2 in
    let last : o.0 ≡ n = ap (λ x. x.1) (ok_is q.2) in
    record { total = omega (arith, c, last); few = λ k. omega (arith, c, last, room) }

-- one item after another, each with the points that it has
each_counts : {A : Type 0} (flat : A → List plane.Point) (walk : Data → ℕ → Result (A × ℕ) GeoFault) (ds : Items) → ((d : Data) → Counts (λ a. length (flat a)) (walk d)) → Counts (λ found. length (flat_map flat found)) (each walk ds)
unfolding each
each_counts flat walk no_items one count n found e =
    let xs : [] ≡ found = ap (λ p. p.0) (ok_is e) in
    let m : count ≡ n = ap (λ p. p.1) (ok_is e) in
    subst (λ t. Counted count (length (flat_map flat t)) n) xs (subst (Counted count 0) m (nothing count))
each_counts {A} flat walk (item d ds) one count n found e =
    let o = opened (walk d count) (λ first. each walk ds first.1 >>= λ others. Ok (first.0 ∷ others.0, others.1)) (found, n) e in
    let p = opened (each walk ds o.0.1) (λ others. Ok (o.0.0 ∷ others.0, others.1)) (found, n) o.2 in
    let xs : o.0.0 ∷ p.0.0 ≡ found = ap (λ q. q.0) (ok_is p.2) in
    let m : p.0.1 ≡ n = ap (λ q. q.1) (ok_is p.2) in
    let first = one d count o.0.1 o.0.0 o.1 in
    let others = each_counts flat walk ds one o.0.1 p.0.1 p.0.0 p.1 in
    let all : Counted count (length (flat o.0.0) + length (flat_map flat p.0.0)) p.0.1 = both count _ _ o.0.1 p.0.1 first others in
    let whole : Counted count (length (flat_map flat (o.0.0 ∷ p.0.0))) p.0.1 = subst (λ k. Counted count k p.0.1) (sym (length-append (flat o.0.0) (flat_map flat p.0.0))) all in
    subst (λ t. Counted count (length (flat_map flat t)) n) xs (subst (Counted count (length (flat_map flat (o.0.0 ∷ p.0.0)))) m whole)

singles : (ps : List plane.Point) → flat_map (λ p. p ∷ []) ps ≡ ps
singles [] = refl
singles (p ∷ ps) = ap (λ qs. p ∷ qs) (singles ps)

positions_count : (d : Data) → Counts length (positions_of d)
unfolding positions_of
positions_count d count n ps e =
    let o = opened (array_of d) (λ ds. each position ds count) (ps, n) e in
    subst (λ qs. Counted count (length qs) n) (singles ps) (each_counts (λ p. p ∷ []) position o.0 position_counts count n ps o.2)

line_counts : (d : Data) → Counts length (line d)
unfolding line
line_counts d count n ps e =
    let o = opened (positions_of d count) (λ x. if nat_lt (length x.0) 2 then Err TooFew else Ok x) (ps, n) e in
    let same : o.0 ≡ (ps, n) = ok_is (passed (nat_lt (length o.0.0) 2) TooFew (Ok o.0) (ps, n) o.2) in
    positions_count d count n ps (o.1 ∙ ap (λ x. Ok x) same)

ring_counts : (d : Data) → Counts length (ring d)
unfolding ring
ring_counts d count n ps e =
    let o = opened (positions_of d count) (λ x. if nat_lt (length x.0) 4 then Err TooFew else (if is_closed x.0 then Ok x else Err BadRing)) (ps, n) e in
    let same : o.0 ≡ (ps, n) = ok_is (passed_or (is_closed o.0.0) BadRing (Ok o.0) (ps, n) (passed (nat_lt (length o.0.0) 4) TooFew (if is_closed o.0.0 then Ok o.0 else Err BadRing) (ps, n) o.2)) in
    positions_count d count n ps (o.1 ∙ ap (λ x. Ok x) same)

polygon_counts : (d : Data) → Counts (λ rings. length (ring_points rings)) (polygon d)
unfolding polygon
polygon_counts d count n rings e =
    let o = opened (array_of d) (λ ds. each ring ds count >>= λ x. if nat_lt (length x.0) 1 then Err TooFew else Ok x) (rings, n) e in
    let p = opened (each ring o.0 count) (λ x. if nat_lt (length x.0) 1 then Err TooFew else Ok x) (rings, n) o.2 in
    let same : p.0 ≡ (rings, n) = ok_is (passed (nat_lt (length p.0.0) 1) TooFew (Ok p.0) (rings, n) p.2) in
    each_counts (λ r. r) ring o.0 ring_counts count n rings (p.1 ∙ ap (λ x. Ok x) same)

part_counts : (base : Base) (d : Data) → Counts (λ found. length (vertices found)) (part base d)
unfolding part
part_counts Spot d count n found e =
    let o = opened (position d count) (λ x. Ok (parts.Spot x.0, x.1)) (found, n) e in
    let is : parts.Spot o.0.0 ≡ found = ap (λ x. x.0) (ok_is o.2) in
    let m : o.0.1 ≡ n = ap (λ x. x.1) (ok_is o.2) in
    subst (λ t. Counted count (length (vertices t)) n) is (subst (Counted count 1) m (position_counts d count o.0.1 o.0.0 o.1))
part_counts Chain d count n found e =
    let o = opened (line d count) (λ x. Ok (parts.Chain x.0, x.1)) (found, n) e in
    let is : parts.Chain o.0.0 ≡ found = ap (λ x. x.0) (ok_is o.2) in
    let m : o.0.1 ≡ n = ap (λ x. x.1) (ok_is o.2) in
    subst (λ t. Counted count (length (vertices t)) n) is (subst (Counted count (length o.0.0)) m (line_counts d count o.0.1 o.0.0 o.1))
part_counts Face d count n found e =
    let o = opened (polygon d count) (λ x. Ok (parts.Face x.0, x.1)) (found, n) e in
    let is : parts.Face o.0.0 ≡ found = ap (λ x. x.0) (ok_is o.2) in
    let m : o.0.1 ≡ n = ap (λ x. x.1) (ok_is o.2) in
    subst (λ t. Counted count (length (vertices t)) n) is (subst (Counted count (length (ring_points o.0.0))) m (polygon_counts d count o.0.1 o.0.0 o.1))

single_counts : (base : Base) (d : Data) → Counts positions (single base d)
unfolding single
single_counts base d count n shape e =
    let o = opened (part base d count) (λ f. Ok (f.0 ∷ [], f.1)) (shape, n) e in
    let is : o.0.0 ∷ [] ≡ shape = ap (λ x. x.0) (ok_is o.2) in
    let m : o.0.1 ≡ n = ap (λ x. x.1) (ok_is o.2) in
    let one = part_counts base d count o.0.1 o.0.0 o.1 in
    let alone : Counted count (positions (o.0.0 ∷ [])) o.0.1 = subst (λ k. Counted count k o.0.1) (sym (length-append (vertices o.0.0) []) ∙ refl) (both count (length (vertices o.0.0)) 0 o.0.1 o.0.1 one (nothing o.0.1)) in
    subst (λ t. Counted count (positions t) n) is (subst (Counted count (positions (o.0.0 ∷ []))) m alone)

many_counts : (base : Base) (d : Data) → Counts positions (many base d)
unfolding many
many_counts base d count n shape e =
    let o = opened (array_of d) (λ ds. each (part base) ds count) (shape, n) e in
    each_counts vertices (part base) o.0 (part_counts base) count n shape o.2

single_at_counts : (base : Base) (d : Data) → Counts positions (single_at base d)
unfolding single_at
single_at_counts base d count n shape e =
    let o = opened (coordinates d) (λ found. single base found count) (shape, n) e in
    single_counts base o.0 count n shape o.2

many_at_counts : (base : Base) (d : Data) → Counts positions (many_at base d)
unfolding many_at
many_at_counts base d count n shape e =
    let o = opened (coordinates d) (λ found. many base found count) (shape, n) e in
    many_counts base o.0 count n shape o.2

of_type_counts : (t : GeoType) (d : Data) (w : Option Walk) → Counts positions (go w) → Counts positions (of_type t d w)
of_type_counts Point d w counts = single_at_counts Spot d
of_type_counts MultiPoint d w counts = many_at_counts Spot d
of_type_counts LineString d w counts = single_at_counts Chain d
of_type_counts MultiLineString d w counts = many_at_counts Chain d
of_type_counts Polygon d w counts = single_at_counts Face d
of_type_counts MultiPolygon d w counts = many_at_counts Face d
of_type_counts GeometryCollection d w counts = counts
of_type_counts Feature d w counts = λ count n shape e. absurd (not_ok e)
of_type_counts FeatureCollection d w counts = λ count n shape e. absurd (not_ok e)

more_positions : (xs ys : List Part) → positions (xs ++ ys) ≡ positions xs + positions ys
more_positions xs ys = ap length (flat_map-append vertices xs ys) ∙ length-append (flat_map vertices xs) (flat_map vertices ys)

none_counts : (count n : ℕ) (shape : List Part) → ◌≡◌ {A = Result (List Part × ℕ) GeoFault} (Ok ([], count)) (Ok (shape, n)) → Counted count (positions shape) n
none_counts count n shape e =
    let xs : [] ≡ shape = ap (λ p. p.0) (ok_is e) in
    let m : count ≡ n = ap (λ p. p.1) (ok_is e) in
    subst (λ t. Counted count (positions t) n) xs (subst (Counted count 0) m (nothing count))

-- one item, and then others
two_count : (first rest : Walk) → Counts positions first → Counts positions rest → Counts positions (λ count. first count >>= λ x. rest x.1 >>= λ y. Ok (x.0 ++ y.0, y.1))
two_count first rest one others count n shape e =
    let o = opened (first count) (λ x. rest x.1 >>= λ y. Ok (x.0 ++ y.0, y.1)) (shape, n) e in
    let p = opened (rest o.0.1) (λ y. Ok (o.0.0 ++ y.0, y.1)) (shape, n) o.2 in
    let xs : o.0.0 ++ p.0.0 ≡ shape = ap (λ q. q.0) (ok_is p.2) in
    let m : p.0.1 ≡ n = ap (λ q. q.1) (ok_is p.2) in
    let all : Counted count (positions o.0.0 + positions p.0.0) p.0.1 = both count _ _ o.0.1 p.0.1 (one count o.0.1 o.0.0 o.1) (others o.0.1 p.0.1 p.0.0 p.1) in
    let whole : Counted count (positions (o.0.0 ++ p.0.0)) p.0.1 = subst (λ k. Counted count k p.0.1) (sym (more_positions o.0.0 p.0.0)) all in
    subst (λ t. Counted count (positions t) n) xs (subst (Counted count (positions (o.0.0 ++ p.0.0))) m whole)

by_order : (o : Ordering) (x y : Option Walk) → Counts positions (go x) → Counts positions (go y) → Counts positions (go (match_ordering o x y x))
by_order Less x y a b = a
by_order Equal x y a b = b
by_order Greater x y a b = a

mutual
  unfolding geometry inner walk_of geometries

  pub geometry_counts : (d : Data) → Counts positions (geometry d)
  geometry_counts null = λ count n shape e. absurd (not_ok e)
  geometry_counts (boolean b) = λ count n shape e. absurd (not_ok e)
  geometry_counts (number m) = λ count n shape e. absurd (not_ok e)
  geometry_counts (string s) = λ count n shape e. absurd (not_ok e)
  geometry_counts (array ds) = λ count n shape e. absurd (not_ok e)
  geometry_counts (object ms) = λ count n shape e.
      let o = opened (type_of (object ms)) (λ t. of_type t (object ms) (inner (codes "geometries") ms) count) (shape, n) e in
      of_type_counts o.0 (object ms) (inner (codes "geometries") ms) (inner_counts (codes "geometries") ms) count n shape o.2

  inner_counts : (name : List ℕ) (ms : Members) → Counts positions (go (inner name ms))
  inner_counts name no_members = λ count n shape e. absurd (not_ok e)
  inner_counts name (member l d ms) = by_order (slice_cmp nat_cmp name l) (inner name ms) (walk_of d) (inner_counts name ms) (walk_counts d)

  walk_counts : (d : Data) → Counts positions (go (walk_of d))
  walk_counts null = λ count n shape e. absurd (not_ok e)
  walk_counts (boolean b) = λ count n shape e. absurd (not_ok e)
  walk_counts (number m) = λ count n shape e. absurd (not_ok e)
  walk_counts (string s) = λ count n shape e. absurd (not_ok e)
  walk_counts (array ds) = geometries_count ds
  walk_counts (object ms) = λ count n shape e. absurd (not_ok e)

  geometries_count : (ds : Items) → Counts positions (geometries ds)
  geometries_count no_items = none_counts
  geometries_count (item d ds) = two_count (geometry d) (geometries ds) (geometry_counts d) (geometries_count ds)

feature_counts : (d : Data) → Counts positions (feature d)
unfolding feature
feature_counts d count n shape e =
    let o = opened (there (get (codes "geometry") d)) (λ found. object_only found >>= λ g. geometry g count) (shape, n) e in
    let p = opened (object_only o.0) (λ g. geometry g count) (shape, n) o.2 in
    geometry_counts p.0 count n shape p.2

only_feature_counts : (t : GeoType) (d : Data) → Counts positions (only_feature t d)
unfolding only_feature
only_feature_counts Feature d = feature_counts d
only_feature_counts Point d = λ count n shape e. absurd (not_ok e)
only_feature_counts MultiPoint d = λ count n shape e. absurd (not_ok e)
only_feature_counts LineString d = λ count n shape e. absurd (not_ok e)
only_feature_counts MultiLineString d = λ count n shape e. absurd (not_ok e)
only_feature_counts Polygon d = λ count n shape e. absurd (not_ok e)
only_feature_counts MultiPolygon d = λ count n shape e. absurd (not_ok e)
only_feature_counts GeometryCollection d = λ count n shape e. absurd (not_ok e)
only_feature_counts FeatureCollection d = λ count n shape e. absurd (not_ok e)

feature_item_counts : (d : Data) → Counts positions (feature_item d)
unfolding feature_item
feature_item_counts d count n shape e =
    let o = opened (type_of d) (λ t. only_feature t d count) (shape, n) e in
    only_feature_counts o.0 d count n shape o.2

parts_of_each_counts : (ds : Items) → Counts positions (parts_of_each feature_item ds)
unfolding parts_of_each
parts_of_each_counts no_items count n shape e = none_counts count n shape e
parts_of_each_counts (item d ds) count n shape e = two_count (feature_item d) (parts_of_each feature_item ds) (feature_item_counts d) (parts_of_each_counts ds) count n shape e

features_count : (d : Data) → Counts positions (features d)
unfolding features
features_count d count n shape e =
    let o = opened (array_at (codes "features") d) (λ ds. parts_of_each feature_item ds count) (shape, n) e in
    parts_of_each_counts o.0 count n shape o.2

top_counts : (t : GeoType) (d : Data) (n : ℕ) (shape : List Part) → top_of t d ≡ Ok (shape, n) → Counted 0 (positions shape) n
top_counts Point d n shape e = geometry_counts d 0 n shape e
top_counts MultiPoint d n shape e = geometry_counts d 0 n shape e
top_counts LineString d n shape e = geometry_counts d 0 n shape e
top_counts MultiLineString d n shape e = geometry_counts d 0 n shape e
top_counts Polygon d n shape e = geometry_counts d 0 n shape e
top_counts MultiPolygon d n shape e = geometry_counts d 0 n shape e
top_counts GeometryCollection d n shape e = geometry_counts d 0 n shape e
top_counts Feature d n shape e = feature_counts d 0 n shape e
top_counts FeatureCollection d n shape e = features_count d 0 n shape e

-- parts that have a position, and not too many of them, are a shape
allowed : (parts : List Part) → positions parts ≢ 0 → positions parts ≤ MAX_POSITIONS → has_allowed_size parts ≡ true
allowed [] some few = absurd (some refl)
allowed (p ∷ ps) some few =
    let one : nat_lt 0 (length (p ∷ ps)) ≡ true = le-leb 1 (length (p ∷ ps)) (omega arith) in
    rw one (le-leb (positions (p ∷ ps)) MAX_POSITIONS few)

-- the parts of an object that has a position are a shape
pub are_shape : (t : GeoType) (d : Data) (front parts back : List Part) (n : ℕ) → front ≡ [] → n ≢ 0 → behind front (top_of t d) ≡ Ok (parts, n) → ◌≡◌ {A = Result (List Part) (List Part)} (Err back) (shape_of_parts parts) → ⊥
are_shape t d front parts back n none some e refused =
    let found : top_of t d ≡ Ok (parts, n) = sym (behind_nothing (top_of t d)) ∙ ap (λ (xs : List Part). behind xs (top_of t d)) (sym none) ∙ e in
    let counted = top_counts t d n parts found in
    let size : has_allowed_size parts ≡ true = allowed parts (λ h. some (omega (arith, counted.total, h))) (let few = counted.few (omega arith) in omega (arith, counted.total, few)) in
    let made : ◌≡◌ {A = Result (List Part) (List Part)} (Err back) (Ok parts) = refused ∙ rw size refl in
    absurd (cc (made))
