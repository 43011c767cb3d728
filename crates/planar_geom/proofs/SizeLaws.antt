-- Parts and shapes have positions.
use Rattle.std.proofs.Common.{◌≡◌, ◌≢◌, ℕ, suc, ◌<◌, ◌≤◌, true, ap, ◌∙◌, sym, subst, List, [], ◌∷◌, ◌++◌, length, arith, inl, inr, refl}
use Rattle.std.specs.Prelude.{IsTrue, nat_lt, nat_le, Option, Some, None}
use Rattle.std.specs.List.{list_all}
use Rattle.std.proofs.lemmas.Bool.{leb-true, le-leb}
use Rattle.std.proofs.lemmas.Bool.Decides.{leb_tells}
use Rattle.planar_geom.specs.Points.{Point, Bounds, IsBox}
use Rattle.planar_geom.specs.Shapes.{vertices, all_vertices, positions, is_part, is_shape, has_allowed_size, count_within, box_of}
use Rattle.planar_geom.specs.Relations.{face_of}
use Rattle.planar_geom.specs.declared.shapes.Part.{Part}
use Rattle.planar_geom.specs.declared.shapes.TheConstants.{MAX_POSITIONS}
use Rattle.planar_geom.proofs.BoolLemmas.{and-left, and-right, and-both}
use Rattle.planar_geom.proofs.RelationLemmas.{box_of-face}
use Rattle.planar_geom.proofs.TouchLaws.{face-is_part}
use Rattle.planar_geom.proofs.WithinLaws.{with_vertex}

some_more : (ps qs : List Point) (v : Point) (vs : List Point) → ps ≡ v ∷ vs → length (ps ++ qs) ≢ 0
some_more ps qs v vs e none = absurd (clash (sym (ap (λ (points : List Point). length (points ++ qs)) e) ∙ none))
  where
    clash : suc (length (vs ++ qs)) ≡ 0 → ⊥
    clash h = omega (arith, h)

one : (ps : List Point) (v : Point) (vs : List Point) → ps ≡ v ∷ vs → length ps ≢ 0
one ps v vs e none = absurd (clash (sym (ap length e) ∙ none))
  where
    clash : suc (length vs) ≡ 0 → ⊥
    clash h = omega (arith, h)

-- each part has a position
pub part-some : (part : Part) → is_part part ≡ true → length (vertices part) ≢ 0
part-some part whole = with_vertex part whole (λ v vs e. one (vertices part) v vs e)

-- each shape has a position
pub shape-some : (parts : List Part) → is_shape parts ≡ true → positions parts ≢ 0
shape-some [] whole = λ none. absurd (cc)
shape-some (part ∷ parts) whole =
    with_vertex part (and-left (is_part part) (list_all is_part parts) (and-right (has_allowed_size (part ∷ parts)) (list_all is_part (part ∷ parts)) whole))
    (λ v vs e. some_more (vertices part) (all_vertices parts) v vs e)

-- and no more than it may have
pub shape-few : (parts : List Part) → is_shape parts ≡ true → positions parts ≤ MAX_POSITIONS
shape-few parts whole =
    leb-true (positions parts) MAX_POSITIONS (and-right (nat_lt 0 (length parts)) (nat_le (positions parts) MAX_POSITIONS) (and-left (has_allowed_size parts) (list_all is_part parts) whole))

-- what is counted within a room is all, and there is room for it
pub counted : (room n count : ℕ) → Some count ≡ count_within room n → (count ≡ n) × (n ≤ room)
counted room n count found = elim (leb_tells n room) [
  | inl h ↦ (let is : ◌≡◌ {A = Option ℕ} (Some count) (Some n) = found ∙ rw h.0 refl in cc (is), h.1)
  | inr h ↦ absurd (let none : ◌≡◌ {A = Option ℕ} (Some count) None = found ∙ rw h.0 refl in cc (none))
]

-- parts that are not too many are a shape
pub sized : (parts : List Part) → 0 < length parts → positions parts ≤ MAX_POSITIONS → list_all is_part parts ≡ true → is_shape parts ≡ true
sized parts some few whole =
    and-both (has_allowed_size parts) (list_all is_part parts) (and-both (nat_lt 0 (length parts)) (nat_le (positions parts) MAX_POSITIONS) (le-leb 1 (length parts) some) (le-leb (positions parts) MAX_POSITIONS few)) whole

-- the face of a box is a shape of five positions, and the box is its least one
pub box-shape : (b : Bounds) (parts : List Part) → IsBox b → parts ≡ face_of b ∷ [] → IsTrue (is_shape parts) × (b ≡ box_of parts) × (5 ≡ positions parts)
box-shape b parts is_box made = subst (λ (ps : List Part). IsTrue (is_shape ps) × (b ≡ box_of ps) × (5 ≡ positions ps)) (sym made)
    (and-both (is_part (face_of b)) true (face-is_part b) refl, sym (box_of-face b is_box), refl)
