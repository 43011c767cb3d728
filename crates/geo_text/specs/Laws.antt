-- Laws of the acceptance of texts.
use Rattle.std.proofs.Common.{refl, inl, inr, arith}
use Rattle.std.specs.Prelude.{◌≡◌, ◌≢◌, ◌⊎◌, [], ◌∷◌, Result, Ok, Err}
use Rattle.byte_text.specs.Names.{Bytes}
use Rattle.planar_geom.specs.Points.{Point, Bounds, InPlane, IsBox}
use Rattle.planar_geom.specs.declared.shapes.Part.TheVariants.{Spot, Face}
use Rattle.geo_text.specs.Texts.{point_text, bounds_text, corners, walked, shape_of}

-- what is stored for a point is accepted, as that point
abbrev pub PointsAreStored : Type 0
PointsAreStored = (p : Point) → InPlane p → shape_of (point_text p) ≡ Ok (Spot p ∷ [])

-- what is stored for a box is accepted, as the face of its corners
abbrev pub BoundsAreStored : Type 0
BoundsAreStored = (b : Bounds) → IsBox b → shape_of (bounds_text b) ≡ Ok (Face (corners b ∷ []) ∷ [])

-- every other text is read as JSON
abbrev pub OthersAreWalked : Type 0
OthersAreWalked = (text : Bytes) → ((p : Point) → InPlane p → text ≢ point_text p) → ((b : Bounds) → IsBox b → text ≢ bounds_text b)
    → shape_of text ≡ walked text

-- exactly one of a value and a fault, and only one of its kind
pub record HasOneAnswer {A E : Type 0} (answer : Result A E) : Type 0 where
  pub some : ((a : A) × (answer ≡ Ok a)) ⊎ ((e : E) × (answer ≡ Err e))
  pub one_value : (a b : A) → answer ≡ Ok a → answer ≡ Ok b → a ≡ b
  pub one_fault : (e f : E) → answer ≡ Err e → answer ≡ Err f → e ≡ f
  pub not_both : (a : A) (e : E) → answer ≡ Ok a → answer ≡ Err e → ⊥

-- a result is one value or one fault
pub one_answer : {A E : Type 0} (answer : Result A E) → HasOneAnswer answer
one_answer (Ok a) = record {
  some = inl (a, refl);
  one_value = λ b c e f. grind arith;
  one_fault = λ g h e f. grind arith;
  not_both =
      λ b h e f. grind arith;
}
one_answer (Err x) = record {
  some = inr (x, refl);
  one_value = λ b c e f. grind arith;
  one_fault = λ g h e f. grind arith;
  not_both =
      λ b h e f. grind arith;
}

-- a text is accepted with one shape, or refused with one fault
abbrev pub TextsHaveOneAnswer : Type 0
TextsHaveOneAnswer = (text : Bytes) → HasOneAnswer (shape_of text)
