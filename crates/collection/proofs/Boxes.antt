-- The box round objects.
use Rattle.std.proofs.Common.{◌≡◌, ◌≢◌, ◌<◌, ◌+◌, ℕ, sym, ◌∙◌, ap, List, [], ◌∷◌, length, drop, flat_map, arith}
use Rattle.std.specs.Prelude.{Option, Some, None, fold, slice_get}
use Rattle.std.proofs.lemmas.List.Sums.{fold-append}
use Rattle.planar_geom.specs.Points.{Point, Bounds, bounds, grown}
use Rattle.planar_geom.specs.GrownBoxes.{fold-grown}
use Rattle.planar_geom.specs.Shapes.{all_vertices, box_of_points}
use Rattle.world_data.specs.declared.objects.Object.{Object}
use Rattle.collection.specs.Objects.{bounds_of}
use Rattle.byte_text.specs.ListLaws.{drop_next}

all_of : (vs : List Point) (round : Option Bounds) → fold grown None vs ≡ round → round ≢ None → round ≡ Some (box_of_points vs)
all_of [] round e some = absurd (some (sym e))
all_of (v ∷ vs) round e some = sym e ∙ fold-grown (bounds v v) vs

-- all objects were taken in
pub bounds_at : (objects : List Object) (round : Option Bounds) → fold grown None (flat_map (λ o. all_vertices o.shape) objects) ≡ round → (0 < length objects → round ≢ None) → round ≡ bounds_of objects
bounds_at [] round e some = sym e
bounds_at (o ∷ objects) round e some = all_of (flat_map (λ p. all_vertices p.shape) (o ∷ objects)) round e (some (omega arith))

-- one object more is taken in
pub taken_more : (objects : List Object) (i : ℕ) (o : Object) (round : Option Bounds) (made : Bounds) → slice_get objects i ≡ Some o → Some made ≡ fold grown round (all_vertices o.shape) → fold grown (Some made) (flat_map (λ o. all_vertices o.shape) (drop (i + 1) objects)) ≡ fold grown round (flat_map (λ o. all_vertices o.shape) (drop i objects))
taken_more objects i o round made is done =
    ap (λ (r : Option Bounds). fold grown r (flat_map (λ o. all_vertices o.shape) (drop (i + 1) objects))) done
    ∙ sym (fold-append grown round (all_vertices o.shape) (flat_map (λ o. all_vertices o.shape) (drop (i + 1) objects)))
    ∙ ap (λ (l : List Object). fold grown round (flat_map (λ o. all_vertices o.shape) l)) (sym (drop_next objects i o is))
