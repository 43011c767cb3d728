use Rattle.std.proofs.Common.{◌≡◌, List, [], ◌∷◌, ap, ◌∙◌}
use Rattle.planar_geom.specs.Points.{Point}
use Rattle.planar_geom.specs.Relations.{face_of}
use Rattle.planar_geom.specs.declared.shapes.Part.{Part}
use Rattle.planar_geom.specs.declared.shapes.Part.TheVariants.{Face}
use Rattle.planar_geom.proofs.SizeLaws.{box-shape}
use Rattle.planar_geom.proofs.shapes.Shape.rect.Goals as goal

pub invariant_of-result : goal.invariant_of-result
invariant_of-result c =
    let parts : List Part = c.in_ok-single.field-0 in
    let made : parts ≡ face_of c.args.b ∷ [] = c.in_ok-single.ensures ∙ ap (λ (rings : List (List Point)). Face rings ∷ []) (c.in_ok-of_box.ensures) in
    box-shape c.args.b parts c.min-low.ensures.is_box made
