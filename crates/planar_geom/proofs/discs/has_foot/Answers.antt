use Rattle.std.proofs.Common.{◌≡◌, ◌∙◌, refl, w64, to_z, of_z}
use Rattle.std.proofs.lemmas.Int.{to_z-of_z}
use Rattle.planar_geom.specs.Figures.{dot}
use Rattle.planar_geom.proofs.discs.has_foot.Goals as goal

pub returns : goal.returns
returns c =
    let product : to_z w64 (of_z w64 c.dot.result) ≡ dot c.args.e c.args.d = to_z-of_z w64 c.dot.result (record { sfits = c.dot.type_inv }) ∙ c.dot.ensures in
    let length2 : to_z w64 (of_z w64 c.dot-2.result) ≡ dot c.args.d c.args.d = to_z-of_z w64 c.dot-2.result (record { sfits = c.dot-2.type_inv }) ∙ c.dot-2.ensures in
    c.is_part_of_square.ensures ∙ rw (product, length2) refl
