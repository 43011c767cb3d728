use Rattle.std.proofs.Common.{◌≡◌, ◌∙◌, refl, w64, to_z, of_z, ◌*ℤ◌, ◌-ℤ◌}
use Rattle.std.proofs.lemmas.Int.{to_z-of_z}
use Rattle.planar_geom.specs.Figures.{dot}
use Rattle.planar_geom.proofs.PointLemmas.{dot-self-not_negative}
use Rattle.planar_geom.proofs.discs.has_near_foot.Goals as goal

pub is_low-requires : goal.is_low-requires
is_low-requires c = rw (to_z-of_z w64 c.dot.result (record { sfits = c.dot.type_inv }), c.dot.ensures) (dot-self-not_negative c.args.d)

pub returns : goal.returns
returns c =
    let area : to_z w64 (of_z w64 c.turn.result) ≡ c.args.e.x *ℤ c.args.d.y -ℤ c.args.e.y *ℤ c.args.d.x = to_z-of_z w64 c.turn.result (record { sfits = c.turn.type_inv }) ∙ c.turn.ensures in
    let length2 : to_z w64 (of_z w64 c.dot.result) ≡ dot c.args.d c.args.d = to_z-of_z w64 c.dot.result (record { sfits = c.dot.type_inv }) ∙ c.dot.ensures in
    c.is_low.ensures ∙ rw (area, length2) refl
