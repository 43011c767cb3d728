use Rattle.std.proofs.Common.{◌≡◌, ◌∙◌, true, false, sym, of_z, nat_eq, ◌*ℤ◌, pos, ap}
use Rattle.std.specs.Prelude.{int_le}
use Rattle.std.specs.Int.{int_signum}
use mir.Syntax.{w128}
use Rattle.planar_geom.specs.Points.{in_box}
use Rattle.planar_geom.specs.Figures.{segment, box_of_segment, orient}
use Rattle.planar_geom.proofs.BoolLemmas.{and-first, and-second}
use Rattle.planar_geom.proofs.SideLemmas.{zero_test, on_segment-is}
use Rattle.planar_geom.proofs.polygons.is_on_edge.Goals as goal

pub returns-then-is_between : goal.returns-then-is_between
returns-then-is_between c =
    let edge = segment c.args.a c.args.b in
    let side = orient c.args.a c.args.b c.args.p in
    let inside : in_box (box_of_segment edge) c.args.p ≡ true = sym c.is_between.ensures ∙ c.if-is_between.true in
    let on_line : nat_eq (of_z w128 c.cross.result) 0 ≡ int_le (side *ℤ side) (pos 0) = zero_test c.cross.result c.cross.type_inv ∙ ap (λ z. int_le (int_signum z *ℤ int_signum z) (pos 0)) c.cross.ensures.value in
    and-second (in_box (box_of_segment edge) c.args.p) (int_le (side *ℤ side) (pos 0)) (nat_eq (of_z w128 c.cross.result) 0) inside on_line ∙ sym (on_segment-is c.args.p edge)

pub returns-else-is_between : goal.returns-else-is_between
returns-else-is_between c =
    let edge = segment c.args.a c.args.b in
    let side = orient c.args.a c.args.b c.args.p in
    let outside : in_box (box_of_segment edge) c.args.p ≡ false = sym c.is_between.ensures ∙ c.if-is_between.false in
    and-first (in_box (box_of_segment edge) c.args.p) (int_le (side *ℤ side) (pos 0)) c.is_between.result outside c.if-is_between.false ∙ sym (on_segment-is c.args.p edge)
