use Rattle.std.proofs.Common.{rules, ◌≡◌, true}
use Rattle.planar_geom.specs.Points.{pt, same_point}
use Rattle.geojson_model.proofs.StoredTexts.{corners_agree}
use Rattle.geojson_model.proofs.stored.box_with.Goals as goal

pub returns-then-is_same-3-clause-found : goal.returns-then-is_same-3-clause-found
returns-then-is_same-3-clause-found c =
    let right : same_point c.args.beside (pt c.args.high.x c.args.low.y) ≡ true = search rules in
    let left : same_point c.args.above (pt c.args.low.x c.args.high.y) ≡ true = search rules in
    let last : same_point c.args.last c.in-Some.b.min ≡ true = search rules in
    (c.min.ensures.is_box, corners_agree c.in-Some.b c.args.low c.args.beside c.args.high c.args.above c.args.last c.in-Some.ensures right left last)
