use Rattle.std.proofs.Common.{rules, ◌≡◌}
use Rattle.planar_geom.specs.Points.{pt}
use Rattle.geojson_model.proofs.StoredTexts.{made_from}
use Rattle.geojson_model.proofs.stored.corner.Goals as goal

pub returns : goal.returns
returns c =
    let x : c.from.result ≡ c.args.x_of.x = search rules in
    let y : c.from-2.result ≡ c.args.y_of.y = search rules in
    made_from c.in-Some.p (pt c.args.x_of.x c.args.y_of.y) c.from.result c.from-2.result record { x_in = c.x.ensures.in_plane.x_in; y_in = c.y.ensures.in_plane.y_in } x y c.in-Some.ensures
