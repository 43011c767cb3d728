use Rattle.std.proofs.Common.{◌≡◌, ◌∙◌}
use Rattle.std.proofs.Math.Facts.{to_z-of_z}
use Rattle.planar_geom.specs.Points.{pt, bounds_of}
use Rattle.cmd_words.proofs.Coordinates.{box_made}
use Rattle.cmd_words.proofs.reader_values.box_between.Goals as goal

pub unreachable-requires : goal.unreachable-requires
unreachable-requires c =
    let low : c.point_at.result ≡ pt c.args.min_x c.args.min_y = rw (to_z-of_z c.ranges.min_x, to_z-of_z c.ranges.min_y) at c.point_at.ensures in
    let high : c.point_at-2.result ≡ pt c.args.max_x c.args.max_y = rw (to_z-of_z c.ranges.max_x, to_z-of_z c.ranges.max_y) at c.point_at-2.ensures in
    let found : c.of.result ≡ bounds_of (pt c.args.min_x c.args.min_y) (pt c.args.max_x c.args.max_y) = rw (low, high) at c.of.ensures in
    let made = found ∙ box_made c.args.min_x c.args.min_y c.args.max_x c.args.max_y c.requires.x_ordered c.requires.y_ordered in
    absurd (cc (made, c.in-None.is))

pub returns : goal.returns
returns c =
    let low : c.point_at.result ≡ pt c.args.min_x c.args.min_y = rw (to_z-of_z c.ranges.min_x, to_z-of_z c.ranges.min_y) at c.point_at.ensures in
    let high : c.point_at-2.result ≡ pt c.args.max_x c.args.max_y = rw (to_z-of_z c.ranges.max_x, to_z-of_z c.ranges.max_y) at c.point_at-2.ensures in
    let found : c.of.result ≡ bounds_of (pt c.args.min_x c.args.min_y) (pt c.args.max_x c.args.max_y) = rw (low, high) at c.of.ensures in
    let made = found ∙ box_made c.args.min_x c.args.min_y c.args.max_x c.args.max_y c.requires.x_ordered c.requires.y_ordered in
    cc (made, c.in-Some.is)
