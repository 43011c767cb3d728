use Rattle.std.proofs.Common.{refl}
use Rattle.planar_geom.proofs.WayLaws.{way_meets-boxes}
use Rattle.planar_geom.proofs.laws.way_stays_in_box.Goals as goal

pub returns : goal.returns
returns c = record { way = refl; area = way_meets-boxes c.args.from c.args.to c.args.area.now c.x-east.ensures.in_plane c.area_is_whole.ensures }
