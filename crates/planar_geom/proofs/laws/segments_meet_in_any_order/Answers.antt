use Rattle.planar_geom.proofs.SegmentLaws.{meets-swap, meets-turned}
use Rattle.planar_geom.proofs.laws.segments_meet_in_any_order.Goals as goal

pub returns : goal.returns
returns c = record { order = meets-swap c.args._s c.args._t; ends = meets-turned c.args._s.a c.args._s.b c.args._t }
