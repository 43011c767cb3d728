use Rattle.std.proofs.Common.{sym}
use Rattle.planar_geom.proofs.RelationLemmas.{box_of-face}
use Rattle.planar_geom.proofs.TouchLaws.{face-is_part}
use Rattle.planar_geom.proofs.regions.BBoxRegion.bounds.Goals as goal

pub returns : goal.returns
returns c = record { value = sym (box_of-face c.args.self.now c.min-low.ensures.is_box); is_part = face-is_part c.args.self.now }
