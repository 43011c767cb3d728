-- A log that stands is recovered.
use Rattle.std.proofs.Common.{◌≤◌, length, ap}
use Rattle.outside.specs.declared.sides.Side.{Side}
use Rattle.outside.specs.declared.sides.Side.TheVariants.{A, B}
use Rattle.outside.specs.Sides.{Sides, side_of, other_side}
use Rattle.log_record.specs.Readings.{max_side}
use Rattle.log_record.specs.Recovery.{Recovers, world_read}
use Rattle.log_record.specs.Standing.{InUse, IsInUse, world_of, StandsBy}
use Rattle.log_record.specs.SidesRead.{sides_stand}

-- a log that stands is recovered as its world
a_short : (s : Sides) (side : Side) → length (side_of s side) ≤ max_side → length (side_of s (other_side side)) ≤ max_side
    → (length s.a ≤ max_side) × (length s.b ≤ max_side)
a_short s A here there = (here, there)
a_short s B here there = (there, here)

pub stood_recovers : (u : InUse) (s : Sides) → IsInUse u → StandsBy u s → Recovers s (world_of u)
unfolding Recovers
stood_recovers u s is by =
    let short = a_short s u.side by.here by.there in
    ap world_read (sides_stand s u.side u.version u.generation by.gate u.batches by.stale by.text by.closed is.headed is.recorded short.0 short.1
    by.older)
