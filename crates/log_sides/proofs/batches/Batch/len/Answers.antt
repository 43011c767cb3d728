use Rattle.std.proofs.Common.{arith}
use Rattle.log_sides.specs.Sealing.{sealed_long}
use Rattle.log_sides.proofs.batches.Batch.len.Goals as goal

pub overflow_sub-result : goal.overflow_sub-result
overflow_sub-result c = omega (arith, sealed_long c.self.inside.bytes.items c.self.invariant)
