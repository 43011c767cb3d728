use Rattle.std.proofs.Common.{arith}
use Rattle.outside.proofs.Bytes.{are_bytes}
use Rattle.outside.proofs.disk_contents.copy_front.Goals as goal

pub returns-clause-sound : goal.returns-clause-sound
returns-clause-sound c = are_bytes c.args.bytes.now (λ i. omega (arith, c.type_inv.bytes i))
