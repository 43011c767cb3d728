use Rattle.std.proofs.Common.{arith}
use Rattle.std.proofs.lemmas.Nat.{mul-lt}
use Rattle.serve_run.proofs.tendings.times.Goals as goal

pub overflow_mul-result : goal.overflow_mul-result
overflow_mul-result c =
    let less = mul-lt c.from.result c.from-2.result 18446744073709551616 4294967296 (omega (arith, c.from.ensures, c.ranges.bytes.fits))
    (omega (arith, c.from-2.ensures, c.ranges.percent.fits)) in
    omega (arith, less)
