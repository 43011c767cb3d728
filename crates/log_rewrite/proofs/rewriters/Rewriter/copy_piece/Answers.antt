use Rattle.std.proofs.Common.{ap, length, arith}
use Rattle.std.proofs.lemmas.Result.{on_ok_weaker}
use Rattle.log_sides.specs.Sealing.{written_short}
use Rattle.log_rewrite.proofs.rewriters.Rewriter.copy_piece.Goals as goal

pub mirror-requires : goal.mirror-requires
mirror-requires g c = omega (arith, c.requires, ap length c.written.ensures, written_short c.args.piece.now)

pub returns-clause-gate : goal.returns-clause-gate
returns-clause-gate g c = on_ok_weaker c.mirror.result (λ le. omega (arith, le, ap length c.written.ensures, written_short c.args.piece.now)) c.mirror.ensures.gate
