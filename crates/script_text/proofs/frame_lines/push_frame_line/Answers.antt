use Rattle.std.proofs.Common.{arith}
use Rattle.script_text.proofs.EscapeLaws.{decoded}
use Rattle.script_text.proofs.frame_lines.push_frame_line.Goals as goal

pub returns-in-Ok-clause-decoded : goal.returns-in-Ok-clause-decoded
returns-in-Ok-clause-decoded c = decoded c.args.frame.now (λ i. omega (arith, c.type_inv.frame i))

pub returns-in-Err-clause-decoded : goal.returns-in-Err-clause-decoded
returns-in-Err-clause-decoded c = decoded c.args.frame.now (λ i. omega (arith, c.type_inv.frame i))
