use Rattle.std.proofs.Common.{arith}
use Rattle.std.proofs.lemmas.Fmt.{length-decimal-le}
use Rattle.work_gen.proofs.words.push_numbered.Goals as goal

pub returns-in_err-push-clause-brief : goal.returns-in_err-push-clause-brief
returns-in_err-push-clause-brief c = length-decimal-le 10 c.args.n (omega arith) (omega arith) (omega arith)

pub returns-clause-brief : goal.returns-clause-brief
returns-clause-brief c = length-decimal-le 10 c.args.n (omega arith) (omega arith) (omega arith)
