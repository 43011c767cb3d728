use Rattle.log_rewrite.proofs.rewriters.Rewriter.finish.Goals as goal

pub returns-in-Ok-clause-either : goal.returns-in-Ok-clause-either
returns-in-Ok-clause-either g c batches new = c.in-Ok.ensures.either c.args.self.generation c.args.self.gate batches c.args.self.placed new

pub returns-in-Err-clause-either : goal.returns-in-Err-clause-either
returns-in-Err-clause-either g c batches new = c.in-Err.ensures.either c.args.self.generation c.args.self.gate batches c.args.self.placed new
