use Rattle.work_gen.proofs.Lined.{lines_are}
use Rattle.work_gen.proofs.workloads.Workload.new.Goals as goal

pub returns : goal.returns
returns c = lines_are c.args.commands c.args.seed
