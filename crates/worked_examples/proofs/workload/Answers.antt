use Rattle.std.proofs.Common.{refl}
use Rattle.std.specs.Fmt.{digits}
use Rattle.work_gen.specs.Draws.{next, drawn}
use Rattle.work_gen.specs.Words.{texts}
use Rattle.work_gen.specs.Workload.{command, lines}
use Rattle.worked_examples.proofs.workload.Goals as goal

pub returns-clause-workload : goal.returns-clause-workload
unfolding digits next drawn texts command lines
returns-clause-workload c = record {
  first = refl;
  digit = refl;
  text = refl;
  count = refl;
  last = refl;
}

pub returns-clause-summary : goal.returns-clause-summary
unfolding digits
returns-clause-summary c = record { lines = refl }
