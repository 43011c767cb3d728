use Rattle.work_gen.proofs.One.{one_out}
use Rattle.work_gen.proofs.laws.load_laws.Goals as goal

pub returns : goal.returns
returns c = record { one = one_out c.step_laws.ensures.determined }
