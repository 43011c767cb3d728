use Rattle.work_gen.proofs.Stepping.{take_less}
use Rattle.work_gen.proofs.asking.take_turn.Goals as goal

pub returns-in-Some-clause-fewer : goal.returns-in-Some-clause-fewer
returns-in-Some-clause-fewer g c = take_less c.args.session (g.M.Machine.hall c.args.machine.now) (g.M.Machine.hall c.take.new.self) c.take.new.into.list c.requires.goes c.in-Some.ensures.step
