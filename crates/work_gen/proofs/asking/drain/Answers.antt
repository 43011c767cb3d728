use Rattle.work_gen.proofs.Draining.{draining_on, drained}
use Rattle.work_gen.proofs.asking.drain.Goals as goal

pub returns-in-None-clause-drained : goal.returns-in-None-clause-drained
returns-in-None-clause-drained g c =
    drained c.args.session (g.M.Machine.hall c.args.machine.now) (g.M.Machine.hall c.taking.machine) (g.M.Machine.hall c.take_turn.new.machine) c.taking.tally c.taking.invariant.draining c.in-None.ensures.takes

pub taking-preserved : goal.taking-preserved
taking-preserved g c = record {
  empty = c.take_turn.ensures.empty;
  goes = c.take_turn.ensures.goes;
  draining = draining_on c.args.session (g.M.Machine.hall c.args.machine.now) (g.M.Machine.hall c.taking.machine) (g.M.Machine.hall c.take_turn.new.machine) c.taking.tally c.in-Some.more c.plus-tally.result
      c.taking.invariant.draining c.in-Some.ensures.takes c.plus-tally.ensures.messages c.plus-tally.ensures.bytes;
}
