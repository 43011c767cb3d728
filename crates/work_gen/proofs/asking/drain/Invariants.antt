use Rattle.std.proofs.Common.{◌≡◌, []}
use Rattle.std.specs.Prelude.{length, false}
use Rattle.world_data.specs.Limits.{take_frames}
use Rattle.work_gen.specs.Asking.{waiting}
use Rattle.work_gen.proofs.Draining.{Draining}
use Rattle.work_gen.proofs.asking.drain.Given as goal

abbrev pub invariant-taking : goal.invariant-taking
invariant-taking g l = record {
  empty : l.frames ≡ record { list = []; places = take_frames };
  goes : (g.M.Machine.hall l.machine).stopped ≡ false;
  draining : Draining l.session (g.M.Machine.hall l.initial.machine) (g.M.Machine.hall l.machine) l.tally;
}

abbrev pub decreases-taking : goal.decreases-taking
decreases-taking g l = length (waiting l.session (g.M.Machine.hall l.machine))
