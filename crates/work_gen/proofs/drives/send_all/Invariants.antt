use Rattle.std.proofs.Common.{◌≡◌, []}
use Rattle.std.specs.Prelude.{length, false}
use Rattle.world_data.specs.Limits.{take_frames}
use Rattle.work_gen.specs.Workload.{lines}
use Rattle.work_gen.proofs.Going.{GoesTo}
use Rattle.work_gen.proofs.drives.send_all.Given as goal

abbrev pub invariant-sending : goal.invariant-sending
invariant-sending g l = record {
  empty : l.frames ≡ record { list = []; places = take_frames };
  goes : (g.M.Machine.hall l.machine).stopped ≡ false;
  going : GoesTo l.pair (lines l.fn.n l.fn.seed) l.left (g.M.Machine.hall l.initial.machine) (g.M.Machine.hall l.machine) (record { messages = 0; bytes = 0 }) l.tally;
}

abbrev pub decreases-sending : goal.decreases-sending
decreases-sending g l = length l.left
