use Rattle.std.proofs.Common.{◌≡◌, ◌≤◌, ◌+◌, ◌-◌, Bool, true, false}
use Rattle.durable_core.specs.Logged.{hall_of, disk_of}
use Rattle.replay_run.specs.TextLines.{max_script}
use Rattle.replay_run.specs.Standing.{Left, StaysSafe, Logs}
use Rattle.replay_run.specs.Players.{played}
use Rattle.replay_run.proofs.Playing.{Going}
use Rattle.replay_run.proofs.plays.play.Given as goal

abbrev pub invariant-loop-turned : goal.invariant-loop-turned
invariant-loop-turned g l = record {
  going : Left (StaysSafe g.D.Disk.crashes g.D.Disk.seen g.D.Disk.images g.D.Disk.moment g.D.Disk.left_since g.D.Disk.faults l.initial.player.core l.player.core)
      (λ deeds. (told : Bool) → (told ≡ true → Logs g.D.Disk.crashes g.D.Disk.seen g.D.Disk.images l.initial.player.core)
      → Going told (played l.initial.player) (g.S.Source.left l.initial.source) (g.S.Source.left l.source) (g.K.Sink.held l.initial.sink) (g.K.Sink.held l.sink) l.number l.used (played l.player) deeds);
  goes : (hall_of l.player.core).stopped ≡ false;
  most : l.used ≤ max_script;
  few : l.number ≤ l.used + 1;
  source : g.S.Source.faults l.initial.source ≤ g.S.Source.faults l.source;
  sink : g.K.Sink.faults l.initial.sink ≤ g.K.Sink.faults l.sink;
  disk : g.D.Disk.faults (disk_of l.initial.player.core) ≤ g.D.Disk.faults (disk_of l.player.core);
}

abbrev pub decreases-loop-turned : goal.decreases-loop-turned
decreases-loop-turned g l = max_script - l.used
