use Rattle.std.proofs.Common.{◌≡◌, true, ◌∷◌}
use Rattle.std.specs.Prelude.{Some, is_some}
use Rattle.outside.specs.Causes.{Rose}
use Rattle.outside.specs.Sides.{Sides}
use Rattle.replay_run.specs.HandedBack.{HoldsWorld, IsBackAt}
use Rattle.replay_run.specs.Traces.{opens}
use Rattle.replay_run.specs.Standing.{IsSafeFor}
use Rattle.tile_top.proofs.Ends.{ends_replay}
use Rattle.tile_top.proofs.replays.replay_script.Goals as goal

pub returns-clause-told : goal.returns-clause-told
returns-clause-told g c = ends_replay (g.D.Disk.seen c.args.disk) (IsBackAt g.D.Disk.crashes g.D.Disk.seen g.D.Disk.images g.D.Disk.moment g.D.Disk.left_since c.args.disk c.replay-replayed.result.disk)
    (λ w. is_some (g.D.Disk.seen c.args.disk) ≡ true → HoldsWorld (g.D.Disk.seen c.replay-replayed.result.disk) w) (λ w logged deeds. (s : Sides) → g.D.Disk.seen c.args.disk ≡ Some s → g.D.Disk.crashes c.args.disk ≡ true → IsSafeFor g.D.Disk.images g.D.Disk.left_since c.replay-replayed.result.disk (opens w logged ∷ deeds))
    (Rose (g.S.Source.faults c.args.source.now) (g.S.Source.faults c.replay-replayed.new.source)) (g.S.Source.left c.args.source.now) (g.S.Source.left c.replay-replayed.new.source) (g.K.Sink.held c.args.sink.now) (g.K.Sink.held c.replay-replayed.new.sink) (g.K.Sink.held c.end_replay-status.new.sink) c.replay-replayed.result.end c.end_replay-status.result c.replay-replayed.ensures.read_cause c.replay-replayed.ensures.told c.end_replay-status.ensures.told
