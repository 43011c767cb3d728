use Rattle.std.proofs.Common.{◌≡◌, ◌≢◌, ◌≤◌, ◌+◌, ◌⊎◌, ◌++◌, arith, sym, ap, subst, ◌∙◌, false, true, List, [], inl, inr, append_assoc}
use Rattle.std.specs.Prelude.{Some}
use Rattle.outside.specs.Causes.{Rose}
use Rattle.outside.specs.Sides.{Sides}
use Rattle.world_data.specs.declared.worlds.World.{World}
use Rattle.world_model.specs.declared.events.CallOutcome.TheVariants as called
use Rattle.durable_core.specs.Logged.{hall_of, disk_of}
use Rattle.replay_run.specs.declared.ends.ReplayEnd.{ReplayEnd}
use Rattle.replay_run.specs.declared.halts.Halt.TheVariants as halted
use Rattle.replay_run.specs.declared.turns.Turn.{Turn}
use Rattle.replay_run.specs.declared.turns.Turn.TheVariants.{End, Halted}
use Rattle.replay_run.specs.HandedBack.{HoldsWorld}
use Rattle.replay_run.specs.Traces.{Deed}
use Rattle.replay_run.specs.Undone.{halt_at}
use Rattle.replay_run.specs.Standing.{IsSafeFor}
use Rattle.replay_run.specs.Plays.{OnTurn, OnPlay, IsCut, end_of, retired}
use Rattle.replay_run.specs.Players.{played}
use Rattle.replay_run.specs.Played.{Played}
use Rattle.replay_run.proofs.Calling.{rose_before}
use Rattle.replay_run.proofs.Standing.{stays_same, stays_more}
use Rattle.replay_run.proofs.Playing.{going_start, going_next, ends_play, ends_unopened, end_read, end_write, end_disk, not_ok}
use Rattle.replay_run.proofs.plays.play.Goals as goal

pub loop-turned-init : goal.loop-turned-init
loop-turned-init g c = record {
  going = ([], λ told logs. going_start told (played c.args.first) (g.S.Source.left c.args.source.now) (g.K.Sink.held c.args.sink.now), stays_same g.D.Disk.crashes g.D.Disk.seen g.D.Disk.images g.D.Disk.moment g.D.Disk.left_since g.D.Disk.faults c.args.first.core);
  goes = c.requires.goes;
  most = omega arith;
  few = omega arith;
  source = omega arith;
  sink = omega arith;
  disk = omega arith;
}

pub loop-turned-preserved : goal.loop-turned-preserved
loop-turned-preserved g c =
    let i = c.loop-turned.invariant in
    let e = c.in-Ok.ensures in
    let t = e.told in
    let source_before : g.S.Source.faults c.args.source.now ≤ g.S.Source.faults c.loop-turned.source = i.source in
    let source_now : g.S.Source.faults c.loop-turned.source ≤ g.S.Source.faults c.one_turn.new.source = e.source in
    let sink_before : g.K.Sink.faults c.args.sink.now ≤ g.K.Sink.faults c.loop-turned.sink = i.sink in
    let sink_now : g.K.Sink.faults c.loop-turned.sink ≤ g.K.Sink.faults c.one_turn.new.sink = e.sink in
    let disk_before : g.D.Disk.faults (disk_of c.args.first.core) ≤ g.D.Disk.faults (disk_of c.loop-turned.player.core) = i.disk in
    let disk_now : g.D.Disk.faults (disk_of c.loop-turned.player.core) ≤ g.D.Disk.faults (disk_of c.in-Ok.turned.player.core) = e.disk in
    let few : c.loop-turned.number ≤ c.loop-turned.used + 1 = i.few in
    let some : c.loop-turned.used + 1 ≤ c.one_turn.new.used = e.some c.in-Next.is in
    record {
      going = (
        i.going.0 ++ t.0,
        λ told logs. going_next told (played c.args.first) (g.S.Source.left c.args.source.now) (g.S.Source.left c.loop-turned.source) (g.S.Source.left c.one_turn.new.source) (g.K.Sink.held c.args.sink.now) (g.K.Sink.held c.loop-turned.sink) (g.K.Sink.held c.one_turn.new.sink)
            c.loop-turned.number c.loop-turned.used c.one_turn.new.used (played c.loop-turned.player) (played c.in-Ok.turned.player) i.going.0 t.0 (i.going.1 told logs)
            (subst (λ (z : Turn). OnTurn told z (g.S.Source.left c.loop-turned.source) (g.S.Source.left c.one_turn.new.source) (g.K.Sink.held c.loop-turned.sink) (g.K.Sink.held c.one_turn.new.sink) (played c.loop-turned.player) (played c.in-Ok.turned.player) c.loop-turned.used c.one_turn.new.used t.0) c.in-Next.is
            (t.1 told (λ is. i.going.2.logs (logs is)))),
        stays_more g.D.Disk.crashes g.D.Disk.seen g.D.Disk.images g.D.Disk.moment g.D.Disk.left_since g.D.Disk.faults c.args.first.core c.loop-turned.player.core c.in-Ok.turned.player.core i.going.0 t.0 i.going.2 t.2,
      );
      goes = e.goes c.in-Next.is;
      most = e.most;
      few = omega (arith, few, some);
      source = omega (arith, source_before, source_now);
      sink = omega (arith, sink_before, sink_now);
      disk = omega (arith, disk_before, disk_now);
    }

pub returns-in_default : goal.returns-in_default
returns-in_default g c =
    let i = c.loop-turned.invariant in
    let e = c.in-Ok.ensures in
    let t = e.told in
    let turn = c.in-Ok.turned.turn in
    let answered = c.retire-answer.result.0 in
    let disk = c.retire-answer.result.1 in
    let end = end_of turn c.loop-turned.number answered in
    let source_before : g.S.Source.faults c.args.source.now ≤ g.S.Source.faults c.loop-turned.source = i.source in
    let source_now : g.S.Source.faults c.loop-turned.source ≤ g.S.Source.faults c.one_turn.new.source = e.source in
    let sink_before : g.K.Sink.faults c.args.sink.now ≤ g.K.Sink.faults c.loop-turned.sink = i.sink in
    let sink_now : g.K.Sink.faults c.loop-turned.sink ≤ g.K.Sink.faults c.one_turn.new.sink = e.sink in
    let disk_before : g.D.Disk.faults (disk_of c.args.first.core) ≤ g.D.Disk.faults (disk_of c.loop-turned.player.core) = i.disk in
    let disk_now : g.D.Disk.faults (disk_of c.loop-turned.player.core) ≤ g.D.Disk.faults (disk_of c.in-Ok.turned.player.core) = e.disk in
    let disk_last : g.D.Disk.faults (disk_of c.in-Ok.turned.player.core) ≤ g.D.Disk.faults disk = c.retire-answer.ensures.later in
    record {
      told = λ told crashes seen past logs stands.
          let ends : (s : Sides) → seen ≡ Some s → crashes ≡ true → IsSafeFor g.D.Disk.images g.D.Disk.left_since disk (past ++ ((i.going.0 ++ t.0) ++ retired answered)) = λ s is crash.
          let all = (stays_more g.D.Disk.crashes g.D.Disk.seen g.D.Disk.images g.D.Disk.moment g.D.Disk.left_since g.D.Disk.faults c.args.first.core c.loop-turned.player.core c.in-Ok.turned.player.core i.going.0 t.0 i.going.2 t.2).stands past (stands s is crash) in
          subst (λ (z : List Deed). IsSafeFor g.D.Disk.images g.D.Disk.left_since disk z) (append_assoc past (i.going.0 ++ t.0) (retired answered)) (c.retire-answer.ensures.safe (past ++ (i.going.0 ++ t.0)) all) in
          let plays = ends_play told (played c.args.first) (λ (w : World). told ≡ true → HoldsWorld (g.D.Disk.seen disk) w) (λ deeds. (s : Sides) → seen ≡ Some s → crashes ≡ true → IsSafeFor g.D.Disk.images g.D.Disk.left_since disk (past ++ deeds))
          (g.S.Source.left c.args.source.now) (g.S.Source.left c.loop-turned.source) (g.S.Source.left c.one_turn.new.source) (g.K.Sink.held c.args.sink.now) (g.K.Sink.held c.loop-turned.sink) (g.K.Sink.held c.one_turn.new.sink)
          c.loop-turned.number c.loop-turned.used c.one_turn.new.used (played c.loop-turned.player) (played c.in-Ok.turned.player) i.going.0 t.0 (i.going.1 told logs) turn answered (t.1 told (λ is. i.going.2.logs (logs is))) e.piece c.in_default.not-Next e.done i.goes c.retire-answer.ensures.retired (λ ok is. c.retire-answer.ensures.holds (t.2.logs (i.going.2.logs (logs is))) ok) ends in
          subst (λ (z : ReplayEnd). OnPlay told (played c.args.first) (λ (w : World). told ≡ true → HoldsWorld (g.D.Disk.seen disk) w) (λ deeds. (s : Sides) → seen ≡ Some s → crashes ≡ true → IsSafeFor g.D.Disk.images g.D.Disk.left_since disk (past ++ deeds)) z (g.S.Source.left c.args.source.now) (g.S.Source.left c.one_turn.new.source) (g.K.Sink.held c.args.sink.now) (g.K.Sink.held c.one_turn.new.sink)) (sym c.end_of-end.ensures) plays;
      source = omega (arith, source_before, source_now);
      sink = omega (arith, sink_before, sink_now);
      disk = omega (arith, disk_before, disk_now, disk_last);
      read_cause = λ is. rose_before (g.S.Source.faults c.args.source.now) (g.S.Source.faults c.loop-turned.source) (g.S.Source.faults c.one_turn.new.source) source_before (e.read_cause (end_read turn c.loop-turned.number answered (sym c.end_of-end.ensures ∙ is)));
      write_cause = λ is. rose_before (g.K.Sink.faults c.args.sink.now) (g.K.Sink.faults c.loop-turned.sink) (g.K.Sink.faults c.one_turn.new.sink) sink_before (e.write_cause (end_write turn c.loop-turned.number answered (sym c.end_of-end.ensures ∙ is)));
      disk_cause = λ is. by_turn disk_before disk_now disk_last (end_disk turn c.loop-turned.number answered (sym c.end_of-end.ensures ∙ is));
    }
  where
    by_turn : g.D.Disk.faults (disk_of c.args.first.core) ≤ g.D.Disk.faults (disk_of c.loop-turned.player.core) → g.D.Disk.faults (disk_of c.loop-turned.player.core) ≤ g.D.Disk.faults (disk_of c.in-Ok.turned.player.core) → g.D.Disk.faults (disk_of c.in-Ok.turned.player.core) ≤ g.D.Disk.faults c.retire-answer.result.1
        → (c.in-Ok.turned.turn ≡ Halted halted.DiskFault) ⊎ ((c.in-Ok.turned.turn ≡ End) × (c.retire-answer.result.0 ≢ called.Ok)) → Rose (g.D.Disk.faults (disk_of c.args.first.core)) (g.D.Disk.faults c.retire-answer.result.1)
    by_turn before now last (inl is) =
        let here : Rose (g.D.Disk.faults (disk_of c.args.first.core)) (g.D.Disk.faults (disk_of c.in-Ok.turned.player.core)) = rose_before (g.D.Disk.faults (disk_of c.args.first.core)) (g.D.Disk.faults (disk_of c.loop-turned.player.core)) (g.D.Disk.faults (disk_of c.in-Ok.turned.player.core)) before (c.in-Ok.ensures.disk_cause is) in
        omega (arith, here, last)
    by_turn before now last (inr is) =
        let on = subst (λ (z : Turn). OnTurn false z (g.S.Source.left c.loop-turned.source) (g.S.Source.left c.one_turn.new.source) (g.K.Sink.held c.loop-turned.sink) (g.K.Sink.held c.one_turn.new.sink) (played c.loop-turned.player) (played c.in-Ok.turned.player) c.loop-turned.used c.one_turn.new.used c.in-Ok.ensures.told.0) is.0
        (c.in-Ok.ensures.told.1 false (λ e. absurd (cc))) in
        let goes : (hall_of c.in-Ok.turned.player.core).stopped ≡ false = ap (λ (p : Played). p.hall.stopped) on.1 ∙ c.loop-turned.invariant.goes in
        let r = c.retire-answer.ensures.retired in
        rose_before (g.D.Disk.faults (disk_of c.args.first.core)) (g.D.Disk.faults (disk_of c.in-Ok.turned.player.core)) (g.D.Disk.faults c.retire-answer.result.1) (omega (arith, before, now)) (c.retire-answer.ensures.cause (not_ok (hall_of c.in-Ok.turned.player.core) r.end c.retire-answer.result.0 goes r.step is.1))

pub returns-in-Err-clause-told : goal.returns-in-Err-clause-told
returns-in-Err-clause-told g c told crashes seen past logs stands =
    let i = c.loop-turned.invariant in
    let f = c.in-Err.ensures.failed in
    let disk = c.in-Err.unopened.disk in
    let ends : (s : Sides) → seen ≡ Some s → crashes ≡ true → IsSafeFor g.D.Disk.images g.D.Disk.left_since disk (past ++ (i.going.0 ++ f.0)) = λ s is crash.
    subst (λ (z : List Deed). IsSafeFor g.D.Disk.images g.D.Disk.left_since disk z) (append_assoc past i.going.0 f.0) (f.5 (past ++ i.going.0) (i.going.2.stands past (stands s is crash))) in
    let cut = ends_unopened told (played c.args.first) (λ (w : World). told ≡ true → HoldsWorld (g.D.Disk.seen disk) w) (λ deeds. (s : Sides) → seen ≡ Some s → crashes ≡ true → IsSafeFor g.D.Disk.images g.D.Disk.left_since disk (past ++ deeds))
    (g.S.Source.left c.args.source.now) (g.S.Source.left c.loop-turned.source) (g.S.Source.left c.one_turn.new.source) (g.K.Sink.held c.args.sink.now) (g.K.Sink.held c.loop-turned.sink) (g.K.Sink.held c.one_turn.new.sink)
    c.loop-turned.number c.loop-turned.used c.one_turn.new.used (played c.loop-turned.player) (played c.loop-turned.player) i.going.0 f.0 (i.going.1 told logs) (halt_at c.in-Err.unopened.why) f.1 f.4 (f.2 told (λ is. i.going.2.logs (logs is))) f.3 ends in
    subst (λ z. IsCut told (played c.args.first) (λ deeds. (s : Sides) → seen ≡ Some s → crashes ≡ true → IsSafeFor g.D.Disk.images g.D.Disk.left_since disk (past ++ deeds)) (g.S.Source.left c.args.source.now) (g.S.Source.left c.one_turn.new.source) (g.K.Sink.held c.args.sink.now) (g.K.Sink.held c.one_turn.new.sink) z []) (sym c.halt_of.ensures) cut

pub returns-in-Err-clause-disk : goal.returns-in-Err-clause-disk
returns-in-Err-clause-disk g c =
    let before : g.D.Disk.faults (disk_of c.args.first.core) ≤ g.D.Disk.faults (disk_of c.loop-turned.player.core) = c.loop-turned.invariant.disk in
    let now : g.D.Disk.faults (disk_of c.loop-turned.player.core) ≤ g.D.Disk.faults c.in-Err.unopened.disk = c.in-Err.ensures.left in
    omega (arith, before, now)
