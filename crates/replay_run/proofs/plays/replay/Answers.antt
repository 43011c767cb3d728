use Rattle.std.proofs.Common.{◌≡◌, ◌⊎◌, ◌≤◌, arith, refl, subst, false, true, [], ◌∷◌, ◌++◌, ◌∙◌, sym, inl, inr}
use Rattle.std.specs.Prelude.{Option, None, Some, is_some}
use Rattle.outside.specs.Causes.{Rose}
use Rattle.outside.specs.Sides.{Sides}
use Rattle.world_data.specs.declared.worlds.World.{World}
use Rattle.durable_core.specs.Logged.{hall_of, disk_of}
use Rattle.replay_run.specs.declared.ends.ReplayEnd.{ReplayEnd}
use Rattle.replay_run.specs.declared.ends.ReplayEnd.TheVariants as ended
use Rattle.replay_run.specs.declared.halts.Halt.TheVariants as halted
use Rattle.replay_run.specs.HaltLaws.{unspent_at, damaged_at}
use Rattle.replay_run.specs.HandedBack.{HoldsWorld}
use Rattle.replay_run.specs.Traces.{opens}
use Rattle.replay_run.specs.Standing.{IsSafeFor}
use Rattle.replay_run.specs.Plays.{OnPlay}
use Rattle.replay_run.specs.Players.{played}
use Rattle.replay_run.specs.Played.{Played}
use Rattle.replay_run.proofs.Calling.{rose_before}
use Rattle.replay_run.proofs.Reopening.{some_of}
use Rattle.replay_run.proofs.plays.replay.Goals as goal

pub returns-in-Ok-clause-told : goal.returns-in-Ok-clause-told
returns-in-Ok-clause-told g c =
    let e = c.in-Ok.ensures in
    let h = hall_of c.in-Ok.player.core in
    let seen = g.D.Disk.seen c.args.disk in
    let crashes = g.D.Disk.crashes c.args.disk in
    let plays = c.play.ensures.told (is_some seen) crashes seen (opens h.world h.logged ∷ []) (λ is. let s = some_of seen is in e.log s.0 s.1) e.stands in
    inr (
      h.world,
      h.logged,
      e.opened,
      subst (λ (p : Played). OnPlay (is_some seen) p (λ (w : World). is_some seen ≡ true → HoldsWorld (g.D.Disk.seen c.play.result.disk) w) (λ deeds. (s : Sides) → seen ≡ Some s → crashes ≡ true → IsSafeFor g.D.Disk.images g.D.Disk.left_since c.play.result.disk (opens h.world h.logged ∷ deeds)) c.play.result.end (g.S.Source.left c.args.source.now) (g.S.Source.left c.play.new.source) (g.K.Sink.held c.args.sink.now) (g.K.Sink.held c.play.new.sink)) e.first plays,
    )

pub returns-in-Err-clause-told : goal.returns-in-Err-clause-told
returns-in-Err-clause-told g c =
    let why = c.in-Err.unopened.why in
    inl (
      c.halt_of.result,
      refl,
      record {
        unspent = λ is. unspent_at why (sym c.halt_of.ensures ∙ is);
        back = (why, c.halt_of.ensures, c.in-Err.ensures.back);
        damaged = λ side place is s told. c.in-Err.ensures.damaged s told side place (damaged_at why side place (sym c.halt_of.ensures ∙ is));
        unread = refl;
        unwritten = refl;
      },
    )

pub returns-in-Ok-clause-disk : goal.returns-in-Ok-clause-disk
returns-in-Ok-clause-disk g c =
    let before : g.D.Disk.faults c.args.disk ≤ g.D.Disk.faults (disk_of c.in-Ok.player.core) = c.in-Ok.ensures.later in
    let now : g.D.Disk.faults (disk_of c.in-Ok.player.core) ≤ g.D.Disk.faults c.play.result.disk = c.play.ensures.disk in
    omega (arith, before, now)

pub returns-in-Ok-clause-disk_cause : goal.returns-in-Ok-clause-disk_cause
returns-in-Ok-clause-disk_cause g c is = by_end is
  where
    by_end : (c.play.result.end ≡ ended.Halted halted.DiskFault) ⊎ (c.play.result.end ≡ ended.Unopened halted.DiskFault) → Rose (g.D.Disk.faults c.args.disk) (g.D.Disk.faults c.play.result.disk)
    by_end (inl cut) = rose_before (g.D.Disk.faults c.args.disk) (g.D.Disk.faults (disk_of c.in-Ok.player.core)) (g.D.Disk.faults c.play.result.disk) c.in-Ok.ensures.later (c.play.ensures.disk_cause cut)
    by_end (inr shut) =
        let plays = c.play.ensures.told false false None [] (λ e. absurd (cc)) (λ s e. absurd (cc)) in
        absurd (subst (λ (z : ReplayEnd). OnPlay false (played c.in-Ok.player) (λ (w : World). false ≡ true → HoldsWorld (g.D.Disk.seen c.play.result.disk) w) (λ deeds. (s : Sides) → None ≡ Some s → false ≡ true → IsSafeFor g.D.Disk.images g.D.Disk.left_since c.play.result.disk ([] ++ deeds)) z (g.S.Source.left c.args.source.now) (g.S.Source.left c.play.new.source) (g.K.Sink.held c.args.sink.now) (g.K.Sink.held c.play.new.sink)) shut plays)
