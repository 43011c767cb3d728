use Rattle.std.proofs.Common.{◌≡◌, ◌∙◌, ◌++◌, List, [], true, ap, subst}
use Rattle.std.proofs.lemmas.List.{append-nil}
use Rattle.replay_run.specs.Traces.{Deed}
use Rattle.replay_run.specs.Undone.{halt_at}
use Rattle.replay_run.specs.Standing.{StandsBehind, StaysSafe}
use Rattle.replay_run.specs.Players.{played}
use Rattle.replay_run.proofs.Playing.{again_turn, again_fails}
use Rattle.replay_run.proofs.Standing.{stays_more}
use Rattle.replay_run.proofs.plays.one_turn.Goals as goal

pub returns-in-Ok-clause-told : goal.returns-in-Ok-clause-told
returns-in-Ok-clause-told g c =
    let n = c.in-Again.ensures.told in
    let a = c.in-Ok.ensures.again in
    let none : n.0 ≡ [] = (n.1 true).2 in (
      a.0,
      λ told logs. again_turn told c.tell_again-turn.result (g.S.Source.left c.args.source.now) (g.S.Source.left c.next_line.new.source) (g.K.Sink.held c.args.sink.now) (g.K.Sink.held c.tell_again-turn.new.sink) (g.K.Sink.held c.next_line.new.sink)
          (played c.args.player) (played c.in-Ok.player) (played c.next_line.new.player) c.args.used.now c.next_line.new.used n.0 a.0 (n.1 told) (a.1 told (λ e. n.2.logs (logs e))) c.tell_again-turn.ensures.told,
      subst (λ (z : List Deed). StaysSafe g.D.Disk.crashes g.D.Disk.seen g.D.Disk.images g.D.Disk.moment g.D.Disk.left_since g.D.Disk.faults c.args.player.core c.in-Ok.player.core (z ++ a.0)) none (stays_more g.D.Disk.crashes g.D.Disk.seen g.D.Disk.images g.D.Disk.moment g.D.Disk.left_since g.D.Disk.faults c.args.player.core c.next_line.new.player.core c.in-Ok.player.core n.0 a.0 n.2 a.2),
    )

pub returns-in-Err-clause-failed : goal.returns-in-Err-clause-failed
returns-in-Err-clause-failed g c =
    let n = c.in-Again.ensures.told in
    let f = c.in-Err.ensures.failed in
    let none : n.0 ≡ [] = (n.1 true).2 in (
      f.0,
      f.1,
      λ told logs. again_fails told (halt_at c.in-Err.unopened.why) (g.S.Source.left c.args.source.now) (g.S.Source.left c.next_line.new.source) (g.K.Sink.held c.args.sink.now) (g.K.Sink.held c.next_line.new.sink)
          (played c.args.player) (played c.next_line.new.player) f.1 c.args.used.now c.next_line.new.used n.0 f.0 (n.1 told) (f.2 told (λ e. n.2.logs (logs e))),
      f.3,
      (n.1 true).0,
      λ before s. f.4 before (subst (λ (z : List Deed). StandsBehind g.D.Disk.crashes g.D.Disk.seen g.D.Disk.images g.D.Disk.moment g.D.Disk.left_since g.D.Disk.faults c.next_line.new.player.core z) (ap (λ (z : List Deed). before ++ z) none ∙ append-nil before) (n.2.stands before s)),
    )
