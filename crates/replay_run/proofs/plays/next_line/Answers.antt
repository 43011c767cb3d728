use Rattle.std.proofs.Common.{refl, subst, inr, [], true}
use Rattle.byte_text.specs.Names.{Bytes}
use Rattle.replay_run.specs.declared.streams.LineEnd.TheVariants as read
use Rattle.replay_run.specs.declared.turns.Turn.{Turn}
use Rattle.replay_run.specs.Players.{played}
use Rattle.replay_run.specs.Plays.{OnLineDone}
use Rattle.replay_run.proofs.Playing.{line_done, no_line, long_line}
use Rattle.replay_run.proofs.Standing.{stays_same}
use Rattle.replay_run.proofs.plays.next_line.Goals as goal

pub returns-in-Line-clause-told : goal.returns-in-Line-clause-told
returns-in-Line-clause-told g c =
    let t = c.do_line.ensures.told in (
      t.0,
      λ told. line_done told c.do_line.result (g.S.Source.left c.args.source.now) (g.S.Source.left c.read_line.new.source) (g.K.Sink.held c.args.sink.now) (g.K.Sink.held c.do_line.new.sink) (played c.args.player.now) (played c.do_line.new.player) c.args.used.now c.read_line.new.used c.read_line.new.line.items t.0 c.in-Line.ensures.told
          (subst (λ (z : Bytes). OnLineDone told c.do_line.result (g.K.Sink.held c.args.sink.now) (g.K.Sink.held c.do_line.new.sink) (played c.args.player.now) (played c.do_line.new.player) z t.0) c.as_slice.ensures.value (t.1 told)),
      t.2,
    )

pub returns-in-Line-clause-read_cause : goal.returns-in-Line-clause-read_cause
returns-in-Line-clause-read_cause g c is =
    let t = c.do_line.ensures.told in
    absurd (subst (λ (z : Turn). OnLineDone true z (g.K.Sink.held c.args.sink.now) (g.K.Sink.held c.do_line.new.sink) (played c.args.player.now) (played c.do_line.new.player) c.as_slice.result.now t.0) is (t.1 true))

pub returns-in-End-clause-told : goal.returns-in-End-clause-told
returns-in-End-clause-told g c = ([], λ told. no_line told (g.S.Source.left c.args.source.now) (g.S.Source.left c.read_line.new.source) (g.K.Sink.held c.args.sink.now) (played c.args.player.now) c.args.used.now c.read_line.new.used c.read_line.new.line.items c.in-End.ensures.told, stays_same g.D.Disk.crashes g.D.Disk.seen g.D.Disk.images g.D.Disk.moment g.D.Disk.left_since g.D.Disk.faults c.args.player.now.core)

pub returns-in-TooLong-clause-told : goal.returns-in-TooLong-clause-told
returns-in-TooLong-clause-told g c = ([], λ told. long_line told (g.S.Source.left c.args.source.now) (g.S.Source.left c.read_line.new.source) (g.K.Sink.held c.args.sink.now) (played c.args.player.now) c.args.used.now c.read_line.new.used c.read_line.new.line.items c.in-TooLong.ensures.told, stays_same g.D.Disk.crashes g.D.Disk.seen g.D.Disk.images g.D.Disk.moment g.D.Disk.left_since g.D.Disk.faults c.args.player.now.core)

pub returns-in-ReadFault-clause-told : goal.returns-in-ReadFault-clause-told
returns-in-ReadFault-clause-told g c = ([], λ told. (refl, refl, refl), stays_same g.D.Disk.crashes g.D.Disk.seen g.D.Disk.images g.D.Disk.moment g.D.Disk.left_since g.D.Disk.faults c.args.player.now.core)

pub returns-in-Memory-clause-told : goal.returns-in-Memory-clause-told
returns-in-Memory-clause-told g c = ([], λ told. (refl, inr (refl, refl, refl)), stays_same g.D.Disk.crashes g.D.Disk.seen g.D.Disk.images g.D.Disk.moment g.D.Disk.left_since g.D.Disk.faults c.args.player.now.core)
