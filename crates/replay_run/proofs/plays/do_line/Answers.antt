use Rattle.std.proofs.Common.{refl, subst}
use mathlib.Core.List.{IsPrefix}
use Rattle.std.specs.Io.KnownBytes.{Appends}
use Rattle.byte_text.specs.Names.{Bytes}
use Rattle.replay_run.specs.declared.turns.Acted.{Acted}
use Rattle.replay_run.specs.Players.{played}
use Rattle.replay_run.specs.Plays.{ActsOn}
use Rattle.replay_run.proofs.plays.do_line.Goals as goal

pub returns-in-Ok-clause-told : goal.returns-in-Ok-clause-told
returns-in-Ok-clause-told g c =
    let d = c.in-Ok-Printed.ensures.made.done in
    let wrote = subst (λ (z : Bytes). Appends (g.K.Sink.held c.args.sink.now) (g.K.Sink.held c.write_all.new.sink) z) c.bytes.ensures c.in-Ok.ensures.done in
    (d.0, λ told. (c.in-Ok-Printed.out, subst (λ (a : Acted). ActsOn told (played c.args.player.now) (played c.act.new.self) c.args.line.now d.0 a) c.in-Ok-Printed.field-0-is (d.1 told), wrote), d.2)

pub returns-in-Ok-Printed-clause-told : goal.returns-in-Ok-Printed-clause-told
returns-in-Ok-Printed-clause-told g c =
    let d = c.in-Ok-Printed.ensures.made.done in
    let p = c.in-Err-write_all.ensures.part in
    (d.0, λ told. (c.in-Ok-Printed.out, p.0, subst (λ (a : Acted). ActsOn told (played c.args.player.now) (played c.act.new.self) c.args.line.now d.0 a) c.in-Ok-Printed.field-0-is (d.1 told), subst (λ (z : Bytes). IsPrefix p.0 z) c.bytes.ensures p.1, p.2), d.2)

pub returns-in-Ok-Reopen-clause-told : goal.returns-in-Ok-Reopen-clause-told
returns-in-Ok-Reopen-clause-told g c =
    let d = c.in-Ok-Reopen.ensures.made.done in
    (d.0, λ told. (refl, subst (λ (a : Acted). ActsOn told (played c.args.player.now) (played c.act.new.self) c.args.line.now d.0 a) c.in-Ok-Reopen.field-0-is (d.1 told)), d.2)

pub returns-in-Ok-Outside-clause-told : goal.returns-in-Ok-Outside-clause-told
returns-in-Ok-Outside-clause-told g c =
    let d = c.in-Ok-Outside.ensures.made.done in
    (d.0, λ told. (refl, subst (λ (a : Acted). ActsOn told (played c.args.player.now) (played c.act.new.self) c.args.line.now d.0 a) c.in-Ok-Outside.field-0-is (d.1 told)), d.2)

pub returns-clause-told : goal.returns-clause-told
returns-clause-told g c =
    let f = c.in-Err.ensures.made.failed in
    (f.0, λ told. (refl, f.1 told), f.2)
