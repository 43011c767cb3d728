use Rattle.std.proofs.Common.{◌∙◌, refl, ap, subst, inl, inr}
use Rattle.std.specs.Prelude.{Ok, Err, Some}
use Rattle.script_text.specs.Lines.{line, IsAnswer}
use Rattle.script_text.specs.declared.lines.LineFault.{LineFault}
use Rattle.script_text.specs.declared.lines.ScriptLine.{ScriptLine}
use Rattle.std.proofs.lemmas.Result.{err_from_is_err_and}
use Rattle.replay_run.specs.declared.halts.Halt.TheVariants as halted
use Rattle.replay_run.specs.declared.turns.Acted.TheVariants.{Reopen, Outside}
use Rattle.replay_run.proofs.Calling.{comes_ok, comes_err, comes_at, comes_still}
use Rattle.replay_run.proofs.acts.Player.act.Goals as goal

pub returns-in_err-does-in-Ok : goal.returns-in_err-does-in-Ok
returns-in_err-does-in-Ok g c =
    let p = err_from_is_err_and c.from_residual.result c.from_residual.ensures.1 in
    record {
      made = comes_at g.D.Disk.crashes g.D.Disk.seen g.D.Disk.images g.D.Disk.moment g.D.Disk.left_since g.D.Disk.faults c.args.self.now.core c.does.new.self.core _ _ c.from_residual.result p.0 _ p.1 p.2
          (comes_err g.D.Disk.crashes g.D.Disk.seen g.D.Disk.images g.D.Disk.moment g.D.Disk.left_since g.D.Disk.faults c.args.self.now.core c.does.new.self.core _ _ _ _ _ c.in_err-does-in-Ok.ensures.made (λ deeds f told. inr (c.in-Ok.said, c.in-Ok.ensures.answer, f told)));
    }

pub returns-in_ok-does-in-Ok : goal.returns-in_ok-does-in-Ok
returns-in_ok-does-in-Ok g c =
    record { made = comes_ok g.D.Disk.crashes g.D.Disk.seen g.D.Disk.images g.D.Disk.moment g.D.Disk.left_since g.D.Disk.faults c.args.self.now.core c.does.new.self.core _ _ _ _ _ _ c.in_ok-does-in-Ok.ensures.made (λ deeds a told. (c.in-Ok.said, c.in-Ok.ensures.answer, a told)) }

pub returns-in-Err-Memory : goal.returns-in-Err-Memory
returns-in-Err-Memory g c = record { made = comes_still g.D.Disk.crashes g.D.Disk.seen g.D.Disk.images g.D.Disk.moment g.D.Disk.left_since g.D.Disk.faults c.args.self.now.core _ _ (Err halted.Memory) c.requires.goes tt (refl, λ told. inl (refl, refl, refl)) }

pub returns-in-Ok-Reopen : goal.returns-in-Ok-Reopen
returns-in-Ok-Reopen g c =
    let says_it = c.in-Ok-Reopen.ensures.answer ∙ ap (λ (z : ScriptLine). Some z) c.in-Ok-Reopen.field-0-is in
    record { made = comes_still g.D.Disk.crashes g.D.Disk.seen g.D.Disk.images g.D.Disk.moment g.D.Disk.left_since g.D.Disk.faults c.args.self.now.core _ _ (Ok Reopen) c.requires.goes (λ told. (says_it, refl, refl)) tt }

pub returns-in-Err-Outside : goal.returns-in-Err-Outside
returns-in-Err-Outside g c =
    let none = subst (λ (f : LineFault). IsAnswer (line c.args.line.now) (Err f)) c.in-Err-Outside.field-0-is c.in-Err-Outside.ensures.answer in
    record { made = comes_still g.D.Disk.crashes g.D.Disk.seen g.D.Disk.images g.D.Disk.moment g.D.Disk.left_since g.D.Disk.faults c.args.self.now.core _ _ (Ok Outside) c.requires.goes (λ told. (none, refl, refl)) tt }
