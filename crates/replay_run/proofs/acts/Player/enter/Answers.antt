use Rattle.std.proofs.Common.{◌≡◌, refl, sym, ap, inl, inr}
use Rattle.std.specs.Prelude.{Err, codes}
use Rattle.std.proofs.lemmas.Result.{err_from_is_err_and}
use Rattle.world_model.specs.Histories.{answer, is_log_fault}
use Rattle.world_model.specs.Outcomes.{enter_outcome}
use Rattle.world_model.specs.declared.events.CallOutcome.TheVariants as called
use Rattle.world_model.specs.declared.events.EnterFault.{EnterFault}
use Rattle.world_model.specs.declared.events.Outcome.{Outcome}
use Rattle.world_model.specs.declared.events.Outcome.TheVariants.{Entered, TooMany}
use Rattle.replay_run.specs.Outputs.{printed}
use Rattle.replay_run.specs.Readers.{with_entered}
use Rattle.replay_run.proofs.Calling.{comes_at}
use Rattle.replay_run.proofs.Entering.{enter_comes, enter_lost}
use Rattle.replay_run.proofs.acts.Player.enter.Goals as goal

pub returns-in_err-add_reader-in-Ok : goal.returns-in_err-add_reader-in-Ok
returns-in_err-add_reader-in-Ok g c =
    let e = c.in-Ok.ensures in
    let p = err_from_is_err_and c.from_residual.result c.from_residual.ensures.1 in
    record {
      made = comes_at g.D.Disk.crashes g.D.Disk.seen g.D.Disk.images g.D.Disk.moment g.D.Disk.left_since g.D.Disk.faults c.args.self.now.core c.enter.new.self _ _ c.from_residual.result p.0 p.0 p.1 refl
          (enter_lost g.D.Disk.crashes g.D.Disk.seen g.D.Disk.images g.D.Disk.moment g.D.Disk.left_since g.D.Disk.faults (λ d. record { counts_now = g.met.D.Disk.counts_now d; only_now = g.met.D.Disk.only_now d }) c.args.self.now.core c.enter.new.self c.args.self.now.readers.items c.add_reader.new.readers.items (Entered c.in-Ok.session) p.0 p.2 (inr refl) e.step e.tail refl e.log);
    }

pub returns-in_ok-add_reader-in-Ok : goal.returns-in_ok-add_reader-in-Ok
returns-in_ok-add_reader-in-Ok g c =
    let e = c.in-Ok.ensures in
    record {
      made = enter_comes g.D.Disk.crashes g.D.Disk.seen g.D.Disk.images g.D.Disk.moment g.D.Disk.left_since g.D.Disk.faults (λ d. record { counts_now = g.met.D.Disk.counts_now d; only_now = g.met.D.Disk.only_now d }) c.args.self.now.core c.enter.new.self c.args.self.now.readers.items c.add_reader.new.readers.items (Entered c.in-Ok.session) _ c.session_line.result c.requires.goes e.step e.tail refl e.log refl
          c.in_ok-add_reader-in-Ok.ensures c.session_line.ensures.text c.session_line.ensures.memory;
    }

pub returns-in-Err-TooMany : goal.returns-in-Err-TooMany
returns-in-Err-TooMany g c =
    let e = c.in-Err-TooMany.ensures in
    let o : Outcome = enter_outcome (Err c.in-Err-TooMany.field-0) in
    let is : o ≡ TooMany = ap (λ (f : EnterFault). enter_outcome (Err f)) c.in-Err-TooMany.field-0-is in
    record {
      made = enter_comes g.D.Disk.crashes g.D.Disk.seen g.D.Disk.images g.D.Disk.moment g.D.Disk.left_since g.D.Disk.faults (λ d. record { counts_now = g.met.D.Disk.counts_now d; only_now = g.met.D.Disk.only_now d }) c.args.self.now.core c.enter.new.self c.args.self.now.readers.items c.args.self.now.readers.items o (codes "toomany\n") c.text_of.result c.requires.goes e.step e.tail (ap is_log_fault is) e.log (ap printed is)
          (sym (ap (λ (z : Outcome). with_entered z c.args.self.now.readers.items) is)) c.text_of.ensures.text c.text_of.ensures.memory;
    }

pub returns-in-Err-Memory : goal.returns-in-Err-Memory
returns-in-Err-Memory g c =
    let e = c.in-Err-Memory.ensures in
    let o : Outcome = enter_outcome (Err c.in-Err-Memory.field-0) in
    let is : o ≡ answer called.Memory = ap (λ (f : EnterFault). enter_outcome (Err f)) c.in-Err-Memory.field-0-is in
    record { made = enter_lost g.D.Disk.crashes g.D.Disk.seen g.D.Disk.images g.D.Disk.moment g.D.Disk.left_since g.D.Disk.faults (λ d. record { counts_now = g.met.D.Disk.counts_now d; only_now = g.met.D.Disk.only_now d }) c.args.self.now.core c.enter.new.self c.args.self.now.readers.items c.args.self.now.readers.items o _ refl (inl is) e.step e.tail (ap is_log_fault is) e.log }
