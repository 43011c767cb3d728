use Rattle.std.proofs.Common.{refl, sym, ap, subst, ◌∙◌}
use Rattle.world_model.specs.declared.events.Event.TheVariants as event
use Rattle.world_model.specs.declared.events.Outcome.TheVariants as outcome
use Rattle.world_model.specs.Histories.{stopped}
use Rattle.durable_core.specs.Histories.{writing_of}
use Rattle.durable_core.specs.Logged.{hall_of, disk_of}
use Rattle.durable_core.specs.declared.cores.DurableCore.{DurableCore}
use Rattle.shared_hall.specs.Cores.{hall_in, writing_in, disk_in, has_left, KeepsIn}
use Rattle.shared_hall.specs.declared.places.Place.{Place}
use Rattle.log_record.specs.AnswerLaws.{call_failed}
use Rattle.shared_hall.proofs.Acting.{does_nothing, gives_out, retired}
use Rattle.durable_core.specs.HistoryLaws.{writing_is}
use Rattle.shared_hall.proofs.places.HallCore.retire.Goals as goal

pub returns-clause-act : goal.returns-clause-act
returns-clause-act g c = let m = g.D.Disk in let e = c.retire-called.ensures in let d = c.retire-called.new.self in
    retired m.crashes m.seen m.images m.moment m.left_since m.faults c.args.self.now.place c.replace.new.dest c.in-Inside.core d (outcome.Answered c.retire-called.result) (sym c.begin.ensures.place ∙ c.in-Inside.is)
    (ap has_left c.replace.ensures.after)
    (ap hall_in c.replace.ensures.after ∙ ap (λ (x : DurableCore g.row.D.Denot). stopped (hall_of x)) c.of.ensures)
    (ap disk_in c.replace.ensures.after ∙ ap (λ (x : DurableCore g.row.D.Denot). disk_of x) c.of.ensures)
    (ap writing_in c.replace.ensures.after ∙ ap (λ (x : DurableCore g.row.D.Denot). writing_of x) c.of.ensures)
    (writing_is d _ _ e.rewriting e.generation)
    (λ k. subst (λ (x : Place g.row.D.Denot). KeepsIn m.crashes m.seen m.images x k) (sym c.replace.ensures.after) tt)
    e.stopped e.step (λ is. e.cause (call_failed c.retire-called.result is)) e.later e.told e.log

pub returns-clause-gives : goal.returns-clause-gives
returns-clause-gives g c = let m = g.D.Disk in let e = c.retire-called.ensures in let d = c.retire-called.new.self in
    gives_out m.crashes m.seen m.images m.moment m.left_since m.faults c.args.self.now.place c.replace.new.dest c.in-Inside.core d c.into_disk.result c.retire-called.result (sym c.begin.ensures.place ∙ c.in-Inside.is)
    (ap has_left c.replace.ensures.after)
    (ap hall_in c.replace.ensures.after ∙ ap (λ (x : DurableCore g.row.D.Denot). stopped (hall_of x)) c.of.ensures)
    (ap disk_in c.replace.ensures.after ∙ ap (λ (x : DurableCore g.row.D.Denot). disk_of x) c.of.ensures)
    (ap writing_in c.replace.ensures.after ∙ ap (λ (x : DurableCore g.row.D.Denot). writing_of x) c.of.ensures)
    (c.into_disk.ensures ∙ ap disk_in c.in-Inside-replace.ensures.value)
    e.log e.found

pub returns-in-Out-clause-act : goal.returns-in-Out-clause-act
returns-in-Out-clause-act g c = let m = g.D.Disk in
    does_nothing m.crashes m.seen m.images m.moment m.left_since m.faults c.args.self.now.place c.begin.new.self.place _ (event.Retire) c.begin.ensures.place c.in-Out.is refl refl
    (λ d. record { counts_now = g.met.D.Disk.counts_now d; only_now = g.met.D.Disk.only_now d })
