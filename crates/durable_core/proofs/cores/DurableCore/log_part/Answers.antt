use Rattle.std.proofs.Common.{◌≡◌, ◌∙◌, sym, refl, subst}
use Rattle.world_model.specs.declared.events.Event.TheVariants as event
use Rattle.world_model.specs.declared.events.Outcome.TheVariants as outcome
use Rattle.world_model.specs.declared.events.CallOutcome.TheVariants as called
use Rattle.repl_stream.specs.Feeds.{called_of}
use Rattle.repl_stream.specs.declared.feeds.PartAnswer.{PartAnswer}
use Rattle.repl_stream.specs.declared.feeds.PartAnswer.TheVariants as parts
use Rattle.log_record.specs.Journals as log
use Rattle.durable_core.specs.Logged.{hall_of}
use Rattle.durable_core.specs.Kept.{LeadsTo}
use Rattle.durable_core.specs.Steps.{ended}
use Rattle.durable_core.specs.StepLaws.{fails, lacks}
use Rattle.durable_core.proofs.Going.{faulted, rests, stays, stepped}
use Rattle.durable_core.proofs.cores.DurableCore.log_part.Goals as goal

-- an answer that ends so is this one
fault_of : (a : PartAnswer) → called_of a ≡ called.LogFault → a ≡ parts.LogFault
fault_of (parts.Given part) is = absurd (cc)
fault_of parts.LogFault is = refl
fault_of parts.Stopped is = absurd (cc)
fault_of parts.Memory is = absurd (cc)

pub returns-then-is_stopped-clause-log : goal.returns-then-is_stopped-clause-log
returns-then-is_stopped-clause-log g c j keeps =
    let D = g.D.Disk in
    stays D.crashes D.seen D.images D.moment D.left_since g.met.D.Disk.as_read g.met.D.Disk.counts_now g.met.D.Disk.only_now c.args.self.now event.Rewrite j (sym c.is_stopped.ensures ∙ c.if-is_stopped.true)

pub returns-then-not-is_latest-clause-log : goal.returns-then-not-is_latest-clause-log
returns-then-not-is_latest-clause-log g c j keeps =
    let D = g.D.Disk in
    let old = c.args.self.now in
    let going = sym c.is_stopped.ensures ∙ c.if-is_stopped.false in
    rests D.crashes D.seen D.images D.moment D.left_since g.met.D.Disk.as_read g.met.D.Disk.counts_now g.met.D.Disk.only_now old old event.Rewrite (outcome.Answered called.Memory) j going
    (lacks (hall_of old) (hall_of old) event.Rewrite refl going refl refl) keeps refl refl refl

pub returns-in_default-clause-log : goal.returns-in_default-clause-log
returns-in_default-clause-log g c j keeps =
    let D = g.D.Disk in
    let going = sym c.is_stopped.ensures ∙ c.if-is_stopped.false in
    stepped D.crashes D.seen D.images D.moment D.left_since g.met.D.Disk.as_read g.met.D.Disk.counts_now g.met.D.Disk.only_now c.args.self.now _ (called_of c.part.result) j going (λ failed. c.in_default.not-LogFault (fault_of c.part.result failed)) c.part.ensures.ended refl keeps c.part.ensures.told
    (c.part.ensures.log j (keeps going).kept (keeps going).world)

pub returns-in-LogFault-clause-log : goal.returns-in-LogFault-clause-log
returns-in-LogFault-clause-log g c j keeps =
    let D = g.D.Disk in
    let old = c.args.self.now in
    let going = sym c.is_stopped.ensures ∙ c.if-is_stopped.false in
    let step = fails (hall_of old) _ event.Rewrite refl going refl refl in
    let leads = subst (λ (a : PartAnswer). LeadsTo D.crashes D.seen D.images D.moment D.left_since old.tail c.part.new.self (ended (called_of a)) j (log.settled j)) c.in-LogFault.is (c.part.ensures.log j (keeps going).kept (keeps going).world) in
    faulted D.crashes D.seen D.images D.moment D.left_since g.met.D.Disk.as_read g.met.D.Disk.counts_now g.met.D.Disk.only_now called.LogFault old _ event.Rewrite (outcome.Answered called.LogFault) j (log.settled j) going refl step keeps c.part.ensures.told leads refl
