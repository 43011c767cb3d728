use Rattle.std.proofs.Common.{subst}
use Rattle.world_data.specs.declared.worlds.World.{World}
use Rattle.journal.specs.Keeping.{new_gate}
use Rattle.log_record.specs.Journals as log
use Rattle.durable_core.specs.Steps.{IsNextStep}
use Rattle.durable_core.proofs.Stepping.{then_done, then_faulted}
use Rattle.durable_core.proofs.tails.Tail.step.Goals as goal

pub returns-in-Ok-make-clause-log : goal.returns-in-Ok-make-clause-log
returns-in-Ok-make-clause-log g c j kept world =
    let D = g.D.Disk in
    let mid = c.commit.new.self in
    let one = c.in-Ok.ensures.log j kept in
    let next = subst (λ (w : World). IsNextStep mid.rewriting (new_gate mid.journal.rewriter) w c.in-Ok-next_step.step) world c.in-Ok-next_step.ensures in
    then_done D.crashes D.seen D.images D.moment D.left_since c.args.self.now mid c.make.new.self j one c.commit.ensures.told (c.in-Ok-make.ensures.log (log.settled j) one.kept next)

pub returns-in-Err-make-clause-log : goal.returns-in-Err-make-clause-log
returns-in-Err-make-clause-log g c j kept world =
    let D = g.D.Disk in
    let mid = c.commit.new.self in
    let one = c.in-Ok.ensures.log j kept in
    let next = subst (λ (w : World). IsNextStep mid.rewriting (new_gate mid.journal.rewriter) w c.in-Ok-next_step.step) world c.in-Ok-next_step.ensures in
    then_faulted D.crashes D.seen D.images D.moment D.left_since c.args.self.now mid c.make.new.self j one c.commit.ensures.told _ _ (c.in-Err-make.ensures.log (log.settled j) one.kept next)
