use Rattle.std.proofs.Common.{refl, subst, sym}
use Rattle.journal.specs.Journals.{pending}
use Rattle.log_record.specs.Journals as log
use Rattle.durable_core.specs.Parts.{MakeWorld}
use Rattle.durable_core.specs.Written.{Sided, sided_next, sided_with}
use Rattle.durable_core.proofs.Stepping.{then_done, then_faulted}
use Rattle.durable_core.proofs.tails.Tail.part.Goals as goal

pub returns-in-Ok-read_part-clause-log : goal.returns-in-Ok-read_part-clause-log
returns-in-Ok-read_part-clause-log g c j kept world =
    let D = g.D.Disk in
    let one = c.in-Ok.ensures.log j kept world in
    then_done D.crashes D.seen D.images D.moment D.left_since c.args.self.now c.step.new.self c.read_part.new.self j one c.step.ensures.told (c.in-Ok-read_part.ensures.log (log.settled j) one.kept)

pub returns-in-Err-clause-log : goal.returns-in-Err-clause-log
returns-in-Err-clause-log g c j kept world =
    let D = g.D.Disk in
    let one = c.in-Ok.ensures.log j kept world in
    then_faulted D.crashes D.seen D.images D.moment D.left_since c.args.self.now c.step.new.self c.read_part.new.self j one c.step.ensures.told _ _ (c.in-Err.ensures.log (log.settled j) one.kept)

pub returns-in-Ok-read_part-clause-whole : goal.returns-in-Ok-read_part-clause-whole
returns-in-Ok-read_part-clause-whole g c j s kept world keeps ok =
    let old = c.args.self.now in
    let next : Sided = sided_next old.rewriting c.args.core.now.hall.world (sided_with (pending old.journal) s) in
    subst (MakeWorld next.batches) (sym world) (c.read_part.ensures.whole (log.settled j) next (c.in-Ok.ensures.log j kept world).kept (c.in-Ok.ensures.written s keeps refl))
