use Rattle.std.proofs.Common.{ap, ◌∙◌}
use Rattle.collection.specs.Objects.{Held, least_due}
use Rattle.keyspace.proofs.Dues.{soonest_next}
use Rattle.keyspace.proofs.deadlines.first_of_all.Goals as goal

pub loop-at-preserved : goal.loop-at-preserved
loop-at-preserved c =
    let x = c.index-list-at.result in
    soonest_next c.args.list.now c.loop-at.at x c.loop-at.found c.sooner-found.result c.least_due.result c.loop-at-test.true c.index-list-at.is c.loop-at.invariant c.sooner-found.ensures (c.least_due.ensures ∙ ap (λ (h : Held). least_due h.objects) c.objects.ensures)
