use Rattle.std.proofs.Common.{ap, sym, ◌∙◌, arith}
use Rattle.collection.specs.Objects.{Held, least_due}
use Rattle.keyspace.specs.FirstDue.{has_due}
use Rattle.keyspace.proofs.Known.{first_is}
use Rattle.keyspace.proofs.deadlines.first_known.Goals as goal

pub returns-then-has_due : goal.returns-then-has_due
returns-then-has_due c =
    let is = c.has_due.ensures ∙ ap (has_due c.args.known.1) (c.least_due.ensures ∙ ap (λ (h : Held). least_due h.objects) c.objects.ensures) in
    first_is c.args.list.now c.args.known c.requires c.loop-at.at c.index-list-at.result (omega arith) c.index-list-at.is c.loop-at.invariant (sym is ∙ c.if-has_due.true)
