use Rattle.keyspace.proofs.Dues.{no_first, took_first}
use Rattle.keyspace.proofs.keyed_collections.KeyedCollection.take_first.Goals as goal

pub unreachable-requires : goal.unreachable-requires
unreachable-requires g c =
    let is = rw (← c.self.view_is) at c.requires in
    no_first c.args.due c.self.inside.objects.objects is c.in-None.ensures

pub returns-clause-took : goal.returns-clause-took
returns-clause-took g c =
    let is = rw (← c.self.view_is) at c.requires in
    rw (← c.self.view_is) (took_first c.args.due c.in-Some.at c.self.inside.objects.objects c.take_at.new.self.objects c.take_at.result is c.in-Some.ensures c.take_at.ensures.taken c.take_at.ensures.objects)
