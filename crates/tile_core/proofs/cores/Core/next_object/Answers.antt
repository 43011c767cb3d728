use Rattle.keyspace.specs.Entries.{objects_in}
use Rattle.object_plans.specs.Moves.{IsAccepted}
use Rattle.tile_core.proofs.Nexts.{found_if}
use Rattle.tile_core.proofs.cores.Core.next_object.Goals as goal

pub returns-clause-accepted : goal.returns-clause-accepted
returns-clause-accepted c =
    let k = c.self.inside in
    found_if IsAccepted _ (objects_in k.store.objects) c.next_object.result c.next_object.ensures c.self.invariant.kept.kept.accepted
