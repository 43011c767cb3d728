use Rattle.std.proofs.Common.{◌∙◌, map, subst, List, arith}
use Rattle.std.proofs.lemmas.List.{append-nil}
use Rattle.fence_model.specs.Writes.{Write, going}
use Rattle.world_data.specs.Expiry.{in_turn}
use Rattle.keyspace.specs.Entries.{objects_in}
use Rattle.tile_core.specs.RecordSinks.{AreTaken}
use Rattle.tile_core.proofs.Named.{if_ok}
use Rattle.tile_core.proofs.Taken.{are_few}
use Rattle.tile_core.proofs.ready.make_tick_ready.Goals as goal

pub record_or_undo-requires-clause-few : goal.record_or_undo-requires-clause-few
record_or_undo-requires-clause-few g c =
    let s = c.args.store.now in
    omega (arith, c.in_ok-gone.ensures.taken.count, are_few (objects_in s.objects) s.weight c.requires.kept.kept)

pub returns-clause-recorded : goal.returns-clause-recorded
returns-clause-recorded g c =
    let taken = c.in_ok-gone.ensures.taken in
    if_ok c.record_or_undo.result c.record_or_undo.ensures.recorded
    (λ recorded r. subst (λ (ws : List Write). AreTaken g.L.RecordSink.takes ws c.args.ledger.now c.record_or_undo.new.ledger)
    (append-nil (map going (in_turn c.in_ok-gone.gone.held.items c.take_out_due.new.store.hub.taken)) ∙ taken.turn) recorded)
