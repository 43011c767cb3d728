use Rattle.durable_core.specs.Pieces.{HasTakenSome}
use Rattle.durable_core.proofs.pieces.next_piece.Given as goal

abbrev pub invariant-loop : goal.invariant-loop
invariant-loop l = HasTakenSome l.from l.core.hall.world l.counter l.piece l.last
