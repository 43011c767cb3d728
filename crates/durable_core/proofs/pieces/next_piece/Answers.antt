-- A piece takes items until it is full, or none is left.
use Rattle.std.proofs.Common.{subst, sym, arith}
use Rattle.std.specs.Prelude.{drop, take}
use Rattle.journal.specs.declared.pieces.Piece.{Piece}
use Rattle.durable_core.specs.Pieces.{HasTaken, Took}
use Rattle.durable_core.specs.Rewriting.{Item, items_left}
use Rattle.durable_core.proofs.Taking.{taken_one, taken_rest, taken_all}
use Rattle.durable_core.proofs.pieces.next_piece.Goals as goal

pub returns-in-None : goal.returns-in-None
returns-in-None c =
    let from = c.args.from.now in
    let w = c.args.core.now.hall.world in
    let none = subst (Took (λ (item : Item). item) (items_left c.loop.last w) c.loop.piece c.copy_next.new.piece) c.in-None.is c.in_ok-copied.ensures.took in
    subst (λ (p : Piece). HasTaken from w (take 256 (items_left from w)) (drop 256 (items_left from w)) p c.loop.last) (sym none.1)
    (taken_rest from w c.loop.counter c.loop.piece c.loop.last c.loop.invariant (omega arith) none.0)

pub loop-preserved : goal.loop-preserved
loop-preserved c =
    let w = c.args.core.now.hall.world in
    let took = subst (Took (λ (item : Item). item) (items_left c.loop.last w) c.loop.piece c.copy_next.new.piece) c.in-Some.is c.in_ok-copied.ensures.took in
    taken_one c.args.from.now w c.loop.counter c.loop.piece c.copy_next.new.piece c.loop.last c.in-Some.copied c.copy_next.ensures.sorted c.loop.invariant took

pub returns : goal.returns
returns c = taken_all c.args.from.now c.args.core.now.hall.world c.loop.counter c.loop.piece c.loop.last c.loop.invariant (omega arith)
