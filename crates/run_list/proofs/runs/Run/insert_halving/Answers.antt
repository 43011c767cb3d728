use Rattle.std.proofs.Common.{length-take, length-drop, arith}
use Rattle.run_list.proofs.Flats.{insert-low, insert-high}
use Rattle.run_list.proofs.runs.Run.insert_halving.Goals as goal

pub insert-requires-then-i-le-HALF-clause-within : goal.insert-requires-then-i-le-HALF-clause-within
insert-requires-then-i-le-HALF-clause-within c = rw (c.move_tail.ensures.kept, length-take) (omega arith)

pub insert-requires-then-i-le-HALF-clause-room : goal.insert-requires-then-i-le-HALF-clause-room
insert-requires-then-i-le-HALF-clause-room c = rw (c.move_tail.ensures.kept, length-take) (omega arith)

pub insert-requires-else-i-le-HALF-clause-within : goal.insert-requires-else-i-le-HALF-clause-within
insert-requires-else-i-le-HALF-clause-within c = rw (c.move_tail.ensures.moved, length-drop) (omega arith)

pub insert-requires-else-i-le-HALF-clause-room : goal.insert-requires-else-i-le-HALF-clause-room
insert-requires-else-i-le-HALF-clause-room c = rw (c.move_tail.ensures.moved, length-drop) (omega arith)

pub returns-then-i-le-HALF-clause-numbers : goal.returns-then-i-le-HALF-clause-numbers
returns-then-i-le-HALF-clause-numbers c =
    rw (c.insert-then-i-le-HALF.ensures, c.move_tail.ensures.kept, c.move_tail.ensures.moved) (insert-low c.args.self.now 512 c.args.i c.args.number (omega arith) (omega arith))

pub returns-then-i-le-HALF-clause-upper : goal.returns-then-i-le-HALF-clause-upper
returns-then-i-le-HALF-clause-upper c = rw (c.move_tail.ensures.moved, length-drop) (omega arith)

pub returns-else-i-le-HALF-clause-numbers : goal.returns-else-i-le-HALF-clause-numbers
returns-else-i-le-HALF-clause-numbers c =
    rw (c.insert-else-i-le-HALF.ensures, c.move_tail.ensures.kept, c.move_tail.ensures.moved) (insert-high c.args.self.now 512 c.args.i c.args.number (omega arith) (omega arith))
