use Rattle.std.proofs.Common.{◌∙◌}
use Rattle.durable_core.specs.Rewriting.{items_left}
use Rattle.durable_core.proofs.NextSteps.{some_left}
use Rattle.durable_core.proofs.tails.Tail.next_step.Goals as goal

pub returns-then-has_room_for : goal.returns-then-has_room_for
returns-then-has_room_for g c =
    let is = c.in_ok-next.ensures in
    let some = some_left (items_left c.in-Going.last c.args.core.now.hall.world) c.items.result (c.items.ensures ∙ is.items) c.if-items-eq0.false in
    record {
      from = c.in-Going.last;
      going = c.in-Going.is;
      first = some.0;
      rest = some.1;
      some = some.2;
      piece = is;
      room = c.has_room_for.ensures.0 c.if-has_room_for.true;
    }
