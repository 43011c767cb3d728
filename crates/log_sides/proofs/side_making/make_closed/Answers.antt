use Rattle.std.proofs.Common.{length, ap, arith}
use Rattle.outside.specs.Disks.{Torn}
use Rattle.log_sides.specs.Making.{IsShut, IsBare, IsMade, WhileShut}
use Rattle.log_sides.specs.Closing.{shut_while, shut_torn, head_written, length-head}
use Rattle.log_sides.specs.Crashing.{leads_then, leads_step, safe_written}
use Rattle.log_sides.proofs.side_making.make_closed.Goals as goal

pub returns-in-Ok-clause-made : goal.returns-in-Ok-clause-made
returns-in-Ok-clause-made g c before short safe =
    let D = g.D.Disk in
    let mid = c.shut_side.new.disk in
    let new = c.write_durably.new.disk in
    safe_written c.write_durably.result (D.crashes mid) (D.crashes new) (D.seen mid) (D.seen new) (D.images new) c.args.side 1 c.head_of.result IsBare (IsMade c.args.generation) (c.in-Ok.ensures.bare before short safe)
    (λ x bare. head_written c.args.generation c.head_of.result x c.head_of.ensures bare) c.write_durably.ensures.told c.write_durably.ensures.written c.write_durably.ensures.durable

pub returns-in-Ok-clause-either : goal.returns-in-Ok-clause-either
returns-in-Ok-clause-either g c before short safe =
    let D = g.D.Disk in
    let mid = c.shut_side.new.disk in
    let new = c.write_durably.new.disk in
    leads_then D.crashes D.seen D.images D.moment D.left_since c.args.side (WhileShut before) c.args.disk.now mid new c.in-Ok.ensures.told (c.in-Ok.ensures.either before short safe)
    (leads_step D.crashes D.seen D.images D.moment D.left_since c.args.side IsShut (WhileShut before) (Torn 1 (length c.head_of.result)) mid new (c.in-Ok.ensures.shut before short safe)
    (λ x y shut torn. shut_while before y (shut_torn 1 (length c.head_of.result) x y (omega arith) (omega (arith, ap length c.head_of.ensures, length-head c.args.generation)) shut torn)) c.write_durably.ensures.torn c.write_durably.ensures.crash c.write_durably.ensures.moments)
