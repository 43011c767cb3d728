use Rattle.std.proofs.lemmas.Result.{on_ok_weaker}
use Rattle.log_sides.specs.Making.{IsShut, WhileShut}
use Rattle.log_sides.specs.Closing.{shut_while}
use Rattle.log_sides.specs.Crashing.{leads_then, leads_weaker, leads_held, safe_held}
use Rattle.log_sides.proofs.side_making.shut_side.Goals as goal

pub returns-in-Ok-clause-bare : goal.returns-in-Ok-clause-bare
returns-in-Ok-clause-bare g c before short safe =
    let D = g.D.Disk in
    let mid = c.shut_gate.new.disk in
    c.cut_to_gate.ensures.bare (safe_held (D.crashes mid) (D.seen mid) (D.images mid) c.args.side IsShut (c.in-Ok.ensures.shut before short safe))

pub returns-in-Ok-clause-shut : goal.returns-in-Ok-clause-shut
returns-in-Ok-clause-shut g c before short safe =
    let D = g.D.Disk in
    let mid = c.shut_gate.new.disk in
    let new = c.cut_to_gate.new.disk in
    let held = safe_held (D.crashes mid) (D.seen mid) (D.images mid) c.args.side IsShut (c.in-Ok.ensures.shut before short safe) in
    on_ok_weaker c.cut_to_gate.result (λ _. leads_held D.crashes D.seen D.images D.moment D.left_since c.args.side IsShut mid new c.cut_to_gate.ensures.told (c.cut_to_gate.ensures.either held)) (c.cut_to_gate.ensures.bare held)

pub returns-in-Ok-clause-either : goal.returns-in-Ok-clause-either
returns-in-Ok-clause-either g c before short safe =
    let D = g.D.Disk in
    let mid = c.shut_gate.new.disk in
    let new = c.cut_to_gate.new.disk in
    let held = safe_held (D.crashes mid) (D.seen mid) (D.images mid) c.args.side IsShut (c.in-Ok.ensures.shut before short safe) in
    leads_then D.crashes D.seen D.images D.moment D.left_since c.args.side (WhileShut before) c.args.disk.now mid new c.in-Ok.ensures.told (c.in-Ok.ensures.either before short safe)
    (leads_weaker D.crashes D.seen D.images D.moment D.left_since c.args.side IsShut (WhileShut before) mid new (shut_while before) (c.cut_to_gate.ensures.either held))
