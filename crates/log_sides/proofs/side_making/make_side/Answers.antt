use Rattle.std.proofs.Common.{[], ◌∷◌, inl}
use Rattle.outside.specs.Disks.{Torn}
use Rattle.log_sides.specs.Texts.{StandsFor, newest}
use Rattle.log_sides.specs.Making.{IsMade, WhileShut, WhileMade}
use Rattle.log_sides.specs.Closing.{made_written, made_torn}
use Rattle.log_sides.specs.Crashing.{leads_then, leads_weaker, leads_step, safe_now, safe_held, safe_written}
use Rattle.log_sides.proofs.side_making.make_side.Goals as goal

pub returns-in-Ok-clause-stands : goal.returns-in-Ok-clause-stands
returns-in-Ok-clause-stands g c before short safe =
    let D = g.D.Disk in
    let mid = c.make_closed.new.disk in
    let new = c.write_durably.new.disk in
    safe_written c.write_durably.result (D.crashes mid) (D.crashes new) (D.seen mid) (D.seen new) (D.images new) c.args.side 0 (1 ∷ []) (IsMade c.args.generation) (StandsFor newest c.args.generation [])
    (safe_now (D.crashes mid) (D.seen mid) (D.images mid) c.args.side (IsMade c.args.generation) (c.in-Ok.ensures.made before short safe))
    (λ x made. made_written c.args.generation x c.requires made) c.write_durably.ensures.told c.write_durably.ensures.written c.write_durably.ensures.durable

pub returns-in-Ok-clause-either : goal.returns-in-Ok-clause-either
returns-in-Ok-clause-either g c before short safe =
    let D = g.D.Disk in
    let mid = c.make_closed.new.disk in
    let new = c.write_durably.new.disk in
    leads_then D.crashes D.seen D.images D.moment D.left_since c.args.side (WhileMade c.args.generation before) c.args.disk.now mid new c.in-Ok.ensures.told
    (leads_weaker D.crashes D.seen D.images D.moment D.left_since c.args.side (WhileShut before) (WhileMade c.args.generation before) c.args.disk.now mid (λ x h. inl h) (c.in-Ok.ensures.either before short safe))
    (leads_step D.crashes D.seen D.images D.moment D.left_since c.args.side (IsMade c.args.generation) (WhileMade c.args.generation before) (Torn 0 1) mid new
    (safe_held (D.crashes mid) (D.seen mid) (D.images mid) c.args.side (IsMade c.args.generation) (c.in-Ok.ensures.made before short safe))
    (λ x y made torn. made_torn c.args.generation before x y c.requires made torn) c.write_durably.ensures.torn c.write_durably.ensures.crash c.write_durably.ensures.moments)

pub returns-in-Err-clause-either : goal.returns-in-Err-clause-either
returns-in-Err-clause-either g c before short safe =
    let D = g.D.Disk in
    leads_weaker D.crashes D.seen D.images D.moment D.left_since c.args.side (WhileShut before) (WhileMade c.args.generation before) c.args.disk.now c.make_closed.new.disk (λ x h. inl h) (c.in-Err.ensures.either before short safe)
