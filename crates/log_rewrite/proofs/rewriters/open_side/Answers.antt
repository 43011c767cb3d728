use Rattle.std.proofs.Common.{◌≤◌, ◌+◌, ◌∷◌, [], arith, inl}
use Rattle.std.proofs.lemmas.Result.{on_ok_weaker}
use Rattle.outside.specs.Disks.{Torn}
use Rattle.log_sides.specs.Texts.{StandsFor, newest, gate_place, max_side}
use Rattle.log_sides.specs.Making.{IsShut}
use Rattle.log_sides.specs.Crashing.{leads_step, leads_then, leads_weaker, safe_now, safe_held, safe_written}
use Rattle.log_rewrite.specs.NewSides.{IsPart, ShutOrStands}
use Rattle.log_rewrite.proofs.Parts.{part_opened, part_torn}
use Rattle.log_rewrite.proofs.rewriters.open_side.Goals as goal

pub returns-in-Ok-clause-stands : goal.returns-in-Ok-clause-stands
returns-in-Ok-clause-stands g c generation gate batches room new =
    let D = g.D.Disk in
    let mid = c.settle.new.disk in
    let end = c.write_durably.new.disk in
    let fits : gate_place newest generation batches + 1 ≤ max_side = omega (arith, room, new.place) in
    on_ok_weaker c.write_durably.result (λ safe. record { place = new.place; safe = safe })
    (safe_written c.write_durably.result (D.crashes mid) (D.crashes end) (D.seen mid) (D.seen end) (D.images end) c.args.side 0 (1 ∷ []) (IsPart generation batches) (StandsFor newest generation batches)
    (safe_now (D.crashes mid) (D.seen mid) (D.images mid) c.args.side (IsPart generation batches) (c.in-Ok.ensures.safe generation gate batches new))
    (λ x part. part_opened generation batches x new.numbered fits part) c.write_durably.ensures.told c.write_durably.ensures.written c.write_durably.ensures.durable)

pub returns-in-Ok-clause-either : goal.returns-in-Ok-clause-either
returns-in-Ok-clause-either g c generation gate batches room new =
    let D = g.D.Disk in
    let mid = c.settle.new.disk in
    let end = c.write_durably.new.disk in
    let fits : gate_place newest generation batches + 1 ≤ max_side = omega (arith, room, new.place) in
    leads_then D.crashes D.seen D.images D.moment D.left_since c.args.side (ShutOrStands generation batches) c.args.disk.now mid end c.in-Ok.ensures.told
    (leads_weaker D.crashes D.seen D.images D.moment D.left_since c.args.side IsShut (ShutOrStands generation batches) c.args.disk.now mid (λ x shut. inl shut) (c.in-Ok.ensures.same new.shut))
    (leads_step D.crashes D.seen D.images D.moment D.left_since c.args.side (IsPart generation batches) (ShutOrStands generation batches) (Torn 0 1) mid end
    (safe_held (D.crashes mid) (D.seen mid) (D.images mid) c.args.side (IsPart generation batches) (c.in-Ok.ensures.safe generation gate batches new))
    (λ x y part torn. part_torn generation batches x y new.numbered fits part torn) c.write_durably.ensures.torn c.write_durably.ensures.crash c.write_durably.ensures.moments)

pub returns-in-Err-clause-either : goal.returns-in-Err-clause-either
returns-in-Err-clause-either g c generation gate batches room new =
    let D = g.D.Disk in
    leads_weaker D.crashes D.seen D.images D.moment D.left_since c.args.side IsShut (ShutOrStands generation batches) c.args.disk.now c.settle.new.disk (λ x shut. inl shut) (c.in-Err.ensures.same new.shut)
