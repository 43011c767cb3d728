use Rattle.std.proofs.Common.{◌≡◌, ◌∙◌, false, sym, subst, inl}
use Rattle.byte_text.specs.Names.{Bytes}
use Rattle.outside.specs.Disks.{Torn}
use Rattle.log_sides.specs.Making.{is_shut, WhileShut}
use Rattle.log_sides.specs.Closing.{gate_torn}
use Rattle.log_sides.specs.Crashing.{leads_step, leads_then, leads_weaker, safe_held}
use Rattle.log_sides.proofs.side_making.shut_gate.Goals as goal

pub returns-in-Ok-true-clause-either : goal.returns-in-Ok-true-clause-either
returns-in-Ok-true-clause-either g c before short safe =
    let D = g.D.Disk in
    leads_weaker D.crashes D.seen D.images D.moment D.left_since c.args.side (λ x. x ≡ before) (WhileShut before) c.args.disk.now c.has_shut_gate.new.disk (λ x same. inl same) (c.in-Ok-true.ensures.same before safe)

pub returns-in-Err-clause-either : goal.returns-in-Err-clause-either
returns-in-Err-clause-either g c before short safe =
    let D = g.D.Disk in
    leads_weaker D.crashes D.seen D.images D.moment D.left_since c.args.side (λ x. x ≡ before) (WhileShut before) c.args.disk.now c.has_shut_gate.new.disk (λ x same. inl same) (c.in-Err.ensures.same before safe)

pub returns-in-Ok-false-clause-either : goal.returns-in-Ok-false-clause-either
returns-in-Ok-false-clause-either g c before short safe =
    let D = g.D.Disk in
    let side = c.args.side in
    let old = c.args.disk.now in
    let mid = c.has_shut_gate.new.disk in
    let new = c.write_durably.new.disk in
    let unshut : is_shut before ≡ false = sym (c.in-Ok-false.ensures.value before safe) ∙ c.in-Ok-false.field-0-test in
    leads_then D.crashes D.seen D.images D.moment D.left_since side (WhileShut before) old mid new c.in-Ok-false.ensures.told
    (leads_weaker D.crashes D.seen D.images D.moment D.left_since side (λ x. x ≡ before) (WhileShut before) old mid (λ x same. inl same) (c.in-Ok-false.ensures.same before safe))
    (leads_step D.crashes D.seen D.images D.moment D.left_since side (λ x. x ≡ before) (WhileShut before) (Torn 0 1) mid new
    (safe_held (D.crashes mid) (D.seen mid) (D.images mid) side (λ x. x ≡ before) (c.in-Ok-false.ensures.safe before safe))
    (λ x y same torn. gate_torn before y short unshut (subst (λ (l : Bytes). Torn 0 1 l y) same torn)) c.write_durably.ensures.torn c.write_durably.ensures.crash c.write_durably.ensures.moments)
