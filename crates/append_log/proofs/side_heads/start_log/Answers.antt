use Rattle.std.proofs.Common.{◌≡◌}
use Rattle.std.specs.Prelude.{Result, Ok, Err, OnOk}
use Rattle.outside.specs.declared.sides.Side.TheVariants.{A, B}
use Rattle.log_sides.specs.Crashing.{safe_look}
use Rattle.append_log.proofs.side_heads.start_log.Goals as goal

ok_of : {T E P : Type 0} (r : Result T E) → P → OnOk r P
ok_of (Ok x) p = p
ok_of (Err x) p = tt

pub returns-in-Ok-clause-a : goal.returns-in-Ok-clause-a
returns-in-Ok-clause-a g c s told =
    let D = g.D.Disk in
    let mid = c.sync_both.new.disk in
    let new = c.look_at_both.new.disk in
    ok_of c.look_at_both.result (safe_look (D.crashes mid) (D.crashes new) (D.seen mid) (D.seen new) (D.images mid) (D.images new) A (λ x. x ≡ s.a) (c.in-Ok.ensures.a s told) c.look_at_both.ensures.told c.look_at_both.ensures.same c.look_at_both.ensures.crash)

pub returns-in-Ok-clause-b : goal.returns-in-Ok-clause-b
returns-in-Ok-clause-b g c s told =
    let D = g.D.Disk in
    let mid = c.sync_both.new.disk in
    let new = c.look_at_both.new.disk in
    ok_of c.look_at_both.result (safe_look (D.crashes mid) (D.crashes new) (D.seen mid) (D.seen new) (D.images mid) (D.images new) B (λ x. x ≡ s.b) (c.in-Ok.ensures.b s told) c.look_at_both.ensures.told c.look_at_both.ensures.same c.look_at_both.ensures.crash)
