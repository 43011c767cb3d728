use Rattle.std.proofs.Common.{◌≡◌, ◌∙◌, ◌++◌, ℕ, [], take, drop, sym, subst, arith}
use Rattle.outside.specs.declared.sides.Side.{Side}
use Rattle.log_sides.specs.Texts.{with_batch}
use Rattle.log_sides.specs.States.{SideIsSafe}
use Rattle.append_log.specs.Reading.{IsAtGate, IsGateOf}
use Rattle.append_log.specs.declared.side_readers.Gate.{Gate}
use Rattle.append_log.proofs.Passing.{safe_next, same_next}
use Rattle.append_log.proofs.side_ends.End.find.Goals as goal

pub returns-in-Err-clause-same : goal.returns-in-Err-clause-same
returns-in-Err-clause-same g c =
    let D = g.D.Disk in
    let now = c.loop-reader in
    let start = c.args.reader in
    same_next D.crashes D.seen D.images D.moment D.left_since D.faults start.side now.reader.side start.len start.at now.reader.at c.args.disk.now now.disk c.next_batch.new.disk now.invariant.passes now.invariant.side c.next_batch.ensures.same

pub returns-in-Ok-Damaged-clause-same : goal.returns-in-Ok-Damaged-clause-same
returns-in-Ok-Damaged-clause-same g c =
    let D = g.D.Disk in
    let now = c.loop-reader in
    let start = c.args.reader in
    same_next D.crashes D.seen D.images D.moment D.left_since D.faults start.side now.reader.side start.len start.at now.reader.at c.args.disk.now now.disk c.next_batch.new.disk now.invariant.passes now.invariant.side c.next_batch.ensures.same

pub returns-in-Ok-Closed-clause-same : goal.returns-in-Ok-Closed-clause-same
returns-in-Ok-Closed-clause-same g c =
    let D = g.D.Disk in
    let now = c.loop-reader in
    let start = c.args.reader in
    same_next D.crashes D.seen D.images D.moment D.left_since D.faults start.side now.reader.side start.len start.at now.reader.at c.args.disk.now now.disk c.next_batch.new.disk now.invariant.passes now.invariant.side c.next_batch.ensures.same

pub returns-in-Ok-Closed-clause-end : goal.returns-in-Ok-Closed-clause-end
returns-in-Ok-Closed-clause-end g c version generation bytes safe first =
    let D = g.D.Disk in
    let now = c.loop-reader in
    let start = c.args.reader in
    let disk = now.disk in
    let new = c.next_batch.new.self in
    let before = now.invariant.passes.gate version generation bytes safe first in
    let safe_now = subst (λ (x : Side). SideIsSafe (D.crashes disk) (D.seen disk) (D.images disk) x (λ x. x ≡ bytes)) (sym now.invariant.side) (now.invariant.passes.safe bytes safe) in
    let at_gate = subst (λ (n : ℕ). IsAtGate version generation before.0 n now.reader.at bytes) (sym now.invariant.len) before.1 in
    let closed = subst (λ (x : Gate). IsGateOf version generation before.0 bytes new.len new.left new.at x) c.in-Ok-Closed.field-0-is (c.in-Ok-Closed.ensures.gate version generation before.0 bytes safe_now at_gate) in
    (before.0, subst (λ (n : ℕ). IsAtGate version generation before.0 n c.place.result bytes) (c.next_batch.ensures.len ∙ now.invariant.len) (subst (λ (n : ℕ). IsAtGate version generation before.0 new.len n bytes) (sym c.place.ensures) closed.0), closed.1)

pub loop-reader-preserved : goal.loop-reader-preserved
loop-reader-preserved g c =
    let D = g.D.Disk in
    let now = c.loop-reader in
    let start = c.args.reader in
    let disk = now.disk in
    let mid = c.next_batch.new.self in
    let last = c.skip.new.self in
    let passes = now.invariant.passes in
    record {
      side = c.skip.ensures.side ∙ c.next_batch.ensures.side ∙ now.invariant.side;
      len = c.skip.ensures.len ∙ c.next_batch.ensures.len ∙ now.invariant.len;
      passes = record {
        told = c.next_batch.ensures.told ∙ passes.told;
        later = omega (arith, passes.later, c.next_batch.ensures.cause.later);
        safe = λ bytes safe. safe_next D.crashes D.seen D.images start.side now.reader.side disk c.next_batch.new.disk now.invariant.side c.next_batch.ensures.safe bytes (passes.safe bytes safe);
        same = same_next D.crashes D.seen D.images D.moment D.left_since D.faults start.side now.reader.side start.len start.at now.reader.at c.args.disk.now disk c.next_batch.new.disk passes now.invariant.side c.next_batch.ensures.same;
        gate = λ version generation bytes safe first.
            let before = passes.gate version generation bytes safe first in
            let safe_now = subst (λ (x : Side). SideIsSafe (D.crashes disk) (D.seen disk) (D.images disk) x (λ x. x ≡ bytes)) (sym now.invariant.side) (passes.safe bytes safe) in
            let at_gate = subst (λ (n : ℕ). IsAtGate version generation before.0 n now.reader.at bytes) (sym now.invariant.len) before.1 in
            let opened = subst (λ (x : Gate). IsGateOf version generation before.0 bytes mid.len mid.left mid.at x) c.in-Ok-Open.field-0-is (c.in-Ok-Open.ensures.gate version generation before.0 bytes safe_now at_gate) in (
              with_batch before.0 ([] ++ take mid.left (drop mid.at bytes)),
              subst (λ (n : ℕ). IsAtGate version generation (with_batch before.0 ([] ++ take mid.left (drop mid.at bytes))) n last.at bytes) (c.skip.ensures.len ∙ c.next_batch.ensures.len ∙ now.invariant.len) (c.skip.ensures.at version generation before.0 [] bytes opened.1),
            );
      };
    }

pub returns-in-Ok-Damaged-clause-end : goal.returns-in-Ok-Damaged-clause-end
returns-in-Ok-Damaged-clause-end g c version generation bytes safe first =
    let D = g.D.Disk in
    let now = c.loop-reader in
    let disk = now.disk in
    let new = c.next_batch.new.self in
    let before = now.invariant.passes.gate version generation bytes safe first in
    let safe_now = subst (λ (x : Side). SideIsSafe (D.crashes disk) (D.seen disk) (D.images disk) x (λ x. x ≡ bytes)) (sym now.invariant.side) (now.invariant.passes.safe bytes safe) in
    let at_gate = subst (λ (n : ℕ). IsAtGate version generation before.0 n now.reader.at bytes) (sym now.invariant.len) before.1 in
    (before.0, subst (λ (x : Gate). IsGateOf version generation before.0 bytes new.len new.left new.at x) c.in-Ok-Damaged.field-0-is (c.in-Ok-Damaged.ensures.gate version generation before.0 bytes safe_now at_gate))
