use Rattle.std.proofs.Common.{◌≡◌, ◌∙◌, ℕ, [], refl, subst, sym}
use Rattle.outside.specs.declared.sides.Side.{Side}
use Rattle.outside.specs.Sides.{side_of}
use Rattle.log_sides.specs.States.{SideIsSafe}
use Rattle.append_log.specs.Reading.{IsAtGate}
use Rattle.journal.proofs.Found.{side_safe}
use Rattle.journal.proofs.LogReads.{side_read}
use Rattle.journal.proofs.Opens.{read_leaves, read_safe, took_from, broken_at, broken_in}
use Rattle.journal.proofs.log_reads.read_side.Goals as goal

pub returns-in-Ok-clause-read : goal.returns-in-Ok-clause-read
returns-in-Ok-clause-read g c =
    let D = g.D.Disk in
    let R = g.R.Replay in
    let old = c.args.disk.now in
    let side = c.args.side in
    let reader = c.new.result in
    let gate = c.in-Ok._gate in
    side_read D.crashes D.seen D.images D.moment D.left_since R.took R.fault old side c.args.version c.args.generation c.args.len gate c.replay_side.new.replay
    (took_from D.crashes D.seen D.images D.moment D.left_since D.faults R.took R.fault old side reader.side c.args.version c.args.len reader.len reader.at gate c.replay_side.new.replay c.new.ensures.side c.new.ensures.len c.new.ensures.at c.in-Ok.ensures.took)

pub returns-in-Ok-clause-leaves : goal.returns-in-Ok-clause-leaves
returns-in-Ok-clause-leaves g c s safe told =
    let D = g.D.Disk in
    read_leaves D.crashes D.seen D.images D.moment D.left_since D.faults c.args.disk.now c.replay_side.new.disk c.new.result.side s safe c.replay_side.ensures.looked told

pub returns-in-Err-clause-leaves : goal.returns-in-Err-clause-leaves
returns-in-Err-clause-leaves g c s safe told =
    let D = g.D.Disk in
    read_leaves D.crashes D.seen D.images D.moment D.left_since D.faults c.args.disk.now c.replay_side.new.disk c.new.result.side s safe c.replay_side.ensures.looked told

pub returns-in-Ok-clause-settled : goal.returns-in-Ok-clause-settled
returns-in-Ok-clause-settled g c s safe =
    let D = g.D.Disk in
    read_safe D.crashes D.seen D.images D.moment D.left_since D.faults c.args.disk.now c.replay_side.new.disk c.new.result.side s safe c.replay_side.ensures.looked

pub returns-in-Err-clause-settled : goal.returns-in-Err-clause-settled
returns-in-Err-clause-settled g c s safe =
    let D = g.D.Disk in
    read_safe D.crashes D.seen D.images D.moment D.left_since D.faults c.args.disk.now c.replay_side.new.disk c.new.result.side s safe c.replay_side.ensures.looked

pub returns-in-Err-clause-damaged : goal.returns-in-Err-clause-damaged
returns-in-Err-clause-damaged g c s safe used there place is =
    let D = g.D.Disk in
    let R = g.R.Replay in
    let old = c.args.disk.now in
    let side = c.args.side in
    let reader = c.new.result in
    let bytes = side_of s side in
    let found = broken_at c.in-Err.stop side there place (sym c.fault_at.ensures ∙ is) in
    broken_in R.fault s side there c.args.version c.args.generation c.args.len place used found.1 (c.in-Err.ensures.broken c.args.generation bytes
    (subst (λ (t : Side). SideIsSafe (D.crashes old) (D.seen old) (D.images old) t (λ x. x ≡ bytes)) (sym c.new.ensures.side) (side_safe (D.crashes old) (D.seen old) (D.images old) s side (λ x. x ≡ bytes) safe refl))
    (subst (λ (n : ℕ). IsAtGate c.args.version c.args.generation [] n reader.at bytes) (sym c.new.ensures.len) (subst (λ (n : ℕ). IsAtGate c.args.version c.args.generation [] c.args.len n bytes) (sym c.new.ensures.at) used.headed.first))
    place found.0)
