use Rattle.std.proofs.Common.{◌≡◌, ◌∙◌, sym, ap, inl, inr}
use Rattle.std.proofs.lemmas.Result.{IfErr-weaker}
use Rattle.outside.specs.declared.sides.Side.{Side}
use Rattle.append_log.specs.declared.side_heads.Start.TheVariants.{Damaged}
use Rattle.journal.proofs.LogReads.{on_all, on_ok, log_side_read, no_log_read, reading_leaves}
use Rattle.journal.proofs.Opens.{start_safe, used_start, if_err_each, stays_told}
use Rattle.journal.proofs.log_reads.read_disk.Goals as goal

pub returns-in-Ok-Standing-clause-read : goal.returns-in-Ok-Standing-clause-read
returns-in-Ok-Standing-clause-read g c =
    let D = g.D.Disk in
    let R = g.R.Replay in
    let old = c.args.disk.now in
    let mid = c.start_log.new.disk in
    let arm = c.in-Ok-Standing in
    on_ok c.read_side.result _ _
    (log_side_read D.crashes D.seen D.images D.moment D.left_since R.took R.fault old mid arm.side arm.version arm.generation arm.len c.read_side.new.replay
    (λ s told. start_safe D.crashes D.seen D.images D.moment D.left_since D.faults old mid s told c.start_log.ensures.same (arm.ensures.a s told) (arm.ensures.b s told))
    (λ s told. used_start s arm.side arm.version arm.generation arm.len arm.field-0 (sym arm.field-0-is) (arm.ensures.start s told)))
    c.read_side.ensures.read

pub returns-in-Ok-Standing-clause-leaves : goal.returns-in-Ok-Standing-clause-leaves
returns-in-Ok-Standing-clause-leaves g c s told crashes =
    let D = g.D.Disk in
    let old = c.args.disk.now in
    let mid = c.start_log.new.disk in
    let arm = c.in-Ok-Standing in
    let safe = start_safe D.crashes D.seen D.images D.moment D.left_since D.faults old mid s told c.start_log.ensures.same (arm.ensures.a s told) (arm.ensures.b s told) in
    reading_leaves D.crashes D.seen D.images D.moment D.left_since old mid c.read_side.new.disk s told (g.met.D.Disk.as_read old) c.start_log.ensures.moments (c.read_side.ensures.leaves s safe (c.start_log.ensures.told ∙ crashes))

pub returns-in-Ok-Standing-clause-damaged : goal.returns-in-Ok-Standing-clause-damaged
returns-in-Ok-Standing-clause-damaged g c s told =
    let D = g.D.Disk in
    let old = c.args.disk.now in
    let mid = c.start_log.new.disk in
    let arm = c.in-Ok-Standing in
    let safe = start_safe D.crashes D.seen D.images D.moment D.left_since D.faults old mid s told c.start_log.ensures.same (arm.ensures.a s told) (arm.ensures.b s told) in
    let used = used_start s arm.side arm.version arm.generation arm.len arm.field-0 (sym arm.field-0-is) (arm.ensures.start s told) in
    IfErr-weaker c.read_side.result _ _ (λ fault broken side place is. inr (broken side place is)) (c.read_side.ensures.damaged s safe used)

pub returns-in-Ok-Standing-clause-same : goal.returns-in-Ok-Standing-clause-same
returns-in-Ok-Standing-clause-same g c s told =
    let D = g.D.Disk in
    let arm = c.in-Ok-Standing in
    let safe = start_safe D.crashes D.seen D.images D.moment D.left_since D.faults c.args.disk.now c.start_log.new.disk s told c.start_log.ensures.same (arm.ensures.a s told) (arm.ensures.b s told) in
    (c.read_side.ensures.settled s safe).told

pub returns-in-Ok-Standing-clause-safe : goal.returns-in-Ok-Standing-clause-safe
returns-in-Ok-Standing-clause-safe g c s told =
    let D = g.D.Disk in
    let arm = c.in-Ok-Standing in
    let safe = start_safe D.crashes D.seen D.images D.moment D.left_since D.faults c.args.disk.now c.start_log.new.disk s told c.start_log.ensures.same (arm.ensures.a s told) (arm.ensures.b s told) in
    on_all c.read_side.result _ (c.read_side.ensures.settled s safe)

pub returns-in-Ok-Standing-clause-settled : goal.returns-in-Ok-Standing-clause-settled
returns-in-Ok-Standing-clause-settled g c s told =
    let D = g.D.Disk in
    let arm = c.in-Ok-Standing in
    let safe = start_safe D.crashes D.seen D.images D.moment D.left_since D.faults c.args.disk.now c.start_log.new.disk s told c.start_log.ensures.same (arm.ensures.a s told) (arm.ensures.b s told) in
    if_err_each c.read_side.result _ (λ fault side place is. c.read_side.ensures.settled s safe)

pub returns-in-Ok-Fresh-clause-read : goal.returns-in-Ok-Fresh-clause-read
returns-in-Ok-Fresh-clause-read g c =
    let D = g.D.Disk in
    let R = g.R.Replay in
    let arm = c.in-Ok-Fresh in
    no_log_read R.took R.fault (D.seen c.args.disk.now) c.args.replay.now c.requires.first (λ s told. sym (arm.ensures.start s told).0 ∙ arm.field-0-is)

pub returns-in-Ok-Fresh-clause-same : goal.returns-in-Ok-Fresh-clause-same
returns-in-Ok-Fresh-clause-same g c s told = stays_told (g.D.Disk.seen c.args.disk.now) (g.D.Disk.seen c.start_log.new.disk) s told c.start_log.ensures.same

pub returns-in-Ok-Fresh-clause-safe : goal.returns-in-Ok-Fresh-clause-safe
returns-in-Ok-Fresh-clause-safe g c s told =
    let D = g.D.Disk in
    let arm = c.in-Ok-Fresh in
    start_safe D.crashes D.seen D.images D.moment D.left_since D.faults c.args.disk.now c.start_log.new.disk s told c.start_log.ensures.same (arm.ensures.a s told) (arm.ensures.b s told)

pub returns-in-Ok-Damaged-clause-damaged : goal.returns-in-Ok-Damaged-clause-damaged
returns-in-Ok-Damaged-clause-damaged g c s told side place is =
    let arm = c.in-Ok-Damaged in
    let sides : arm.side ≡ side = cc in
    let places : arm.place ≡ place = cc in
    inl (sym (arm.ensures.start s told).0 ∙ arm.field-0-is ∙ ap (λ (x : Side). Damaged x arm.place) sides ∙ ap (Damaged side) places)

pub returns-in-Ok-Damaged-clause-same : goal.returns-in-Ok-Damaged-clause-same
returns-in-Ok-Damaged-clause-same g c s told = stays_told (g.D.Disk.seen c.args.disk.now) (g.D.Disk.seen c.start_log.new.disk) s told c.start_log.ensures.same

pub returns-in-Ok-Damaged-clause-settled : goal.returns-in-Ok-Damaged-clause-settled
returns-in-Ok-Damaged-clause-settled g c s told side place is =
    let D = g.D.Disk in
    let arm = c.in-Ok-Damaged in
    start_safe D.crashes D.seen D.images D.moment D.left_since D.faults c.args.disk.now c.start_log.new.disk s told c.start_log.ensures.same (arm.ensures.a s told) (arm.ensures.b s told)

pub returns-in-Err-clause-same : goal.returns-in-Err-clause-same
returns-in-Err-clause-same g c s told = stays_told (g.D.Disk.seen c.args.disk.now) (g.D.Disk.seen c.start_log.new.disk) s told c.start_log.ensures.same
