use Rattle.std.proofs.Common.{◌≡◌, ◌∙◌, [], sym, ap, inl, inr}
use Rattle.std.proofs.lemmas.Result.{IfErr-weaker, IfOk-weaker}
use Rattle.outside.specs.declared.sides.Side.{Side}
use Rattle.outside.specs.CrashLaws.{weaker}
use Rattle.log_sides.specs.Texts.{newest}
use Rattle.append_log.specs.declared.side_heads.Start.TheVariants.{Damaged}
use Rattle.journal.specs.Logs.{HoldsLog}
use Rattle.journal.specs.Openings.{first_version, first_generation, first_len}
use Rattle.journal.proofs.Steps.{if_ok_two}
use Rattle.journal.proofs.Opens.{start_safe, opening_leaves, opened_read, opened_fresh, used_start, if_err_each, stays_told}
use Rattle.journal.proofs.openings.open_log.Goals as goal

pub returns-in-Ok-Standing-clause-opened : goal.returns-in-Ok-Standing-clause-opened
returns-in-Ok-Standing-clause-opened g c =
    let D = g.D.Disk in
    let R = g.R.Replay in
    let old = c.args.disk.now in
    let mid = c.start_log.new.disk in
    let arm = c.in-Ok-Standing in
    if_ok_two c.read_log.result (λ u. u.log.version ≡ arm.version) _ _
    (λ u version_is read. opened_read D.crashes D.seen D.images D.moment D.left_since D.faults R.took R.fault old mid c.read_log.new.disk arm.side arm.version u.log.version arm.generation arm.len c.read_log.new.replay _
    c.start_log.ensures.moments.later c.start_log.ensures.told
    (λ s told. start_safe D.crashes D.seen D.images D.moment D.left_since D.faults old mid s told c.start_log.ensures.same (arm.ensures.a s told) (arm.ensures.b s told))
    (λ s told. used_start s arm.side arm.version arm.generation arm.len arm.field-0 (sym arm.field-0-is) (arm.ensures.start s told))
    c.read_log.ensures.leaves (g.met.D.Disk.only_now mid) read version_is)
    c.read_log.ensures.version c.read_log.ensures.read

pub returns-in-Ok-Standing-clause-leaves : goal.returns-in-Ok-Standing-clause-leaves
returns-in-Ok-Standing-clause-leaves g c s told crashes =
    let D = g.D.Disk in
    let old = c.args.disk.now in
    let mid = c.start_log.new.disk in
    let arm = c.in-Ok-Standing in
    let safe = start_safe D.crashes D.seen D.images D.moment D.left_since D.faults old mid s told c.start_log.ensures.same (arm.ensures.a s told) (arm.ensures.b s told) in
    opening_leaves D.crashes D.seen D.images D.moment D.left_since D.faults old mid c.read_log.new.disk s (λ x. x ≡ s) told (g.met.D.Disk.as_read old) c.start_log.ensures.moments (c.read_log.ensures.leaves s safe (c.start_log.ensures.told ∙ crashes)) (λ x same. inl same)

pub returns-in-Ok-Standing-clause-damaged : goal.returns-in-Ok-Standing-clause-damaged
returns-in-Ok-Standing-clause-damaged g c s told =
    let D = g.D.Disk in
    let old = c.args.disk.now in
    let mid = c.start_log.new.disk in
    let arm = c.in-Ok-Standing in
    let safe = start_safe D.crashes D.seen D.images D.moment D.left_since D.faults old mid s told c.start_log.ensures.same (arm.ensures.a s told) (arm.ensures.b s told) in
    let used = used_start s arm.side arm.version arm.generation arm.len arm.field-0 (sym arm.field-0-is) (arm.ensures.start s told) in
    IfErr-weaker c.read_log.result _ _ (λ fault broken side place is. inr (broken side place is)) (c.read_log.ensures.damaged s safe used)

pub returns-in-Ok-Fresh-clause-opened : goal.returns-in-Ok-Fresh-clause-opened
returns-in-Ok-Fresh-clause-opened g c =
    let D = g.D.Disk in
    let R = g.R.Replay in
    let old = c.args.disk.now in
    let mid = c.start_log.new.disk in
    let arm = c.in-Ok-Fresh in
    opened_fresh D.crashes D.seen D.images D.moment D.left_since D.faults c.begin_log.result R.took R.fault old mid c.begin_log.new.disk c.args.replay.now (λ u. u.log.version) _
    c.start_log.ensures.moments.later c.start_log.ensures.told c.requires.first
    (λ s told. start_safe D.crashes D.seen D.images D.moment D.left_since D.faults old mid s told c.start_log.ensures.same (arm.ensures.a s told) (arm.ensures.b s told))
    (λ s told. sym (arm.ensures.start s told).0 ∙ arm.field-0-is)
    c.begin_log.ensures.leaves (g.met.D.Disk.only_now mid) c.begin_log.ensures.kept c.begin_log.ensures.version

pub returns-in-Ok-Fresh-clause-leaves : goal.returns-in-Ok-Fresh-clause-leaves
returns-in-Ok-Fresh-clause-leaves g c s told crashes =
    let D = g.D.Disk in
    let old = c.args.disk.now in
    let mid = c.start_log.new.disk in
    let arm = c.in-Ok-Fresh in
    let safe = start_safe D.crashes D.seen D.images D.moment D.left_since D.faults old mid s told c.start_log.ensures.same (arm.ensures.a s told) (arm.ensures.b s told) in
    opening_leaves D.crashes D.seen D.images D.moment D.left_since D.faults old mid c.begin_log.new.disk s (HoldsLog newest []) told (g.met.D.Disk.as_read old) c.start_log.ensures.moments
    (c.begin_log.ensures.leaves s safe (sym (arm.ensures.start s told).0 ∙ arm.field-0-is) (c.start_log.ensures.told ∙ crashes)) (λ x holds. inr (sym (arm.ensures.start s told).0 ∙ arm.field-0-is, holds))

pub returns-in-Ok-Damaged-clause-leaves : goal.returns-in-Ok-Damaged-clause-leaves
returns-in-Ok-Damaged-clause-leaves g c s told crashes =
    let D = g.D.Disk in
    weaker D.moment D.left_since c.args.disk.now c.start_log.new.disk (D.images c.args.disk.now) _ (λ x image. inl image) c.start_log.ensures.moments

pub returns-in-Err-clause-leaves : goal.returns-in-Err-clause-leaves
returns-in-Err-clause-leaves g c s told crashes =
    let D = g.D.Disk in
    weaker D.moment D.left_since c.args.disk.now c.start_log.new.disk (D.images c.args.disk.now) _ (λ x image. inl image) c.start_log.ensures.moments

pub returns-in-Ok-Damaged-clause-damaged : goal.returns-in-Ok-Damaged-clause-damaged
returns-in-Ok-Damaged-clause-damaged g c s told side place is =
    let arm = c.in-Ok-Damaged in
    let sides : arm.side ≡ side = cc in
    let places : arm.place ≡ place = cc in
    inl (sym (arm.ensures.start s told).0 ∙ arm.field-0-is ∙ ap (λ (x : Side). Damaged x arm.place) sides ∙ ap (Damaged side) places)

pub returns-in-Ok-Standing-clause-same : goal.returns-in-Ok-Standing-clause-same
returns-in-Ok-Standing-clause-same g c s told =
    let D = g.D.Disk in
    let old = c.args.disk.now in
    let mid = c.start_log.new.disk in
    let arm = c.in-Ok-Standing in
    let safe = start_safe D.crashes D.seen D.images D.moment D.left_since D.faults old mid s told c.start_log.ensures.same (arm.ensures.a s told) (arm.ensures.b s told) in
    if_err_each c.read_log.result _ (λ fault. inl (c.read_log.ensures.settled s safe).told)

pub returns-in-Ok-Standing-clause-settled : goal.returns-in-Ok-Standing-clause-settled
returns-in-Ok-Standing-clause-settled g c s told =
    let D = g.D.Disk in
    let old = c.args.disk.now in
    let mid = c.start_log.new.disk in
    let arm = c.in-Ok-Standing in
    let safe = start_safe D.crashes D.seen D.images D.moment D.left_since D.faults old mid s told c.start_log.ensures.same (arm.ensures.a s told) (arm.ensures.b s told) in
    if_err_each c.read_log.result _ (λ fault side place is. c.read_log.ensures.settled s safe)

pub returns-in-Ok-Fresh-clause-settled : goal.returns-in-Ok-Fresh-clause-settled
returns-in-Ok-Fresh-clause-settled g c s told = IfErr-weaker c.begin_log.result _ _ (λ fault none side place is. absurd (none side place is)) c.begin_log.ensures.damaged

pub returns-in-Ok-Damaged-clause-settled : goal.returns-in-Ok-Damaged-clause-settled
returns-in-Ok-Damaged-clause-settled g c s told side place is =
    let D = g.D.Disk in
    let old = c.args.disk.now in
    let mid = c.start_log.new.disk in
    let arm = c.in-Ok-Damaged in
    start_safe D.crashes D.seen D.images D.moment D.left_since D.faults old mid s told c.start_log.ensures.same (arm.ensures.a s told) (arm.ensures.b s told)

pub returns-in-Ok-Fresh-clause-same : goal.returns-in-Ok-Fresh-clause-same
returns-in-Ok-Fresh-clause-same g c s told =
    let D = g.D.Disk in
    let old = c.args.disk.now in
    let mid = c.start_log.new.disk in
    let arm = c.in-Ok-Fresh in
    let safe = start_safe D.crashes D.seen D.images D.moment D.left_since D.faults old mid s told c.start_log.ensures.same (arm.ensures.a s told) (arm.ensures.b s told) in
    c.begin_log.ensures.same s safe (sym (arm.ensures.start s told).0 ∙ arm.field-0-is)

pub returns-in-Ok-Damaged-clause-same : goal.returns-in-Ok-Damaged-clause-same
returns-in-Ok-Damaged-clause-same g c s told = inl (stays_told (g.D.Disk.seen c.args.disk.now) (g.D.Disk.seen c.start_log.new.disk) s told c.start_log.ensures.same)

pub returns-in-Err-clause-same : goal.returns-in-Err-clause-same
returns-in-Err-clause-same g c s told = inl (stays_told (g.D.Disk.seen c.args.disk.now) (g.D.Disk.seen c.start_log.new.disk) s told c.start_log.ensures.same)

pub returns-in-Ok-Standing-clause-len : goal.returns-in-Ok-Standing-clause-len
returns-in-Ok-Standing-clause-len g c s told =
    let arm = c.in-Ok-Standing in
    IfOk-weaker c.read_log.result _ _ (λ u is. is ∙ sym (ap first_len (sym (arm.ensures.start s told).0 ∙ arm.field-0-is))) c.read_log.ensures.len

pub returns-in-Ok-Fresh-clause-len : goal.returns-in-Ok-Fresh-clause-len
returns-in-Ok-Fresh-clause-len g c s told =
    let arm = c.in-Ok-Fresh in
    IfOk-weaker c.begin_log.result _ _ (λ u is. is ∙ sym (ap first_len (sym (arm.ensures.start s told).0 ∙ arm.field-0-is))) c.begin_log.ensures.len

pub returns-in-Ok-Standing-clause-version : goal.returns-in-Ok-Standing-clause-version
returns-in-Ok-Standing-clause-version g c s told =
    let arm = c.in-Ok-Standing in
    IfOk-weaker c.read_log.result _ _ (λ u is. is ∙ sym (ap first_version (sym (arm.ensures.start s told).0 ∙ arm.field-0-is))) c.read_log.ensures.version

pub returns-in-Ok-Fresh-clause-version : goal.returns-in-Ok-Fresh-clause-version
returns-in-Ok-Fresh-clause-version g c s told =
    let arm = c.in-Ok-Fresh in
    IfOk-weaker c.begin_log.result _ _ (λ u is. is ∙ sym (ap first_version (sym (arm.ensures.start s told).0 ∙ arm.field-0-is))) c.begin_log.ensures.version

pub returns-in-Ok-Standing-clause-generation : goal.returns-in-Ok-Standing-clause-generation
returns-in-Ok-Standing-clause-generation g c s told =
    let arm = c.in-Ok-Standing in
    IfOk-weaker c.read_log.result _ _ (λ u is. is ∙ sym (ap first_generation (sym (arm.ensures.start s told).0 ∙ arm.field-0-is))) c.read_log.ensures.generation

pub returns-in-Ok-Fresh-clause-generation : goal.returns-in-Ok-Fresh-clause-generation
returns-in-Ok-Fresh-clause-generation g c s told =
    let arm = c.in-Ok-Fresh in
    IfOk-weaker c.begin_log.result _ _ (λ u is. is ∙ sym (ap first_generation (sym (arm.ensures.start s told).0 ∙ arm.field-0-is))) c.begin_log.ensures.generation
