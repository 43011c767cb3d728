use Rattle.std.proofs.Common.{◌≡◌, refl, [], None, inl, inr}
use Rattle.outside.specs.declared.sides.Side.TheVariants.{A}
use Rattle.log_sides.specs.Texts.{newest}
use Rattle.journal.specs.Logs.{HoldsLog}
use Rattle.journal.proofs.Steps.{kept_same}
use Rattle.journal.specs.Starts.{fresh_short}
use Rattle.journal.proofs.Found.{side_safe}
use Rattle.journal.proofs.Opens.{kept_made, made_leaves, leaves_same, told_same}
use Rattle.journal.proofs.openings.begin_log.Goals as goal

pub returns-in-Ok-clause-kept : goal.returns-in-Ok-clause-kept
returns-in-Ok-clause-kept g c s safe fresh =
    let D = g.D.Disk in
    let old = c.args.disk.now in
    let new = c.make.new.disk in
    let log = c.in-Ok.log in
    let reads = side_safe (D.crashes old) (D.seen old) (D.images old) s A (λ x. x ≡ s.a) safe refl in
    let short = fresh_short s fresh in
    kept_same (D.crashes new) (D.seen new) (D.images new) A log.side newest log.version 1 log.generation log.gate log.gate None [] [] c.in-Ok.ensures.side c.in-Ok.ensures.version c.in-Ok.ensures.generation refl
    (kept_made D.crashes D.seen D.images D.moment D.left_since D.faults old new log.gate s c.make.ensures.told safe fresh (c.in-Ok.ensures.either s.a short reads) (c.in-Ok.ensures.stands s.a short reads))

pub returns-in-Ok-clause-leaves : goal.returns-in-Ok-clause-leaves
returns-in-Ok-clause-leaves g c s safe fresh told =
    let D = g.D.Disk in
    let old = c.args.disk.now in
    let reads = side_safe (D.crashes old) (D.seen old) (D.images old) s A (λ x. x ≡ s.a) safe refl in
    made_leaves D.crashes D.seen D.images D.moment D.left_since D.faults old c.make.new.disk s safe fresh (c.in-Ok.ensures.either s.a (fresh_short s fresh) reads) told

pub returns-in-Err-Disk-clause-leaves : goal.returns-in-Err-Disk-clause-leaves
returns-in-Err-Disk-clause-leaves g c s safe fresh told =
    let D = g.D.Disk in
    let old = c.args.disk.now in
    let reads = side_safe (D.crashes old) (D.seen old) (D.images old) s A (λ x. x ≡ s.a) safe refl in
    made_leaves D.crashes D.seen D.images D.moment D.left_since D.faults old c.make.new.disk s safe fresh (c.in-Err-Disk.ensures.either s.a (fresh_short s fresh) reads c.in-Err-Disk.field-0-is) told

pub returns-in-Err-Memory-clause-leaves : goal.returns-in-Err-Memory-clause-leaves
returns-in-Err-Memory-clause-leaves g c s safe fresh told =
    let D = g.D.Disk in
    let old = c.args.disk.now in
    leaves_same D.moment D.left_since old c.make.new.disk (HoldsLog newest []) (c.in-Err-Memory.ensures.memory c.in-Err-Memory.field-0-is)

pub returns-in-Err-Memory-clause-same : goal.returns-in-Err-Memory-clause-same
returns-in-Err-Memory-clause-same g c s safe fresh =
    inl (told_same g.D.Disk.seen c.args.disk.now c.make.new.disk s (c.in-Err-Memory.ensures.memory c.in-Err-Memory.field-0-is) safe.told)

pub returns-in-Err-Disk-clause-same : goal.returns-in-Err-Disk-clause-same
returns-in-Err-Disk-clause-same g c s safe fresh = inr (refl, fresh)
