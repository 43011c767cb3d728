use Rattle.std.proofs.Common.{◌≡◌, subst, sym, refl}
use Rattle.byte_text.specs.Names.{Bytes}
use Rattle.outside.specs.Sides.{side_of}
use Rattle.log_sides.specs.Texts.{StandsFor}
use Rattle.log_sides.specs.States.{ReadsAs}
use Rattle.journal.specs.Logs.{HoldsOf}
use Rattle.journal.specs.Standing.{holds_of}
use Rattle.journal.specs.KeptLaws.{beside_holds}
use Rattle.journal.proofs.Steps.{beside_stays, leaves_used}
use Rattle.journal.proofs.disk_steps.read_front.Goals as goal

pub returns-clause-bytes : goal.returns-clause-bytes
returns-clause-bytes g c rewriter batches copied kept = c.read.ensures.bytes batches kept.log

pub returns-clause-kept : goal.returns-clause-kept
returns-clause-kept g c rewriter batches copied kept =
    let D = g.D.Disk in
    let log = c.args.log.now in
    let old = c.args.disk.now in
    let new = c.read.new.disk in
    let safe = kept.log.safe in
    let bytes = side_of safe.contents log.side in
    let was : ReadsAs D.crashes D.seen D.images old log.side bytes = record { contents = safe.contents; told = safe.told; has = refl; settled = safe.settled } in
    let is = c.read.ensures.safe bytes was in
    record {
      log = record { place = kept.log.place; safe = record { contents = is.contents; told = is.told; has = subst (StandsFor log.version log.generation batches) (sym is.has) safe.has; settled = is.settled } };
      beside = beside_stays D.crashes D.seen D.images D.moment D.left_since log.side log.generation (λ (x : Bytes). x ≡ bytes) old new rewriter copied c.read.ensures.told (c.read.ensures.same bytes was) kept.beside;
    }

pub returns-clause-leaves : goal.returns-clause-leaves
returns-clause-leaves g c rewriter batches copied kept told =
    let D = g.D.Disk in
    let log = c.args.log.now in
    let old = c.args.disk.now in
    let safe = kept.log.safe in
    let bytes = side_of safe.contents log.side in
    let was : ReadsAs D.crashes D.seen D.images old log.side bytes = record { contents = safe.contents; told = safe.told; has = refl; settled = safe.settled } in
    leaves_used D.crashes D.seen D.images D.moment D.left_since log.side log.generation (λ (x : Bytes). x ≡ bytes) (HoldsOf log.version log.generation batches) old c.read.new.disk told
    (beside_holds (D.crashes old) (D.seen old) (D.images old) log.side log.generation rewriter copied kept.beside)
    (c.read.ensures.same bytes was)
    (λ x here behind. holds_of x log.side log.version log.generation batches (subst (StandsFor log.version log.generation batches) (sym here) safe.has) behind)
