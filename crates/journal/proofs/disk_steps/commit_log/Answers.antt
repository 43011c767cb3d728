use Rattle.std.proofs.lemmas.Result.{on_ok_weaker}
use Rattle.log_sides.specs.Texts.{StandsRound, committed}
use Rattle.journal.specs.Logs.{HoldsRound}
use Rattle.journal.specs.Standing.{holds_round}
use Rattle.journal.specs.KeptLaws.{beside_holds}
use Rattle.journal.proofs.Steps.{beside_stays, leaves_used}
use Rattle.journal.proofs.disk_steps.commit_log.Goals as goal

pub returns-clause-kept : goal.returns-clause-kept
returns-clause-kept g c rewriter batches copied kept =
    let D = g.D.Disk in
    let log = c.args.log.now in
    on_ok_weaker c.commit.result
    (λ is. record {
      log = is;
      beside = beside_stays D.crashes D.seen D.images D.moment D.left_since log.side log.generation (StandsRound log.version log.generation batches log.pending) c.args.disk.now c.commit.new.disk rewriter copied c.commit.ensures.told
          (c.commit.ensures.either batches kept.log) kept.beside;
    })
    (c.commit.ensures.stands batches kept.log)

pub returns-clause-leaves : goal.returns-clause-leaves
returns-clause-leaves g c rewriter batches copied kept told =
    let D = g.D.Disk in
    let log = c.args.log.now in
    leaves_used D.crashes D.seen D.images D.moment D.left_since log.side log.generation (StandsRound log.version log.generation batches log.pending) (HoldsRound log.version log.generation batches (committed batches log.pending)) c.args.disk.now c.commit.new.disk told
    (beside_holds (D.crashes c.args.disk.now) (D.seen c.args.disk.now) (D.images c.args.disk.now) log.side log.generation rewriter copied kept.beside)
    (c.commit.ensures.either batches kept.log)
    (λ x here behind. holds_round x log.side log.version log.generation batches (committed batches log.pending) here behind)
