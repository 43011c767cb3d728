use Rattle.std.proofs.Common.{◌+◌, ◌<◌, length, arith}
use Rattle.resp_frames.proofs.StepLaws.{numbers_of}
use Rattle.resp_frames.proofs.ScanLaws.{run_on, goes, whole, fails, ends}
use Rattle.resp_frames.proofs.pieces.read_piece.Goals as goal

pub step-requires : goal.step-requires
step-requires c = numbers_of c.behind_run-behind.result.0 c.behind_run-behind.ensures.place

pub returns-then-at-piece : goal.returns-then-at-piece
returns-then-at-piece c =
    let run = c.behind_run-behind in
    let reached = run_on c.args.place c.loop-at.place run.result.0 c.args.piece.now c.loop-at.at run.result.1 c.loop-at.invariant.0 run.ensures.most run.ensures.place run.ensures.reads in
    ends c.args.place run.result.0 c.args.piece.now (c.loop-at.at + run.result.1) reached (omega (arith, c.if-at-piece.true))

pub returns-in-Whole : goal.returns-in-Whole
returns-in-Whole c =
    let run = c.behind_run-behind in
    let reached = run_on c.args.place c.loop-at.place run.result.0 c.args.piece.now c.loop-at.at run.result.1 c.loop-at.invariant.0 run.ensures.most run.ensures.place run.ensures.reads in
    let before = c.loop-at-test.true in
    whole c.args.place run.result.0 c.args.piece.now (c.loop-at.at + run.result.1) reached (omega (arith, before, run.ensures.most, c.if-at-piece.false)) c.in-Whole.ensures

pub returns-in-Fails : goal.returns-in-Fails
returns-in-Fails c =
    let run = c.behind_run-behind in
    let reached = run_on c.args.place c.loop-at.place run.result.0 c.args.piece.now c.loop-at.at run.result.1 c.loop-at.invariant.0 run.ensures.most run.ensures.place run.ensures.reads in
    let before = c.loop-at-test.true in
    fails c.args.place run.result.0 c.args.piece.now (c.loop-at.at + run.result.1) c.in-Fails.fault reached (omega (arith, before, run.ensures.most, c.if-at-piece.false)) c.in-Fails.ensures

pub loop-at-preserved : goal.loop-at-preserved
loop-at-preserved c =
    let run = c.behind_run-behind in
    let reached = run_on c.args.place c.loop-at.place run.result.0 c.args.piece.now c.loop-at.at run.result.1 c.loop-at.invariant.0 run.ensures.most run.ensures.place run.ensures.reads in
    let before = c.loop-at-test.true in
    let inside : c.loop-at.at + run.result.1 < length c.args.piece.now = omega (arith, before, run.ensures.most, c.if-at-piece.false) in
    (goes c.args.place run.result.0 c.in-Goes.next c.args.piece.now (c.loop-at.at + run.result.1) reached inside c.in-Goes.ensures, omega (arith, inside))
