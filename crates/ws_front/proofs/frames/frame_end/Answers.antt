use Rattle.std.proofs.Common.{◌+◌, ◌-◌, ◌<◌, length, ap, Some, arith}
use Rattle.ws_front.proofs.Standing.{at_first, goes_on, none_at, too_few, made, only, shorter}
use Rattle.ws_front.proofs.frames.frame_end.Goals.{then-others-behind-via-then-others-behind, then-others-behind-via-else-others-behind+then-inside-behind}
use Rattle.ws_front.proofs.frames.frame_end.Goals as goal

pub loop-due-init : goal.loop-due-init
loop-due-init c = at_first c.args.bytes.now

pub returns-in_err-inside-clause-only : goal.returns-in_err-inside-clause-only
returns-in_err-inside-clause-only c = λ frame behind is e.
    absurd (none_at c.args.bytes.now c.loop-due.rest.now c.loop-due.due c.loop-due.invariant (omega (arith, c.loop-due-test.true)) c.in_err-inside.ensures.only frame behind is e)

pub returns-then-others-behind-clause-only : goal.returns-then-others-behind-clause-only
returns-then-others-behind-clause-only c =
    let p = c.in_ok-inside.ensures.made in
    let rest = c.in_ok-inside.behind.now in
    let due = c.loop-due.due - 1 + c.in_ok-inside.inside in
    let after = goes_on c.args.bytes.now c.loop-due.rest.now rest c.loop-due.due due p.0 c.loop-due.invariant (omega (arith, c.loop-due-test.true)) p.1 (omega (arith, p.2)) in
    let few : length rest < due = elim c.then-others-behind.branch [
      | then-others-behind-via-then-others-behind w ↦ omega (arith, w.if-others-behind.true)
      | then-others-behind-via-else-others-behind+then-inside-behind w ↦ omega (arith, w.if-others-behind.false, w.if-inside-behind.true)
    ] in
    λ frame behind is e. absurd (too_few c.args.bytes.now rest due after few frame behind is e)

pub loop-due-smaller : goal.loop-due-smaller
loop-due-smaller c =
    let p = c.in_ok-inside.ensures.made in shorter c.loop-due.rest.now c.in_ok-inside.behind.now p.0 p.1

pub loop-due-preserved : goal.loop-due-preserved
loop-due-preserved c =
    let p = c.in_ok-inside.ensures.made in
    goes_on c.args.bytes.now c.loop-due.rest.now c.in_ok-inside.behind.now c.loop-due.due _ p.0 c.loop-due.invariant (omega (arith, c.loop-due-test.true)) p.1 (omega (arith, p.2))

pub returns-clause-made : goal.returns-clause-made
returns-clause-made c = made c.args.bytes.now c.loop-due.rest.now c.loop-due.due c.loop-due.invariant (omega (arith, c.loop-due-test.false))

pub returns-clause-only : goal.returns-clause-only
returns-clause-only c = λ frame behind is e.
    ap Some (only c.args.bytes.now c.loop-due.rest.now c.loop-due.due c.loop-due.invariant (omega (arith, c.loop-due-test.false)) frame behind is e)
