use Rattle.std.proofs.Common.{arith}
use Rattle.byte_text.proofs.DigitsRead.{longer, one_more}
use Rattle.byte_text.proofs.numbers.with_digit.Goals.{then-n-via-then-n, then-n-via-else-n+then-digit-n}
use Rattle.byte_text.proofs.numbers.with_digit.Goals as goal

pub returns-then-byte-lt48-clause-only : goal.returns-then-byte-lt48-clause-only
returns-then-byte-lt48-clause-only c = λ m rest small e.
    let l = longer m c.args.n c.args.byte rest small c.ranges.n.fits e in
    absurd (omega (arith, l.low, l.high, c.then-byte-lt48.either))

pub returns-then-n-clause-only : goal.returns-then-n-clause-only
returns-then-n-clause-only c = λ m rest small e.
    let l = longer m c.args.n c.args.byte rest small c.ranges.n.fits e in
    elim c.then-n.branch [ then-n-via-then-n w ↦ absurd (omega (arith, l.low, l.high, l.small, small, w.if-n.true)) | then-n-via-else-n+then-digit-n w ↦ absurd (omega (arith, l.low, l.high, l.small, small, w.if-digit-n.true, w.if-n.false)) ]

pub returns-clause-made : goal.returns-clause-made
returns-clause-made c =
    let n = c.args.n in
    let b = c.args.byte in
    (omega (arith, c.requires), one_more n b c.requires (omega (arith, c.if-byte-lt48.false)) (omega (arith, c.if-byte-gt57.false)) (omega (arith, c.if-n.false, c.if-digit-n.false)))
