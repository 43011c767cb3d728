use Rattle.std.proofs.Common.{◌≡◌, ap, ◌∙◌, take, arith}
use Rattle.std.proofs.lemmas.List.{take_all}
use Rattle.byte_text.specs.Requests.{total}
use Rattle.record_writer.specs.LengthLaws.{next_bytes, bytes_within}
use Rattle.live_fence.proofs.pairs.bytes_of.Goals as goal

pub loop-at-preserved : goal.loop-at-preserved
loop-at-preserved c =
    let next = next_bytes c.args.request.now c.loop-at.at c.word.result.now c.word.ensures in
    omega (arith, next, c.loop-at.invariant)

pub overflow_add-sum : goal.overflow_add-sum
overflow_add-sum c =
    let within = bytes_within c.args.request.now c.loop-at.at c.word.result.now c.word.ensures in
    omega (arith, within, c.loop-at.invariant, c.words-at-end.ensures.fits.small)

pub returns-clause-bytes : goal.returns-clause-bytes
returns-clause-bytes c =
    let words = c.args.request.now in
    let all : take c.loop-at.at words ≡ words = take_all c.loop-at.at words (omega (arith, c.loop-at-test.false, c.words-at-end.ensures.count)) in
    c.loop-at.invariant ∙ ap total all
