use Rattle.std.proofs.Common.{◌≡◌, ap, ◌∙◌, take, arith}
use Rattle.std.proofs.lemmas.List.{take_all}
use Rattle.record_writer.specs.Lengths.{words_len}
use Rattle.record_writer.specs.LengthLaws.{next_word, word_short}
use Rattle.record_writer.proofs.lengths.words_len.Goals as goal

pub loop-at-preserved : goal.loop-at-preserved
loop-at-preserved c =
    let words = c.args.words.now in
    let next = next_word words c.loop-at.at c.word.result.now c.word.ensures in
    let small = word_short words c.loop-at.at c.word.result.now c.words-at-end.ensures.fits.short c.word.ensures in
    record {
      counted = omega (arith, next, c.loop-at.invariant.counted, c.bulk_len-sum.ensures.value);
      short = omega (arith, small, c.loop-at.invariant.short, c.bulk_len-sum.ensures.short);
    }

pub returns-clause-value : goal.returns-clause-value
returns-clause-value c =
    let words = c.args.words.now in
    let all : take c.loop-at.at words ≡ words = take_all c.loop-at.at words (omega (arith, c.loop-at-test.false, c.words-at-end.ensures.count)) in
    c.loop-at.invariant.counted ∙ ap words_len all

pub returns-clause-short : goal.returns-clause-short
returns-clause-short c = omega (arith, c.loop-at.invariant.short, c.words-at-end.ensures.fits.few, c.words-at-end.ensures.count)
